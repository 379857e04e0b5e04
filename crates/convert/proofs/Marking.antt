-- What is kept of the instructions of a task, with one more.
use mathlib.Core.Path.{◌≡◌, refl, sym, ap, ◌∙◌}
use mathlib.Core.Bool.{Bool, true, false, not, ◌&&◌, and_assoc, true≢false}
use mathlib.Core.List.{[], ◌∷◌, ◌++◌}
use mathlib.Core.Logic.{◌≢◌}
use Prim.Native.Nat.{ℕ, suc, ◌+◌, ◌*◌}
use native.Mathlib.Nat.{mul-suc, mul-zero}
use native.Mathlib.Omega.{arith}
use lib.Dec.{eqb}
use lib.ListN.{length, length-append}
use borrow.Author.Tests.{eq-eqb, ne_eqb, not-true}
use Rattle.base.specs.Choice.{pick}
use Rattle.base.proofs.Tests.{and_left, and_right, and_true}
use Rattle.plan.specs.declared.Instruction.{Instruction}
use Rattle.plan.specs.Kinds.{op_create}
use Rattle.plan.specs.Programs.{Program}
use Rattle.plan.specs.Repeats.{is_repeat, is_repeat_end, times, body_of, written_from, written_out}
use Rattle.plan.specs.RepeatRefusals.{paired_from, creates_from}
use Rattle.repeat_laws.proofs.Lists.{length_times}
use Rattle.repeat_laws.proofs.Going.{mark_no_create}
use Rattle.convert.specs.declared.marks.Marks.{Marks}
use Rattle.convert.specs.Marks.{start_marks, next_marks, waiting, Marked, MarksOf}

pub marked_none : (g : Program) → Marked g g start_marks
unfolding waiting
marked_none g = record { paired = refl; creates = refl; length = λ h. omega arith; once = λ h. refl }

module _ (g z : Program) (x : Instruction) (m : Marks) (k : Marked g (x ∷ z) m) where
  -- no create is repeated by a repeat or its end
  no_create : eqb x.opcode op_create ≡ false → not (m.inside && eqb x.opcode op_create) ≡ true
  no_create e = rw e (go m.inside)
    where
      go : (b : Bool) → not (b && false) ≡ true
      go true = refl
      go false = refl

  -- what is written: of a repeat, which stands outside; of its end, which stands within one; of another
  repeat_length : is_repeat x ≡ true → (b : Bool) → m.inside ≡ b → m.paired && not b ≡ true
      → m.length + (x.operand * length (body_of z) + length (written_from true z)) ≡ length (written_out g)
  unfolding waiting written_from
  repeat_length e true f h = absurd (true≢false (sym (and_right m.paired false h)))
  repeat_length e false f h =
      rw (f, e, length-append (times x.operand (body_of z)) (written_from true z), length_times x.operand (body_of z)) at (k.length (and_left m.paired true h))

  end_length : is_repeat_end x ≡ true → (b : Bool) → m.inside ≡ b → m.paired && b ≡ true → m.length + length (written_from false z) ≡ length (written_out g)
  unfolding waiting written_from body_of
  end_length e true f h =
      let none : m.rounds * 0 + length (written_from false z) ≡ length (written_from false z) = omega (arith, mul-zero m.rounds) in
      let left : waiting m (x ∷ z) ≡ length (written_from false z) =
      ap (λ (t : Bool). pick t (m.rounds * length (body_of (x ∷ z)) + length (written_from true (x ∷ z))) (length (written_from false (x ∷ z)))) f
      ∙ ap (λ (t : Bool). m.rounds * length (pick t [] (x ∷ body_of z)) + length (written_from (not t) z)) e
      ∙ none in
      ap (λ (n : ℕ). m.length + n) (sym left) ∙ k.length (and_left m.paired true h)
  end_length e false f h = absurd (true≢false (sym (and_right m.paired false h)))

  plain_length : is_repeat x ≡ false → is_repeat_end x ≡ false → (b : Bool) → m.inside ≡ b → m.paired ≡ true
      → m.length + m.rounds + pick b (m.rounds * length (body_of z) + length (written_from true z)) (length (written_from false z)) ≡ length (written_out g)
  unfolding waiting written_from body_of
  plain_length d e true f h =
      let left : waiting m (x ∷ z) ≡ m.rounds * suc (length (body_of z)) + length (written_from true z) =
      ap (λ (t : Bool). pick t (m.rounds * length (body_of (x ∷ z)) + length (written_from true (x ∷ z))) (length (written_from false (x ∷ z)))) f
      ∙ ap (λ (t : Bool). m.rounds * length (pick t [] (x ∷ body_of z)) + length (written_from (not t) z)) e in
      omega (arith, k.length h, left, mul-suc m.rounds (length (body_of z)))
  plain_length d e false f h =
      let left : waiting m (x ∷ z) ≡ suc (length (written_from false z)) =
      ap (λ (t : Bool). pick t (m.rounds * length (body_of (x ∷ z)) + length (written_from true (x ∷ z))) (length (written_from false (x ∷ z)))) f
      ∙ ap (λ (t : Bool). length (pick t (times x.operand (body_of z) ++ written_from true z) (x ∷ written_from false z))) d in
      omega (arith, k.length h, left, k.once f)

  at_repeat : is_repeat x ≡ true → Marked g z (next_marks m x)
  unfolding next_marks paired_from creates_from waiting
  at_repeat e =
      rw e
      (record {
        paired = and_assoc m.paired (not m.inside) (paired_from true z) ∙ rw e at k.paired;
        creates = rw (e, no_create (mark_no_create x (rw e refl))) at k.creates;
        length = λ h. repeat_length e m.inside refl h;
        once = λ h. absurd (true≢false h);
      })

  at_end : is_repeat x ≡ false → is_repeat_end x ≡ true → Marked g z (next_marks m x)
  unfolding next_marks paired_from creates_from waiting
  at_end d e =
      rw (d, e)
      (record {
        paired = and_assoc m.paired m.inside (paired_from false z) ∙ rw (d, e) at k.paired;
        creates = rw (d, e, no_create (mark_no_create x (rw (d, e) refl))) at k.creates;
        length = λ h. end_length e m.inside refl h;
        once = λ h. refl;
      })

  at_plain : is_repeat x ≡ false → is_repeat_end x ≡ false → Marked g z (next_marks m x)
  unfolding next_marks paired_from creates_from waiting
  at_plain d e =
      rw (d, e)
      (record {
        paired = rw (d, e) at k.paired;
        creates = and_assoc m.creates (not (m.inside && eqb x.opcode op_create)) (creates_from m.inside z) ∙ rw (d, e) at k.creates;
        length = λ h. plain_length d e m.inside refl h;
        once = k.once;
      })

  pub marked_more : Marked g z (next_marks m x)
  marked_more = go (is_repeat x) refl (is_repeat_end x) refl
    where
      go : (a : Bool) → is_repeat x ≡ a → (b : Bool) → is_repeat_end x ≡ b → Marked g z (next_marks m x)
      go true e b f = at_repeat e
      go false e true f = at_end e f
      go false e false f = at_plain e f

-- of all
pub marked_all : (g : Program) (m : Marks) → Marked g [] m → MarksOf g m
unfolding paired_from creates_from waiting written_from
marked_all g m k =
    record {
      paired = k.paired;
      creates = sym (and_true m.creates) ∙ k.creates;
      length =
          λ h.
          let both = k.paired ∙ h in
          let out = not-true m.inside (and_right m.paired (not m.inside) both) in
          let said = rw out at (k.length (and_left m.paired (not m.inside) both)) in
          omega (arith, said);
    }

-- one more, by its kind
module _ (m : Marks) (x : Instruction) where
  pub next_repeat : x.opcode ≡ 8 → {p : Bool} → p ≡ m.paired && not m.inside → {r : ℕ} → r ≡ x.operand
      → record { inside = true; paired = p; creates = m.creates; rounds = r; length = m.length } ≡ next_marks m x
  unfolding next_marks
  next_repeat e p r = rw (eq-eqb x.opcode 8 e, p, r) refl

  pub next_end_lem : x.opcode ≡ 9 → {p : Bool} → p ≡ m.paired && m.inside
      → record { inside = false; paired = p; creates = m.creates; rounds = 1; length = m.length } ≡ next_marks m x
  unfolding next_marks
  next_end_lem e p = rw (e, p) refl

  pub next_plain : x.opcode ≢ 8 → x.opcode ≢ 9 → {r : Bool} → r ≡ m.inside && eqb x.opcode op_create → {p : Bool} → p ≡ m.creates && not r
      → record { inside = m.inside; paired = m.paired; creates = p; rounds = m.rounds; length = m.length + m.rounds } ≡ next_marks m x
  unfolding next_marks
  next_plain d e r p = rw (ne_eqb x.opcode 8 d, ne_eqb x.opcode 9 e, p, r) refl
