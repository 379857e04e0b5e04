-- A task goes on from a place, by the instruction that stands there.
use mathlib.Core.Path.{◌≡◌, refl, sym, ◌∙◌}
use mathlib.Core.Bool.{Bool, true, false, not, ◌&&◌}
use mathlib.Core.List.{[], ◌∷◌, ◌++◌, append_assoc, append-nil}
use mathlib.Core.Logic.{by_cases}
use Prim.Native.Nat.{ℕ, zero, suc, ◌-◌, ◌≤◌, ◌<◌}
use native.Mathlib.Decide.{ℕ_discrete, dec_lt}
use native.Mathlib.Omega.{arith}
use lib.Dec.{eqb}
use lib.ListN.{length, take, drop, drop_of_length-le}
use lib.Seq.{drop-cons, take-suc}
use borrow.Author.Tests.{eqb-true, eqb-false, ne_eqb, lt-ltb, le-ltb, not-true, not-false}
use Rattle.base.specs.Choice.{pick}
use Rattle.base.specs.Lists.{every}
use Rattle.base.proofs.Tests.{and_left, and_right, or_cases, every_at, within_low}
use Rattle.plan.specs.declared.Instruction.{Instruction}
use Rattle.plan.specs.Kinds.{op_create, no_instruction}
use Rattle.plan.specs.Programs.{Program, instruction_at}
use Rattle.plan.specs.Repeats.{is_repeat, is_repeat_end, times, body_of, written_from, written_out}
use Rattle.plan.specs.RepeatPlaces.{place, behind_repeat, go_on}
use Rattle.plan.specs.RepeatRefusals.{new_instruction_ok, marks_fit, inside_after, paired_from, creates_from}
use Rattle.repeat_laws.specs.Left.{is_outside, left_from, goings_from, goings, creates_in, Inside, Stands, is_mark, On}
use Rattle.repeat_laws.proofs.Lists.{times_more, product_more, creates_append}

-- the place behind the last repeat
pub behind_at_most : (g : Program) (k : ℕ) → behind_repeat g k ≤ k
unfolding behind_repeat
behind_at_most g zero = omega arith
behind_at_most g (suc k) = go (is_repeat (instruction_at g k)) (behind_at_most g k)
  where
    go : (b : Bool) → behind_repeat g k ≤ k → pick b (suc k) (behind_repeat g k) ≤ suc k
    go true h = omega arith
    go false h = omega arith

pub behind_stays : (g : Program) (k : ℕ) → behind_repeat g (behind_repeat g k) ≡ behind_repeat g k
unfolding behind_repeat
behind_stays g zero = refl
behind_stays g (suc k) = go (is_repeat (instruction_at g k)) refl (behind_stays g k)
  where
    go : (b : Bool) → is_repeat (instruction_at g k) ≡ b → behind_repeat g (behind_repeat g k) ≡ behind_repeat g k
        → behind_repeat g (pick b (suc k) (behind_repeat g k)) ≡ pick b (suc k) (behind_repeat g k)
    go true e h = rw e refl
    go false e h = h

-- a repeat is no end
pub repeat_no_end : (i : Instruction) → is_repeat i ≡ true → is_repeat_end i ≡ false
repeat_no_end i e = let o = eqb-true i.opcode 8 e in ne_eqb i.opcode 9 (λ z. omega arith)

-- a repeat and its end are no creates
pub mark_no_create : (i : Instruction) → is_mark i ≡ true → eqb i.opcode op_create ≡ false
mark_no_create i e =
    or_cases (is_repeat i) (is_repeat_end i) e
    (λ r. let o = eqb-true i.opcode 8 r in ne_eqb i.opcode op_create (λ z. omega arith))
    (λ r. let o = eqb-true i.opcode 9 r in ne_eqb i.opcode op_create (λ z. omega arith))

-- a place from which rounds are left is in a repeat
pub some_inside : (k r : ℕ) → 1 ≤ r → is_outside (place k r) ≡ false
some_inside k r h = ne_eqb r 0 (λ e. omega arith)

module _ (g : Program) (k r : ℕ) (more : k < length g) where
  abbrev i : Instruction
  i = instruction_at g k

  abbrev z : Program
  z = drop (suc k) g

  here : drop k g ≡ i ∷ z
  here = drop-cons g k no_instruction more

  taken : creates_in (take (suc k) g) ≡ creates_in (take k g) ++ creates_in (i ∷ [])
  taken = rw (take-suc g k no_instruction more) (creates_append (take k g) (i ∷ []))

  no_more : eqb i.opcode op_create ≡ false → creates_in (take (suc k) g) ≡ creates_in (take k g)
  unfolding creates_in
  no_more e = taken ∙ rw e (append-nil (creates_in (take k g)))

  module _ (s : Stands g (place k r)) where
    abbrev in_it : Bool
    in_it = not (eqb r 0)

    mark_here : marks_fit in_it i ≡ true
    unfolding paired_from
    mark_here = and_left (marks_fit in_it i) (paired_from (inside_after in_it i) z) (rw here at s.paired)

    paired_then : paired_from (inside_after in_it i) z ≡ true
    unfolding paired_from
    paired_then = and_right (marks_fit in_it i) (paired_from (inside_after in_it i) z) (rw here at s.paired)

    create_here : in_it && eqb i.opcode op_create ≡ false
    unfolding creates_from
    create_here = not-true _ (and_left (not (in_it && eqb i.opcode op_create)) (creates_from (inside_after in_it i) z) (rw here at s.creates))

    creates_then : creates_from (inside_after in_it i) z ≡ true
    unfolding creates_from
    creates_then = and_right (not (in_it && eqb i.opcode op_create)) (creates_from (inside_after in_it i) z) (rw here at s.creates)

    -- at a repeat: outside, and then in its first round
    module _ (repeat : is_repeat i ≡ true) (some : 1 ≤ i.operand) where
      outside : r ≡ 0
      outside = eqb-true r 0 (not-false (eqb r 0) (not-true (not (eqb r 0)) (rw repeat at mark_here)))

      inner_paired : paired_from true z ≡ true
      inner_paired = rw repeat at paired_then

      inner_creates : creates_from true z ≡ true
      inner_creates = rw repeat at creates_then

      behind : behind_repeat g (suc k) ≡ suc k
      unfolding behind_repeat
      behind = rw repeat refl

      to : go_on g (place k r) ≡ place (suc k) i.operand
      unfolding go_on
      to = rw repeat refl

      in_first : eqb i.operand 0 ≡ false
      in_first = ne_eqb i.operand 0 (λ e. omega arith)

      first_stands : Stands g (place (suc k) i.operand)
      first_stands =
          record {
            fits = more;
            paired = rw in_first inner_paired;
            creates = rw in_first inner_creates;
            inside = λ h. rw behind (record { paired = inner_paired; creates = inner_creates; written = refl; goings = refl; created = refl });
          }

      first_left : left_from g (place k r) ≡ left_from g (place (suc k) i.operand)
      unfolding left_from written_from
      first_left =
          rw (outside, here, repeat, in_first, behind, times_more i.operand (body_of z) some)
          (append_assoc (body_of z) (times (i.operand - 1) (body_of z)) (written_from true z))

      first_goings : suc (goings g (place (suc k) i.operand)) ≡ goings g (place k r)
      unfolding goings goings_from
      first_goings =
          rw (outside, here, repeat, in_first, behind)
          (omega (arith, product_more i.operand (suc (length (body_of z))) some))

      on_repeat : On g (place k r)
      unfolding creates_in
      on_repeat =
          record {
            stands = rw to first_stands;
            goings = rw to first_goings;
            left = rw (to, repeat) first_left;
            created = rw (to, repeat) (no_more (mark_no_create i (rw repeat refl)) ∙ sym (append-nil (creates_in (take k g))));
          }

    -- at its end: inside
    module _ (end : is_repeat_end i ≡ true) where
      no_repeat : is_repeat i ≡ false
      no_repeat = let o = eqb-true i.opcode 9 end in ne_eqb i.opcode 8 (λ z. omega arith)

      some_left : 1 ≤ r
      some_left = let ne = eqb-false r 0 (not-true (eqb r 0) (rw (no_repeat, end) at mark_here)) in by_cases (ℕ_discrete r 0) (λ e. absurd (ne e)) (λ no. omega arith)

      abbrev q : ℕ
      q = behind_repeat g k

      in_this : eqb r 0 ≡ false
      in_this = ne_eqb r 0 (λ e. omega (arith, some_left))

      -- with rounds left, back behind the repeat
      module _ (again : 1 < r) where
        back : go_on g (place k r) ≡ place q (r - 1)
        unfolding go_on
        back = rw (no_repeat, end, lt-ltb 1 r again) refl

        in_next : eqb (r - 1) 0 ≡ false
        in_next = ne_eqb (r - 1) 0 (λ e. omega arith)

        back_stands : Stands g (place q (r - 1))
        back_stands =
            let x = s.inside some_left in
            record {
              fits = omega (arith, behind_at_most g k);
              paired = rw in_next x.paired;
              creates = rw in_next x.creates;
              inside = λ h. rw (behind_stays g k) (record { paired = x.paired; creates = x.creates; written = refl; goings = refl; created = refl });
            }

        back_left : left_from g (place k r) ≡ left_from g (place q (r - 1))
        unfolding left_from body_of
        back_left =
            let x = s.inside some_left in
            rw (in_this, in_next, behind_stays g k, x.written, here, end, times_more (r - 1) (body_of (drop q g)) (omega arith))
            (append_assoc (body_of (drop q g)) (times (r - 1 - 1) (body_of (drop q g))) (written_from true (i ∷ z)))

        back_goings : suc (goings g (place q (r - 1))) ≡ goings g (place k r)
        unfolding goings body_of
        back_goings =
            let x = s.inside some_left in
            rw (in_this, in_next, behind_stays g k, x.goings, here, end)
            (omega (arith, product_more (r - 1) (suc (length (body_of (drop q g)))) (omega arith)))

        on_back : On g (place k r)
        unfolding creates_in
        on_back =
            record {
              stands = rw back back_stands;
              goings = rw back back_goings;
              left = rw (back, no_repeat, end) back_left;
              created = rw (back, no_repeat, end) ((s.inside some_left).created ∙ sym (append-nil (creates_in (take k g))));
            }

      -- else on behind the end
      module _ (last : r ≤ 1) where
        out : go_on g (place k r) ≡ place (suc k) 0
        unfolding go_on
        out = rw (no_repeat, end, le-ltb 1 r last) refl

        this : r ≡ 1
        this = omega (arith, some_left)

        out_left : left_from g (place k r) ≡ left_from g (place (suc k) 0)
        unfolding left_from body_of written_from times
        out_left = rw (this, here, end, written_from) refl

        out_goings : suc (goings g (place (suc k) 0)) ≡ goings g (place k r)
        unfolding goings body_of goings_from
        out_goings = rw (this, here, end, goings_from) (omega arith)

        on_out : On g (place k r)
        unfolding creates_in
        on_out =
            record {
              stands =
                  rw out
                  (record {
                    fits = more;
                    paired = rw (no_repeat, end) at paired_then;
                    creates = rw (no_repeat, end) at creates_then;
                    inside = λ h. absurd (omega arith);
                  });
              goings = rw out out_goings;
              left = rw (out, no_repeat, end) out_left;
              created = rw (out, no_repeat, end) (no_more (mark_no_create i (rw (no_repeat, end) refl)) ∙ sym (append-nil (creates_in (take k g))));
            }

    -- at another instruction: on by one
    module _ (no_repeat : is_repeat i ≡ false) (no_end : is_repeat_end i ≡ false) where
      next : go_on g (place k r) ≡ place (suc k) r
      unfolding go_on
      next = rw (no_repeat, no_end) refl

      same_behind : behind_repeat g (suc k) ≡ behind_repeat g k
      unfolding behind_repeat
      same_behind = rw no_repeat refl

      still : 1 ≤ r → Inside g (behind_repeat g (suc k)) (suc k)
      unfolding written_from goings_from
      still h =
          let x = s.inside h in
          let none : eqb i.opcode op_create ≡ false = rw (ne_eqb r 0 (λ e. omega arith)) at create_here in
          rw same_behind
          (record {
            paired = x.paired;
            creates = x.creates;
            written = x.written ∙ rw (here, no_end, written_from) refl;
            goings = x.goings ∙ rw (here, no_end, goings_from) refl;
            created = x.created ∙ sym (no_more none);
          })

      next_left : (b : Bool) → eqb r 0 ≡ b → left_from g (place k r) ≡ i ∷ left_from g (place (suc k) r)
      unfolding left_from body_of written_from
      next_left true e = rw (e, here, no_repeat) refl
      next_left false e = rw (e, same_behind, here, no_end, written_from) refl

      next_goings : (b : Bool) → eqb r 0 ≡ b → suc (goings g (place (suc k) r)) ≡ goings g (place k r)
      unfolding goings body_of goings_from
      next_goings true e = rw (e, here, no_repeat) refl
      next_goings false e = rw (e, same_behind, here, no_end, goings_from) (omega arith)

      on_plain : On g (place k r)
      on_plain =
          record {
            stands =
                rw next
                (record {
                  fits = more;
                  paired = rw (no_repeat, no_end) at paired_then;
                  creates = rw (no_repeat, no_end) at creates_then;
                  inside = still;
                });
            goings = rw next (next_goings (eqb r 0) refl);
            left = rw (next, no_repeat, no_end) (next_left (eqb r 0) refl);
            created = rw (next, no_repeat, no_end) taken;
          }

-- from each place that is reached, and not the program's end
module _ (n : ℕ) (g : Program) (fine : every (new_instruction_ok n) g ≡ true) where
  pub repeat_some : (k : ℕ) → k < length g → is_repeat (instruction_at g k) ≡ true → 1 ≤ (instruction_at g k).operand
  unfolding new_instruction_ok
  repeat_some k more e =
      let i = instruction_at g k in
      within_low 1 64 i.operand (and_right (eqb i.level 0) _ (rw e at (every_at (new_instruction_ok n) g k no_instruction more fine)))

  pub goes_on : (k r : ℕ) → Stands g (place k r) → k < length g → On g (place k r)
  goes_on k r s more = go (is_repeat (instruction_at g k)) refl (is_repeat_end (instruction_at g k)) refl
    where
      go : (a : Bool) → is_repeat (instruction_at g k) ≡ a → (b : Bool) → is_repeat_end (instruction_at g k) ≡ b → On g (place k r)
      go true e b f = on_repeat g k r more s e (repeat_some k more e)
      go false e true f = by_cases (dec_lt 1 r) (λ h. on_back g k r more s f h) (λ h. on_out g k r more s f (omega arith))
      go false e false f = on_plain g k r more s e f

pub starts : (g : Program) → paired_from false g ≡ true → creates_from false g ≡ true → Stands g (place 0 0)
starts g a b = record { fits = omega arith; paired = a; creates = b; inside = λ h. absurd (omega arith) }

pub left_start : (g : Program) → left_from g (place 0 0) ≡ written_out g
unfolding left_from
left_start g = refl

-- at the program's end nothing is left
pub left_end : (g : Program) (k r : ℕ) → Stands g (place k r) → length g ≤ k → left_from g (place k r) ≡ []
unfolding left_from paired_from written_from
left_end g k r s h =
    let none = drop_of_length-le g h in
    let out : eqb r 0 ≡ true = not-false (eqb r 0) (not-true (not (eqb r 0)) (rw none at s.paired)) in
    rw (out, none) refl
