-- A task at a place beside the instructions that it has completed.
use mathlib.Core.Path.{◌≡◌, refl, sym, ap, subst, ◌∙◌}
use mathlib.Core.Bool.{true, false}
use mathlib.Core.List.{[], ◌∷◌, append-nil}
use mathlib.Core.Logic.{by_cases}
use Prim.Native.Nat.{ℕ, suc, ◌≤◌, ◌<◌}
use native.Mathlib.Decide.{dec_lt}
use native.Mathlib.Omega.{arith}
use lib.ListN.{length, get_or, take, drop, length-drop, drop_of_length-le}
use lib.Seq.{drop-cons, take-suc}
use Rattle.base.specs.Lists.{every}
use Rattle.base.proofs.Tests.{or_neither}
use Rattle.plan.specs.declared.Instruction.{Instruction}
use Rattle.plan.specs.Kinds.{no_instruction}
use Rattle.plan.specs.Programs.{Program, instruction_at}
use Rattle.plan.specs.Repeats.{is_repeat, is_repeat_end, written_out}
use Rattle.plan.specs.RepeatPlaces.{Place, place, go_on}
use Rattle.plan.specs.RepeatRefusals.{new_instruction_ok, paired_from, creates_from}
use Rattle.repeat_laws.specs.Left.{left_from, goings, creates_in, is_mark, On}
use Rattle.repeat_laws.proofs.Lists.{creates_append}
use Rattle.repeat_laws.proofs.Going.{goes_on, starts, left_start, left_end}
use Rattle.repeats.specs.Beside.{Beside}

-- a list from a place on begins with x: the place is in it, x stands there
drop_head : (l : Program) (w : ℕ) (x : Instruction) (r : Program) → drop w l ≡ x ∷ r
    → (w < length l) × (get_or l w no_instruction ≡ x) × (drop (suc w) l ≡ r)
drop_head l w x r e =
    by_cases (dec_lt w (length l)) (λ h. let f = sym (drop-cons l w no_instruction h) ∙ e in (h, cc, cc))
    (λ h. let none = ap length (sym (drop_of_length-le l {i = w} (omega arith)) ∙ e) in absurd (omega (arith, none)))

pub beside_start : (g : Program) → paired_from false g ≡ true → creates_from false g ≡ true → Beside g (place 0 0) 0
beside_start g a b = record { stands = starts g a b; fits = omega arith; left = sym (left_start g); created = refl }

-- at an instruction that is neither a repeat nor its end a task goes on by one
pub plain_on : (g : Program) (at rounds : ℕ) → is_mark (instruction_at g at) ≡ false → go_on g (place at rounds) ≡ place (suc at) rounds
unfolding go_on
plain_on g at rounds e = let (a, b) = or_neither (is_repeat (instruction_at g at)) (is_repeat_end (instruction_at g at)) e in rw (a, b) refl

module _ (n : ℕ) (g : Program) (fine : every (new_instruction_ok n) g ≡ true) {at rounds k : ℕ} (b : Beside g (place at rounds) k) where
  -- at the program's end it has completed all
  pub beside_end : length g ≤ at → k ≡ length (written_out g)
  beside_end h =
      let none = b.left ∙ left_end g at rounds b.stands h in
      omega (arith, length-drop k (written_out g), ap length none, b.fits)

  pub beside_more : k < length (written_out g) → at < length g
  beside_more h = by_cases (dec_lt at (length g)) (λ l. l) (λ l. absurd (omega (arith, beside_end (omega arith))))

  module _ (more : at < length g) where
    on : On g (place at rounds)
    on = goes_on n g fine at rounds b.stands more

    pub beside_less : goings g (go_on g (place at rounds)) < goings g (place at rounds)
    beside_less = omega (arith, on.goings)

    -- at a repeat or its end
    pub beside_mark : is_mark (instruction_at g at) ≡ true → Beside g (go_on g (place at rounds)) k
    unfolding creates_in
    beside_mark e =
        record {
          stands = on.stands;
          fits = b.fits;
          left = b.left ∙ on.left ∙ rw e refl;
          created = b.created ∙ sym (on.created ∙ rw e (append-nil (creates_in (take at g))));
        }

    -- at another instruction
    module _ (e : is_mark (instruction_at g at) ≡ false) where
      there : (k < length (written_out g)) × (get_or (written_out g) k no_instruction ≡ instruction_at g at) × (drop (suc k) (written_out g) ≡ left_from g (go_on g (place at rounds)))
      there = drop_head (written_out g) k (instruction_at g at) _ (b.left ∙ on.left ∙ rw e refl)

      pub beside_short : k < length (written_out g)
      beside_short = there.0

      pub beside_same : instruction_at (written_out g) k ≡ instruction_at g at
      beside_same = there.1

      pub beside_next : Beside g (place (suc at) rounds) (suc k)
      beside_next =
          subst (λ (p : Place). Beside g p (suc k)) (plain_on g at rounds e)
          (record {
            stands = on.stands;
            fits = there.0;
            left = there.2;
            created =
                ap creates_in (take-suc (written_out g) k no_instruction there.0)
                ∙ creates_append (take k (written_out g)) (get_or (written_out g) k no_instruction ∷ [])
                ∙ rw (b.created, there.1) (sym (on.created ∙ rw e refl));
          })
