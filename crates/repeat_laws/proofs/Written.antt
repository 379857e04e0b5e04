-- The written-out plan of a file that has passed 3 and 21: its instructions are the present edition's, and 4 to 6 are what plan check says of it.
use mathlib.Core.Path.{◌≡◌, refl, sym, ◌∙◌}
use mathlib.Core.Bool.{Bool, true, false, not, true≢false}
use mathlib.Core.List.{List, [], ◌∷◌, ◌++◌, map}
use Prim.Native.Nat.{ℕ, zero, suc}
use lib.ListN.{length, length-map}
use Rattle.base.specs.Choice.{pick}
use Rattle.base.specs.Lists.{every}
use Rattle.base.proofs.Tests.{and_left, and_right, and_both, every_append}
use Rattle.plan.specs.declared.Instruction.{Instruction}
use Rattle.plan.specs.Programs.{Program, Programs}
use Rattle.plan.specs.Refusals.{instruction_ok, instructions_ok}
use Rattle.plan.specs.Repeats.{is_repeat, is_repeat_end, times, body_of, written_from, written_out, written_out_plan}
use Rattle.plan.specs.RepeatRefusals.{new_instruction_ok, new_instructions_ok, marks_fit, paired_from, paired_ok}

-- a test of all of a list so many times in a row
every_times : {A : Type 0} (p : A → Bool) (n : ℕ) (l : List A) → every p l ≡ true → every p (times n l) ≡ true
unfolding times every
every_times p zero l h = refl
every_times p (suc n) l h = every_append p l (times n l) ∙ and_both _ _ h (every_times p n l h)

-- what is written of a program
module _ (n : ℕ) where
  -- an instruction that is neither a repeat nor its end is one of the present edition
  plain_fine : (i : Instruction) → is_repeat i ≡ false → is_repeat_end i ≡ false → new_instruction_ok n i ≡ true → instruction_ok n i ≡ true
  unfolding new_instruction_ok
  plain_fine i a b h = rw (a, b) at h

  -- up to the end of a repeat
  body_fine : (g : Program) → paired_from true g ≡ true → every (new_instruction_ok n) g ≡ true → every (instruction_ok n) (body_of g) ≡ true
  unfolding paired_from every body_of
  body_fine [] p h = refl
  body_fine (i ∷ g) p h = go (is_repeat_end i) refl (is_repeat i) refl (λ q. body_fine g q (and_right (new_instruction_ok n i) _ h))
    where
      go : (b : Bool) → is_repeat_end i ≡ b → (a : Bool) → is_repeat i ≡ a → (paired_from true g ≡ true → every (instruction_ok n) (body_of g) ≡ true)
          → every (instruction_ok n) (pick b [] (i ∷ body_of g)) ≡ true
      go true e a f rest = refl
      go false e true f rest = absurd (true≢false (sym (rw f at (and_left (marks_fit true i) _ p))))
      go false e false f rest =
          and_both _ _ (plain_fine i f e (and_left (new_instruction_ok n i) _ h)) (rest (rw (f, e) at (and_right (marks_fit true i) _ p)))

  pub written_fine : (b : Bool) (g : Program) → paired_from b g ≡ true → every (new_instruction_ok n) g ≡ true
      → every (instruction_ok n) (written_from b g) ≡ true
  unfolding paired_from every written_from
  written_fine true [] p h = refl
  written_fine false [] p h = refl
  written_fine true (i ∷ g) p h = go (is_repeat_end i) refl (is_repeat i) refl (λ b q. written_fine b g q (and_right (new_instruction_ok n i) _ h))
    where
      go : (b : Bool) → is_repeat_end i ≡ b → (a : Bool) → is_repeat i ≡ a
          → ((b : Bool) → paired_from b g ≡ true → every (instruction_ok n) (written_from b g) ≡ true)
          → every (instruction_ok n) (written_from (not b) g) ≡ true
      go b e true f rest = absurd (true≢false (sym (rw f at (and_left (marks_fit true i) _ p))))
      go true e false f rest = rest false (rw (f, e) at (and_right (marks_fit true i) _ p))
      go false e false f rest = rest true (rw (f, e) at (and_right (marks_fit true i) _ p))
  written_fine false (i ∷ g) p h = go (is_repeat i) refl (is_repeat_end i) refl (λ b q. written_fine b g q (and_right (new_instruction_ok n i) _ h))
    where
      go : (a : Bool) → is_repeat i ≡ a → (b : Bool) → is_repeat_end i ≡ b
          → ((b : Bool) → paired_from b g ≡ true → every (instruction_ok n) (written_from b g) ≡ true)
          → every (instruction_ok n) (pick a (times i.operand (body_of g) ++ written_from true g) (i ∷ written_from false g)) ≡ true
      go true e b f rest =
          let inner = rw e at (and_right (marks_fit false i) _ p) in
          every_append (instruction_ok n) (times i.operand (body_of g)) (written_from true g)
          ∙ and_both _ _ (every_times (instruction_ok n) i.operand (body_of g) (body_fine g inner (and_right (new_instruction_ok n i) _ h))) (rest true inner)
      go false e true f rest = absurd (true≢false (sym (rw (e, f) at (and_left (marks_fit false i) _ p))))
      go false e false f rest =
          and_both _ _ (plain_fine i e f (and_left (new_instruction_ok n i) _ h)) (rest false (rw (e, f) at (and_right (marks_fit false i) _ p)))

  -- of some programs
  all_fine : (m : Programs) → every (paired_from false) m ≡ true → every (every (new_instruction_ok n)) m ≡ true
      → every (every (instruction_ok n)) (map written_out m) ≡ true
  unfolding every
  all_fine [] p h = refl
  all_fine (g ∷ m) p h =
      and_both _ _ (written_fine false g (and_left (paired_from false g) _ p) (and_left (every (new_instruction_ok n) g) _ h))
      (all_fine m (and_right (paired_from false g) _ p) (and_right (every (new_instruction_ok n) g) _ h))

module _ (m : Programs) where
  pub written_instructions : new_instructions_ok m ≡ true → paired_ok m ≡ true → instructions_ok (written_out_plan m) ≡ true
  unfolding new_instructions_ok paired_ok instructions_ok
  written_instructions h p = rw (length-map m written_out) (all_fine (length m) m p h)
