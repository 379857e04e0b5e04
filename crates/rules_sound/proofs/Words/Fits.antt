-- Words of four numbers of 16 bits, which the instructions of an accepted plan keep.
use mathlib.Core.Path.{◌≡◌, refl}
use mathlib.Core.Bool.{Bool, true, ◌&&◌}
use Prim.Native.Nat.{ℕ, ◌+◌, ◌%◌, ◌<◌, ◌≤◌}
use native.Mathlib.Omega.{arith}
use lib.Dec.{eqb, ltb}
use lib.ListN.{length}
use borrow.Author.Tests.{ltb-true, lt-ltb}
use Rattle.std.specs.Prelude.{Ok}
use Rattle.base.proofs.Choices.{pick_either}
use Rattle.base.proofs.Tests.{and_left, and_right}
use Rattle.plan.specs.declared.Instruction.{Instruction}
use Rattle.plan.specs.declared.Word.{Word}
use Rattle.plan.specs.Programs.{Programs, program_at, instruction_at}
use Rattle.plan.specs.Refusals.{plan_answer}
use Rattle.plan.specs.Words.{levels, level_of, with_level, set_word, add_word}
use Rattle.plan_laws.proofs.Answers.{plan_passed, sized}
use Rattle.plan_laws.proofs.Codes.{instruction_small}
use Rattle.plan_laws.proofs.Programs.{instruction_fine}
use Rattle.rules_sound.specs.Words.{Keeps, KeptBy}

abbrev pub word_fits : Word → Bool
word_fits w = ltb w.0 65536 && (ltb w.1 65536 && (ltb w.2 65536 && ltb w.3 65536))

-- the same, level by level
pub record Fits (w : Word) : Type 0 where
  pub first : w.0 < 65536
  pub second : w.1 < 65536
  pub third : w.2 < 65536
  pub last : w.3 < 65536

pub fits : (w : Word) → word_fits w ≡ true → Fits w
fits w h =
    let above = and_right (ltb w.0 65536) _ h in
    let top = and_right (ltb w.1 65536) _ above in
    record {
      first = ltb-true w.0 65536 (and_left (ltb w.0 65536) _ h);
      second = ltb-true w.1 65536 (and_left (ltb w.1 65536) _ above);
      third = ltb-true w.2 65536 (and_left (ltb w.2 65536) _ top);
      last = ltb-true w.3 65536 (and_right (ltb w.2 65536) _ top);
    }

all_fit : (w : Word) → Fits w → word_fits w ≡ true
all_fit w f = rw (lt-ltb w.0 65536 f.first, lt-ltb w.1 65536 f.second, lt-ltb w.2 65536 f.third, lt-ltb w.3 65536 f.last) refl

-- another number on level k
with_fits : (w : Word) (k n : ℕ) → word_fits w ≡ true → n < 65536 → word_fits (with_level w k n) ≡ true
unfolding with_level
with_fits w k n h l =
    let f = fits w h in
    let Left : Word → Type 0 = λ v. word_fits v ≡ true in
    pick_either Left (eqb k 0) _ _ (all_fit (levels n w.1 w.2 w.3) (record { first = l; second = f.second; third = f.third; last = f.last }))
    (pick_either Left (eqb k 1) _ _ (all_fit (levels w.0 n w.2 w.3) (record { first = f.first; second = l; third = f.third; last = f.last }))
    (pick_either Left (eqb k 2) _ _ (all_fit (levels w.0 w.1 n w.3) (record { first = f.first; second = f.second; third = l; last = f.last }))
    (all_fit (levels w.0 w.1 w.2 n) (record { first = f.first; second = f.second; third = f.third; last = l }))))

operand_keeps : (i : Instruction) → i.operand < 65536 → Keeps word_fits i
unfolding set_word add_word
operand_keeps i l =
    record {
      set = λ w h. with_fits w i.level i.operand h l;
      add = λ w h. with_fits w i.level ((level_of w i.level + i.operand) % 65536) h (omega arith);
    }

pub plan_keeps : (m : Programs) → plan_answer m ≡ Ok tt → KeptBy word_fits m
plan_keeps m a =
    let few : length m ≤ 64 = (sized m (plan_passed m a).sizes).tasks.few in
    record {
      birth = refl;
      instructions =
          λ k h i l.
          let x = instruction_at (program_at m k) i in
          operand_keeps x (instruction_small (length m) few x (instruction_fine m a k h i l)).operand_small;
    }
