-- Step files: their lengths, one behind another, and read back.
use mathlib.Core.Path.{◌≡◌, refl, ap, ◌∙◌}
use mathlib.Core.List.{List, [], ◌∷◌, ◌++◌}
use Prim.Native.Nat.{ℕ, zero, suc, ◌+◌, ◌*◌, ◌/◌, ◌%◌, ◌<◌}
use native.Mathlib.Nat.{div-add-mod'}
use native.Mathlib.Omega.{arith}
use lib.ListN.{length, get_or, length-append}
use Rattle.base.specs.Range.{fold, joined}
use Rattle.base.proofs.Tables.{table_same, as_table}
use Rattle.plan.specs.Files.{byte_at}
use Rattle.rules.specs.declared.step.Step.{Step}
use Rattle.rules.specs.StepFiles.{step_at, file_steps}
use Rattle.rules.specs.Steps.{run_step}
use Rattle.chase.specs.Construction.{round, chase_steps, step_bytes, step_file, chase_file}

pub file_append : (xs ys : List Step) → step_file (xs ++ ys) ≡ step_file xs ++ step_file ys
unfolding step_file
file_append [] ys = refl
file_append (x ∷ xs) ys = ap (λ (l : List ℕ). step_bytes x ++ l) (file_append xs ys)

pub length_file : (ss : List Step) → length (step_file ss) ≡ 4 * length ss
unfolding step_file
length_file [] = refl
length_file (s ∷ ss) = omega (arith, length_file ss)

pub length_rounds : (m : ℕ) → length (joined m round) ≡ 3 * m
unfolding fold
length_rounds zero = refl
length_rounds (suc m) = rw (length-append (joined m round) (round m), length_rounds m) (omega arith)

pub length_chase : (m : ℕ) → length (chase_steps m) ≡ 3 * m + 11
unfolding chase_steps
length_chase m = simp (length-append, length_rounds m) (omega arith)

pub length_chase_file : (m : ℕ) → length (chase_file m) ≡ 12 * m + 44
length_chase_file m = omega (arith, length_file (chase_steps m), length_chase m)

-- a byte behind the first step
byte_behind : (a b c d : ℕ) (l : List ℕ) (i j : ℕ) → j ≡ suc (suc (suc (suc i))) → byte_at (a ∷ b ∷ c ∷ d ∷ l) j ≡ byte_at l i
byte_behind a b c d l i j e = rw e refl

-- a 16-bit field read back
field : (n : ℕ) → n % 256 + 256 * (n / 256) ≡ n
field n = omega (arith, div-add-mod' n 256)

step_back : (ss : List Step) (k : ℕ) (d : Step) → k < length ss → step_at (step_file ss) k ≡ get_or ss k d
unfolding step_file
step_back [] k d h = absurd (omega arith)
step_back (s ∷ ss) zero d h = rw (field s.number) refl
step_back (s ∷ ss) (suc k) d h =
    let l = step_file ss in
    let b = byte_behind s.kind s.task (s.number % 256) (s.number / 256) l in
    rw (
      b (4 * k) (4 * suc k) (omega arith),
      b (4 * k + 1) (4 * suc k + 1) (omega arith),
      b (4 * k + 2) (4 * suc k + 2) (omega arith),
      b (4 * k + 2 + 1) (4 * suc k + 2 + 1) (omega arith),
    )
    (step_back ss k d (omega arith))

-- the steps of the file of a list are that list
pub steps_back : (ss : List Step) → file_steps (step_file ss) ≡ ss
unfolding file_steps
steps_back ss =
    let size : length (step_file ss) / 4 ≡ length ss = omega (arith, length_file ss) in
    rw size (table_same (length ss) (step_at (step_file ss)) (λ k. get_or ss k (run_step 0)) (λ k h. step_back ss k (run_step 0) h) ∙ as_table ss (run_step 0))
