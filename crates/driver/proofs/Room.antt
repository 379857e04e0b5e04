-- An output of `enough` bytes is not refused by 20.
use mathlib.Core.Path.{◌≡◌, refl}
use mathlib.Core.Bool.{Bool, true, false}
use mathlib.Core.List.{List}
use mathlib.Core.Logic.{◌≢◌}
use Prim.Native.Nat.{ℕ, ◌≤◌}
use native.Mathlib.Omega.{arith}
use lib.ListN.{length}
use borrow.Author.Tests.{le-leb}
use Rattle.std.specs.Prelude.{Ok, Err}
use Rattle.plan.specs.Answers.{PlanAnswer}
use Rattle.plan.specs.Files.{start_answer}
use Rattle.rules.specs.Answers.{RunAnswer}
use Rattle.rules.specs.declared.step.RunRefusal.TheVariants.{OutputShort}
use Rattle.rules.specs.StepFiles.{file_steps, start_of, trace_lines, text, steps_ok, answer_after, run_file_answer}
use Rattle.trace.proofs.Bound.{start_short}
use Rattle.driver.specs.Runs.{enough}

-- lines that fit where they are written
all_fit : (a : PlanAnswer) (ok : Bool) (ls : List (List ℕ)) (room : ℕ) → (a ≡ Ok tt → ok ≡ true → length (text ls) ≤ room)
    → answer_after a ok ls room ≢ Err OutputShort
all_fit (Err x) ok ls room h e = let z : ◌≡◌ {A = ℕ} 0 1 = cc in omega arith
all_fit (Ok tt) false ls room h e = let z : ◌≡◌ {A = ℕ} 0 1 = cc in omega arith
all_fit (Ok tt) true ls room h e =
    let t : (Ok tt) ≡ Err OutputShort = simp (le-leb (length (text ls)) room (h refl refl)) at e in
    let z : ◌≡◌ {A = ℕ} 0 1 = cc in omega arith

pub room_enough : (n : ℕ) (p b out : List ℕ) → enough ≤ length out → run_file_answer n p b out ≢ Err OutputShort
unfolding run_file_answer
room_enough n p b out l =
    all_fit (start_answer n p) (steps_ok b) (trace_lines (start_of n p) (file_steps b)) (length out)
    (λ a s. omega (arith, start_short n p b a s))
