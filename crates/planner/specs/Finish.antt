-- The exported finish check: its answer, and the output then.
use Rattle.std.specs.Prelude.{◌≡◌, List, ◌++◌, ℕ, ◌≤◌, leb, length, drop, Ok, Err}
use Rattle.base.specs.Choice.{pick}
use Rattle.plan.specs.declared.Refusal.{Refusal}
use Rattle.plan.specs.Answers.{refusal_number}
use Rattle.plan.specs.Files.{file_answer}
use Rattle.rules.specs.declared.step.Step.{Step}
use Rattle.rules.specs.StepFiles.{text, fitting}
use Rattle.claim.specs.Statement.{ComesToRest}
use Rattle.claim.specs.Finish.{RestsOn}
use Rattle.finish.specs.Files.{lines_after, longest_answer, plan_of}
use Rattle.driver.specs.Runs.{packed}

-- these lines were to be written: 20 if they do not all fit, and "the longest beginning of whole lines that fits"
pub record Says (lines : List (List ℕ)) (before : List ℕ) (r : ℕ) (after : List ℕ) : Type 0 where
  pub outcome : r ≡ packed (pick (leb (length (text lines)) (length before)) 0 20) (length (fitting (length before) lines))
  pub bytes : after ≡ fitting (length before) lines ++ drop (length (fitting (length before) lines)) before

-- the check answered and wrote so: a refused file leaves the output untouched. Of an accepted one the lines are those of every rig of the plan at
-- rest, on one desk or six, by whatever list of steps; there is such a list for one desk; and an output of `longest_answer` bytes holds them all
pub record FinishMeets (p before : List ℕ) (r : ℕ) (after : List ℕ) : Type 0 where
  pub refused : (a : Refusal) → file_answer p ≡ Err a → (r ≡ packed (refusal_number a) 0) × (after ≡ before)
  pub finished : file_answer p ≡ Ok tt → (n : ℕ) (ss : List Step) → 1 ≤ n → n ≤ 6 → RestsOn n (plan_of p) ss
      → Says (lines_after n (plan_of p) ss) before r after
  pub rests : file_answer p ≡ Ok tt → ComesToRest (plan_of p)
  pub room : file_answer p ≡ Ok tt → (n : ℕ) (ss : List Step) → 1 ≤ n → n ≤ 6 → length (text (lines_after n (plan_of p) ss)) ≤ longest_answer
