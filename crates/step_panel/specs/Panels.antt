-- The exported panel: its answer, and the lent numbers then.
use Rattle.std.specs.Prelude.{◌≡◌, ◌≢◌, Bool, List, ◌++◌, ℕ, leb, length, drop, Ok, Err}
use Rattle.base.specs.Choice.{unless}
use Rattle.plan.specs.Answers.{PlanAnswer}
use Rattle.plan.specs.Files.{file_programs, start_answer}
use Rattle.plan.specs.Programs.{canonical}
use Rattle.rules.specs.Answers.{RunAnswer}
use Rattle.rules.specs.declared.step.RunRefusal.TheVariants.{Unstarted, BadSteps, OutputShort}
use Rattle.rules.specs.Answers.{run_number}
use Rattle.rules.specs.Panel.{panel}
use Rattle.rules.specs.StepFiles.{steps_ok, file_steps}
use Rattle.claim.specs.Statement.{from}

-- in the order of a run: 1 to 6 as at start, 8, and 20 if fewer than 27 numbers are lent
abbrev pub panel_answer : PlanAnswer → Bool → Bool → RunAnswer
panel_answer (Err a) ok room = Err (Unstarted a)
panel_answer (Ok tt) ok room = unless ok (Err BadSteps) (unless room (Err OutputShort) (Ok tt))

abbrev pub panel_answer_of : ℕ → List ℕ → List ℕ → List ℕ → RunAnswer
panel_answer_of n p b before = panel_answer (start_answer n p) (steps_ok b) (leb 27 (length before))

-- the counts of the rig that the steps leave are the first 27 numbers, and those behind them are unchanged; a refused call changes none
pub record PanelMeets (n : ℕ) (p b before : List ℕ) (r : ℕ) (after : List ℕ) : Type 0 where
  pub outcome : r ≡ run_number (panel_answer_of n p b before)
  pub counts : panel_answer_of n p b before ≡ Ok tt → after ≡ panel (from n (canonical (file_programs p)) (file_steps b)).system ++ drop 27 before
  pub untouched : panel_answer_of n p b before ≢ Ok tt → after ≡ before
