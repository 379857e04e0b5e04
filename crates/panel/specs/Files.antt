-- The panel after a plan file and a step file.
use Rattle.std.specs.Prelude.{◌≡◌, Bool, List, ℕ, Ok, Err}
use Rattle.base.specs.Choice.{unless}
use Rattle.plan.specs.declared.Plan.{Plan}
use Rattle.plan.specs.Answers.{PlanAnswer}
use Rattle.plan.specs.Files.{start_answer}
use Rattle.rules.specs.Answers.{RunAnswer}
use Rattle.rules.specs.declared.step.RunRefusal.TheVariants.{Unstarted, BadSteps}
use Rattle.rules.specs.Panel.{panel}
use Rattle.rules.specs.Starts.{started}
use Rattle.rules.specs.StepFiles.{file_steps, start_of, steps_ok}
use Rattle.rules.specs.Steps.{steps}
use Rattle.rig_parts.specs.Facts.{Facts}
use Rattle.run.specs.file.Begins.{Begins}

-- the panel of the plan that f is derived of, on n desks, after the steps of a file
abbrev pub PanelOf : ℕ → Facts → List ℕ → List ℕ → Type 0
PanelOf n f b q = (p : Plan) → Begins n p f → q ≡ panel (steps (started n p) (file_steps b)).system

-- 1 to 6 as at start; 8
abbrev pub answer_before : PlanAnswer → Bool → RunAnswer
answer_before (Err a) ok = Err (Unstarted a)
answer_before (Ok tt) ok = unless ok (Err BadSteps) (Ok tt)

-- what is answered, and the counts where it is accepted
pub record PanelFile (n : ℕ) (p b : List ℕ) (answer : RunAnswer) (counts : List ℕ) : Type 0 where
  pub answered : answer ≡ answer_before (start_answer n p) (steps_ok b)
  pub counted : answer ≡ Ok tt → counts ≡ panel (steps (start_of n p) (file_steps b)).system
