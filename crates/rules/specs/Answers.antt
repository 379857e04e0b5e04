-- The answers, and the number that the paper gives to each.
use Rattle.std.specs.Prelude.{Bool, ℕ, eqb, ⊤, Result, Ok, Err}
use Rattle.plan.specs.Answers.{refusal_number}
use Rattle.rules.specs.declared.step.StepRefusal.{StepRefusal}
use Rattle.rules.specs.declared.step.RunRefusal.{RunRefusal}
use Rattle.rules.specs.declared.view.TabletView.{TabletView}
use Rattle.rules.specs.declared.view.DriverView.{DriverView}
use Rattle.rules.specs.declared.step.StepRefusal.TheVariants.{BadSystem, NoTask, NotReady, FinishWithChildren, NetworkFull, NoMessage, NoProcessor, AlreadyThere, MoveWithChildren, MovesSpent, BadStep}
use Rattle.rules.specs.declared.step.RunRefusal.TheVariants.{Unstarted, BadSteps, OutputShort}

-- what a step, and a step file, is answered: accepted, or a refusal
abbrev pub StepAnswer : Type 0
StepAnswer = Result ⊤ StepRefusal

abbrev pub RunAnswer : Type 0
RunAnswer = Result ⊤ RunRefusal

-- what a tablet, and the driver, is given: a record, or a refusal
abbrev pub TabletAnswer : Type 0
TabletAnswer = Result TabletView StepRefusal

abbrev pub DriverAnswer : Type 0
DriverAnswer = Result DriverView StepRefusal

-- "answer (0 accepted)"; "Step: 9, a number in the rig outside the limits ..; 19, kind not 1..3 ... Then run: 10, no such task; 11, not
-- ready; 12, finish with living children; 13, the letters needed don't fit in the mail. Deliver: 14, no letter there. Move: 10; 15, desk
-- outside the rig; 11; 16, already there; 17, living children; 18, move count 9,999; 13."
abbrev pub step_number : StepAnswer → ℕ
step_number (Ok tt) = 0
step_number (Err BadSystem) = 9
step_number (Err NoTask) = 10
step_number (Err NotReady) = 11
step_number (Err FinishWithChildren) = 12
step_number (Err NetworkFull) = 13
step_number (Err NoMessage) = 14
step_number (Err NoProcessor) = 15
step_number (Err AlreadyThere) = 16
step_number (Err MoveWithChildren) = 17
step_number (Err MovesSpent) = 18
step_number (Err BadStep) = 19

abbrev pub is_accepted : StepAnswer → Bool
is_accepted a = eqb (step_number a) 0

-- "Step file: 1 to 6 as at start; 8, length no multiple of 4 or over 2,000 steps; .. 20, the lent output is too short"
abbrev pub run_number : RunAnswer → ℕ
run_number (Ok tt) = 0
run_number (Err (Unstarted r)) = refusal_number r
run_number (Err BadSteps) = 8
run_number (Err OutputShort) = 20
