-- A step that is no run and no move, and delivers nothing.
use Rattle.base.specs.Choice.{pick, unless}
use Rattle.std.specs.Prelude.{eqb}
use Rattle.rules.specs.declared.step.Step.{Step}
use Rattle.rules.specs.declared.step.StepRefusal.{StepRefusal}
use Rattle.rules.specs.declared.step.StepRefusal.TheVariants.{NoMessage, BadStep}
use Rattle.rules.specs.Steps.{is_deliver}

-- 14 of a deliver step with no task, else 19
abbrev pub kind_refusal : Step → StepRefusal
kind_refusal s = pick (is_deliver s) (unless (eqb s.task 0) BadStep NoMessage) BadStep
