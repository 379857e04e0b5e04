-- The verdict on a step that delivers no letter.
use Rattle.std.specs.Prelude.{ℕ, Err}
use Rattle.base.specs.Choice.{unless}
use Rattle.rules.specs.declared.step.Step.{Step}
use Rattle.rules.specs.declared.step.StepRefusal.TheVariants.{NoMessage, BadStep}
use Rattle.rules.specs.declared.system.TaskTable.{TaskTable}
use Rattle.rules.specs.Numbers.{task_id, processor_id}
use Rattle.rules.specs.Steps.{by_kind, well_formed}
use Rattle.rig_parts.specs.declared.kept.Kept.{Kept}
use Rattle.rig_parts.specs.Answers.{Verdict}
use Rattle.rig_parts.specs.Facts.{Facts}
use Rattle.rig_parts.specs.RunVerdicts.{judged_run}
use Rattle.rig_parts.specs.MoveVerdicts.{judged_move}

unfoldable pub step_verdict : Facts → ℕ → TaskTable → Kept → ℕ → Step → Verdict
step_verdict f n ts s used x =
    unless (well_formed x) (Err BadStep)
    (by_kind x
    (judged_run f n ts s used (task_id x.task))
    (Err NoMessage)
    (judged_move f.tasks n ts used (task_id x.task) (processor_id x.number)))
