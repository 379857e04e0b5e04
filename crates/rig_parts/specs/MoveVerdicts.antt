-- The verdict on a move.
use Rattle.std.specs.Prelude.{◌≡◌, true, ℕ, ◌+◌, ◌≤◌, None}
use Rattle.base.specs.Choice.{within}
use Rattle.plan.specs.declared.TaskId.{TaskId}
use Rattle.plan.specs.declared.ProcessorId.{ProcessorId}
use Rattle.rules.specs.declared.task.Task.{Task}
use Rattle.rules.specs.declared.task.TaskState.TheVariants.{Ready}
use Rattle.rules.specs.declared.message.Message.TheVariants.{Migration}
use Rattle.rules.specs.declared.rule.Posting.TheVariants.{Single}
use Rattle.rules.specs.Answers.{StepAnswer}
use Rattle.rules.specs.declared.system.TaskTable.{TaskTable}
use Rattle.rules.specs.Numbers.{most_moves}
use Rattle.rules.specs.Tasks.{is_in, departed, no_task}
use Rattle.rules.specs.Cells.{hint}
use Rattle.rules.specs.Networks.{fits_in}
use Rattle.rules.specs.Systems.{task_in}
use Rattle.rules.specs.Moves.{move_tests}
use Rattle.rig_parts.specs.declared.sweep.Sweep.TheVariants.{Departure}
use Rattle.rig_parts.specs.declared.change.Change.{Change}
use Rattle.rig_parts.specs.Answers.{Verdict}
use Rattle.rig_parts.specs.Fetches.{no_cell}
use Rattle.rig_parts.specs.Scopes.{alone}
use Rattle.rig_parts.specs.Answers.{verdict_of}
use Rattle.rig_parts.specs.RunVerdicts.{change}

-- task t, with record x, leaves for desk e
abbrev pub move_change : TaskId → Task → ProcessorId → Change
move_change t x e =
    change (alone t x.processor)
    (record { sender = departed x; receiver = no_task; cell = no_cell; posting = Single (Migration e t); received = None })
    (Departure t x.processor (hint e (x.moves + 1)))

-- a ready task has a count that is not over the limit
abbrev pub ready_counts : ℕ → TaskTable → TaskId → Type 0
ready_counts m ts t = within 1 m t.0 ≡ true → is_in Ready (task_in ts t) ≡ true → (task_in ts t).moves ≤ most_moves

-- the tests of a move in their order, of so many tasks, desks and letters
unfoldable pub move_refusal : ℕ → ℕ → TaskTable → ℕ → TaskId → ProcessorId → StepAnswer
move_refusal m n ts used t e = move_tests m n t (task_in ts t) e (fits_in n (Single (Migration e t)) used)

-- the departure, where they refuse nothing
unfoldable pub judged_move : ℕ → ℕ → TaskTable → ℕ → TaskId → ProcessorId → Verdict
judged_move m n ts used t e = verdict_of (move_change t (task_in ts t) e) (move_refusal m n ts used t e)
