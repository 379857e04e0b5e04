-- The verdict on an instruction that uses no channel, of task t with record x, and what it supposes.
use Rattle.std.specs.Prelude.{List, ℕ, ◌≤◌, ◌<◌, None, Ok}
use Rattle.plan.specs.declared.TaskId.{TaskId}
use Rattle.plan.specs.declared.ProcessorId.{ProcessorId}
use Rattle.rules.specs.declared.task.Task.{Task}
use Rattle.rules.specs.declared.rule.Outcome.{Outcome}
use Rattle.rules.specs.declared.rule.Posting.{Posting}
use Rattle.rules.specs.declared.rule.Posting.TheVariants.{Nothing as NoPosting}
use Rattle.rules.specs.Numbers.{channel_id}
use Rattle.rules.specs.declared.rule.Finished.{Finished}
use Rattle.rules.specs.declared.system.TaskTable.{TaskTable}
use Rattle.rules.specs.declared.system.Parents.{Parents}
use Rattle.rules.specs.Hints.{hint}
use Rattle.rules.specs.Tasks.{no_task, born}
use Rattle.rules.specs.Local.{create_rule, finish_rule}
use Rattle.rules.specs.Systems.{task_in}
use Rattle.rig_parts.specs.declared.sweep.Sweep.TheVariants.{Nothing, Birth, Ending}
use Rattle.rig_parts.specs.declared.change.Change.{Change}
use Rattle.rig_parts.specs.Answers.{Verdict}
use Rattle.rig_parts.specs.Sweeps.{parent_in}
use Rattle.rig_parts.specs.Fetches.{no_cell}
use Rattle.rig_parts.specs.Scopes.{scope, alone, named_in}
use Rattle.rig_parts.specs.RunVerdicts.{change, fitting_in}

-- two tasks are left so, and this is posted
abbrev pub two_tasks : Task → Task → Posting → Outcome
two_tasks a b p = record { sender = a; receiver = b; cell = no_cell; posting = p; received = None }

-- a create: task u is born at the task's desk
abbrev pub create_verdict : TaskId → Task → TaskId → Verdict
create_verdict t x u =
    let d = x.processor in
    Ok (change (scope t u (channel_id 0) d) (two_tasks (create_rule x u) (born d (hint d x.moves)) NoPosting) (Birth u d))

-- what it supposes
pub record CanCreate (t : TaskId) (x : Task) (u : TaskId) : Type 0 where
  pub task : t.0 ≤ 64
  pub child_low : 1 ≤ u.0
  pub child : u.0 ≤ 64
  pub place : x.pc < 255
  pub processor_low : 1 ≤ x.processor.0
  pub processor : x.processor.0 ≤ 6

-- what a finish leaves of its parent, of the task and of what its desk keeps for the parent
abbrev pub finished_in : List ℕ → TaskTable → Parents → TaskId → Task → Finished
finished_in parents ts ps t x =
    let u = named_in parents t.0 in
    finish_rule t x (task_in ts u) (parent_in ps x.processor u)

abbrev pub finish_change : List ℕ → TaskTable → Parents → TaskId → Task → Change
finish_change parents ts ps t x =
    let u = named_in parents t.0 in
    let o = finished_in parents ts ps t x in
    change (scope u t (channel_id 0) x.processor) (two_tasks o.parent o.task o.posting) (Ending u x.processor o.entry)

-- it is refused where its letter does not fit
abbrev pub finish_verdict : List ℕ → ℕ → ℕ → TaskTable → Parents → TaskId → Task → Verdict
finish_verdict parents n used ts ps t x = fitting_in n used (finish_change parents ts ps t x)

-- what it supposes
pub record CanFinish (parents : List ℕ) (t : TaskId) (x : Task) : Type 0 where
  pub task_low : 1 ≤ t.0
  pub task : t.0 ≤ 64
  pub parent : (named_in parents t.0).0 ≤ 64
  pub place : x.pc < 255
  pub processor_low : 1 ≤ x.processor.0
  pub processor : x.processor.0 ≤ 6

-- another instruction makes the task y, at desk d
abbrev pub alone_verdict : TaskId → ProcessorId → Task → Verdict
alone_verdict t d y = Ok (change (alone t d) (two_tasks y no_task NoPosting) Nothing)
