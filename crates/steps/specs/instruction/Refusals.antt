-- What the first tests of a run suppose: those that come before what its instruction does.
use Rattle.std.specs.Prelude.{◌≡◌, true, ℕ, ◌≤◌}
use Rattle.base.specs.Choice.{within}
use Rattle.plan.specs.declared.TaskId.{TaskId}
use Rattle.rules.specs.declared.task.TaskState.TheVariants.{Ready}
use Rattle.rules.specs.declared.system.TaskTable.{TaskTable}
use Rattle.rules.specs.Tasks.{is_in}
use Rattle.rules.specs.Systems.{task_in}

-- there are at most 64 tasks, and each that is ready has a place of 1 to 64
pub record Placed (count : ℕ) (ts : TaskTable) : Type 0 where
  pub few : count ≤ 64
  pub place : (t : TaskId) → within 1 count t.0 ≡ true → is_in Ready (task_in ts t) ≡ true → within 1 64 (task_in ts t).pc ≡ true
