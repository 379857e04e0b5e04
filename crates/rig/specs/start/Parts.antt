-- The parts of a rig at the start, each by itself: `started` is made of these.
use Rattle.std.specs.Prelude.{List, ◌≡◌, ℕ}
use Rattle.rules.specs.declared.system.TaskTable.{TaskTable}
use Rattle.rules.specs.declared.system.Store.{Store}
use Rattle.rules.specs.Numbers.{task_id, processor_id}
use Rattle.rules.specs.declared.system.Parents.{Parents}
use Rattle.rules.specs.Hints.{hint, unknown}
use Rattle.rules.specs.Tasks.{born}
use Rattle.rules.specs.Systems.{task_stored, store}
use Rattle.rules.specs.Starts.{unborn_tasks, no_tables, no_channels, no_parents}
use Rattle.rig_parts.specs.declared.sweep.CellRule.TheVariants.{Locate}
use Rattle.rig_parts.specs.Sweeps.{for_ends, parent_pointed}
use Rattle.board.specs.Lent.{Whole, tasks_on, channels_on, parents_on}

-- task 1 is born at desk 1, where it is ready; the rest are unborn
abbrev pub start_tasks : TaskTable
start_tasks = task_stored unborn_tasks (task_id 1) (born (processor_id 1) unknown)

-- desk 1 points to task 1; nothing else is kept for parents
abbrev pub start_parents : Parents
start_parents = parent_pointed no_parents (processor_id 1) (task_id 1) (hint (processor_id 1) 1)

-- nothing is kept for channels
abbrev pub no_store : Store
no_store = store no_tables no_channels

-- the pointers of desk 1 for the channels that task 1 receives on
abbrev pub start_store : List ℕ → Store
start_store receivers = for_ends receivers (task_id 1) (processor_id 1) (Locate (processor_id 1) 1) no_store

-- the tasks, the channels and the parents on a board are those of the start
pub record StartsOn (board : List ℕ) : Type 0 where
  pub whole : Whole board
  pub tasks : tasks_on board ≡ start_tasks
  pub channels : channels_on board ≡ no_channels
  pub parents : parents_on board ≡ start_parents
