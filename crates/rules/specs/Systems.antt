-- The rig read and changed: a task, with the sets of ready tasks, a cell, what a desk keeps for a parent, the mail; each in the part of the rig that it is in, then in the rig. Nothing above looks into
-- an array.
use Rattle.std.specs.Prelude.{Bool, false, ◌&&◌, List, [], ◌∷◌, ℕ, suc, ◌+◌, ◌-◌, ◌*◌, eqb, get_or, set}
use Rattle.base.specs.Choice.{pick}
use Rattle.base.specs.Sets.{inserted, removed}
use Rattle.plan.specs.declared.TaskId.{TaskId}
use Rattle.plan.specs.declared.ProcessorId.{ProcessorId}
use Rattle.plan.specs.declared.ChannelId.{ChannelId}
use Rattle.plan.specs.Programs.{Program, Programs, program_at, programs}
use Rattle.rules.specs.declared.task.Task.{Task}
use Rattle.rules.specs.declared.task.TaskState.TheVariants.{Ready}
use Rattle.rules.specs.declared.channel.Entry.{Entry}
use Rattle.rules.specs.declared.channel.Channel.{Channel}
use Rattle.rules.specs.declared.channel.Cell.{Cell}
use Rattle.rules.specs.declared.message.Network.{Network}
use Rattle.rules.specs.declared.system.Tables.{Tables}
use Rattle.rules.specs.declared.system.Channels.{Channels}
use Rattle.rules.specs.declared.system.Store.{Store}
use Rattle.rules.specs.declared.system.Parents.{Parents}
use Rattle.rules.specs.declared.system.ParentEntry.{ParentEntry}
use Rattle.rules.specs.declared.system.TaskTable.{TaskTable}
use Rattle.rules.specs.declared.system.System.{System}
use Rattle.rules.specs.Numbers.{processor_id}
use Rattle.rules.specs.Tasks.{no_task, is_in, is_at}
use Rattle.rules.specs.Cells.{hint, offer}

-- what a rig keeps for channels, at desks and for the channels themselves
abbrev pub store : Tables → Channels → Store
store t k = record { tables = t; channels = k }

abbrev pub store_in : System → Store
store_in r = store r.tables r.channels

-- the rig with one part changed
abbrev pub with_tasks : System → TaskTable → System
with_tasks r x = record { processors = r.processors; plan = r.plan; tasks = x; tables = r.tables; channels = r.channels; parents = r.parents; network = r.network; chosen = r.chosen }

abbrev pub with_store : System → Store → System
with_store r s =
    record { processors = r.processors; plan = r.plan; tasks = r.tasks; tables = s.tables; channels = s.channels; parents = r.parents; network = r.network; chosen = r.chosen }

abbrev pub with_network : System → Network → System
with_network r x = record { processors = r.processors; plan = r.plan; tasks = r.tasks; tables = r.tables; channels = r.channels; parents = r.parents; network = x; chosen = r.chosen }

abbrev pub with_parents : System → Parents → System
with_parents r x =
    record { processors = r.processors; plan = r.plan; tasks = r.tasks; tables = r.tables; channels = r.channels; parents = x; network = r.network; chosen = r.chosen }

abbrev pub with_chosen : System → List ℕ → System
with_chosen r x =
    record { processors = r.processors; plan = r.plan; tasks = r.tasks; tables = r.tables; channels = r.channels; parents = r.parents; network = r.network; chosen = x }

-- task t of the tasks; "0 means none"
unfoldable pub task_in : TaskTable → TaskId → Task
task_in ts t = pick (eqb t.0 0) no_task (get_or ts.records (t.0 - 1) no_task)

-- "the ready tasks of a desk": a task of desk d's set
abbrev pub is_ready_at : ProcessorId → Task → Bool
is_ready_at d x = is_in Ready x && is_at d x

-- "Every accepted step updates the sets.": desk d's set, where the record of task t was x and becomes y. A task that becomes ready there joins it,
-- one that was leaves it
unfoldable pub ready_then : TaskId → Task → Task → ProcessorId → ℕ → ℕ
ready_then t x y d s =
    pick (is_ready_at d x)
    (pick (is_ready_at d y) s (removed t.0 s))
    (pick (is_ready_at d y) (inserted t.0 s) s)

-- the sets of desks d, d + 1 and so on likewise
unfoldable pub ready_sets : ℕ → TaskId → Task → Task → List ℕ → List ℕ
ready_sets d t x y [] = []
ready_sets d t x y (s ∷ ss) = ready_then t x y (processor_id d) s ∷ ready_sets (suc d) t x y ss

-- a task is stored, and with it its place in the sets of all six desks, which change nowhere else
unfoldable pub task_stored : TaskTable → TaskId → Task → TaskTable
task_stored ts t y =
    pick (eqb t.0 0) ts
    (record { records = set ts.records (t.0 - 1) y; ready = ready_sets 1 t (task_in ts t) y ts.ready })

-- of the rig
abbrev pub task_at : System → TaskId → Task
task_at r t = task_in r.tasks t

unfoldable pub with_task : System → TaskId → Task → System
with_task r t x = with_tasks r (task_stored r.tasks t x)

-- desk d's set, and the last task that its dispatcher chose
abbrev pub ready_at : System → ProcessorId → ℕ
ready_at r d = get_or r.tasks.ready (d.0 - 1) 0

abbrev pub chosen_at : System → ProcessorId → ℕ
chosen_at r d = get_or r.chosen (d.0 - 1) 0

-- "six desks by 128 channels, 768 entries each": where the entry of desk d and channel c is, both from 1
abbrev pub entry_index : ProcessorId → ChannelId → ℕ
entry_index d c = 128 * (d.0 - 1) + (c.0 - 1)

abbrev pub read_entry : Tables → ℕ → Entry
read_entry x i =
    record {
      hint = hint (processor_id (get_or x.hintprocessors i 0)) (get_or x.hintmoves i 0);
      held = offer (processor_id (get_or x.heldprocessors i 0)) (get_or x.heldnumbers i 0);
      noted = processor_id (get_or x.notes i 0);
    }

abbrev pub write_entry : Tables → ℕ → Entry → Tables
write_entry x i e =
    record {
      hintprocessors = set x.hintprocessors i e.hint.processor.0;
      hintmoves = set x.hintmoves i e.hint.moves;
      heldprocessors = set x.heldprocessors i e.held.processor.0;
      heldnumbers = set x.heldnumbers i e.held.number;
      notes = set x.notes i e.noted.0;
    }

-- desk d's entry for channel c
abbrev pub entry_in : Tables → ProcessorId → ChannelId → Entry
entry_in x d c = read_entry x (entry_index d c)

abbrev pub read_channel : Channels → ℕ → Channel
read_channel x i =
    record {
      granted = get_or x.granted i 0;
      awaiting = get_or x.awaiting i false;
      carried = offer (processor_id (get_or x.carriedprocessors i 0)) (get_or x.carriednumbers i 0);
      travelling = hint (processor_id (get_or x.travellingprocessors i 0)) (get_or x.travellingmoves i 0);
    }

abbrev pub write_channel : Channels → ℕ → Channel → Channels
write_channel x i k =
    record {
      granted = set x.granted i k.granted;
      awaiting = set x.awaiting i k.awaiting;
      carriedprocessors = set x.carriedprocessors i k.carried.processor.0;
      carriednumbers = set x.carriednumbers i k.carried.number;
      travellingprocessors = set x.travellingprocessors i k.travelling.processor.0;
      travellingmoves = set x.travellingmoves i k.travelling.moves;
    }

-- channel c's own entry
abbrev pub channel_in : Channels → ChannelId → Channel
channel_in x c = read_channel x (c.0 - 1)

-- both: the cell of desk d and channel c
abbrev pub cell_in : Store → ProcessorId → ChannelId → Cell
cell_in s d c = record { entry = entry_in s.tables d c; channel = channel_in s.channels c }

abbrev pub cell_stored : Store → ProcessorId → ChannelId → Cell → Store
cell_stored s d c x = store (write_entry s.tables (entry_index d c) x.entry) (write_channel s.channels (c.0 - 1) x.channel)

-- of the rig
unfoldable pub entry_at : System → ProcessorId → ChannelId → Entry
entry_at r d c = entry_in r.tables d c

unfoldable pub channel_at : System → ChannelId → Channel
channel_at r c = channel_in r.channels c

abbrev pub cell_at : System → ProcessorId → ChannelId → Cell
cell_at r d c = record { entry = entry_at r d c; channel = channel_at r c }

unfoldable pub with_cell : System → ProcessorId → ChannelId → Cell → System
with_cell r d c x = with_store r (cell_stored (store_in r) d c x)

-- where the entry of desk d for the parent t is, both from 1
abbrev pub parent_index : ProcessorId → TaskId → ℕ
parent_index d t = 64 * (d.0 - 1) + (t.0 - 1)

abbrev pub read_parent : Parents → ℕ → ParentEntry
read_parent x i = record { hint = hint (processor_id (get_or x.hintprocessors i 0)) (get_or x.hintmoves i 0); held = get_or x.held i 0 }

abbrev pub write_parent : Parents → ℕ → ParentEntry → Parents
write_parent x i e =
    record {
      hintprocessors = set x.hintprocessors i e.hint.processor.0;
      hintmoves = set x.hintmoves i e.hint.moves;
      held = set x.held i e.held;
    }

-- desk d's entry for parent t, of the rig
unfoldable pub parent_at : System → ProcessorId → TaskId → ParentEntry
parent_at r d t = read_parent r.parents (parent_index d t)

unfoldable pub with_parent : System → ProcessorId → TaskId → ParentEntry → System
with_parent r d t e = with_parents r (write_parent r.parents (parent_index d t) e)

-- what the rig's plan means, and the program of task t, from 1
abbrev pub meaning : System → Programs
meaning r = programs r.plan

abbrev pub task_program : System → TaskId → Program
task_program r t = program_at (meaning r) (t.0 - 1)
