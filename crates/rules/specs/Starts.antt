-- "Rig at the start".
use Rattle.std.specs.Prelude.{false, List, ℕ, replicate}
use Rattle.plan.specs.declared.Plan.{Plan}
use Rattle.plan.specs.declared.TaskId.{TaskId}
use Rattle.plan.specs.declared.ProcessorId.{ProcessorId}
use Rattle.rules.specs.declared.channel.Hint.{Hint}
use Rattle.rules.specs.declared.channel.Cell.{Cell}
use Rattle.rules.specs.declared.message.Network.{Network}
use Rattle.rules.specs.declared.system.Tables.{Tables}
use Rattle.rules.specs.declared.system.Channels.{Channels}
use Rattle.rules.specs.declared.system.Parents.{Parents}
use Rattle.rules.specs.declared.system.ParentEntry.{ParentEntry}
use Rattle.rules.specs.declared.system.TaskTable.{TaskTable}
use Rattle.rules.specs.declared.system.System.{System}
use Rattle.rules.specs.Numbers.{task_id, processor_id}
use Rattle.rules.specs.Tasks.{unborn, born}
use Rattle.rules.specs.Hints.{hint, unknown}
use Rattle.rules.specs.Cells.{with_hint}
use Rattle.rules.specs.Networks.{no_slot}
use Rattle.rules.specs.Systems.{with_task, parent_at, with_parent}
use Rattle.rules.specs.Effects.{for_receiving}

-- "Birth and arrival at d set d's pointer to (d, move count) for each channel that the task receives on."; a move: "d's pointers for its
-- receiving channels become (e, new count)". For one channel
abbrev pub located : ProcessorId → ℕ → Cell → Cell
located d n x = with_hint x (hint d n)

-- "Each desk keeps a pointer for every parent, set at birth, arrival and departure as for receivers": desk d's becomes h
abbrev pub pointing : ParentEntry → Hint → ParentEntry
pointing e h = record { hint = h; held = e.held }

abbrev pub pointed : System → ProcessorId → TaskId → Hint → System
pointed r d t h = with_parent r d t (pointing (parent_at r d t) h)

-- the birth of task t at d, with its own pointer to its parent
unfoldable pub birth : System → TaskId → ProcessorId → Hint → System
birth r t d own = for_receiving (pointed (with_task r t (born d own)) d t (hint d 1)) t d (located d 1)

-- "the rest are unborn"; so none is ready
abbrev pub unborn_tasks : TaskTable
unborn_tasks = record { records = replicate 64 unborn; ready = replicate 6 0 }

-- "a pointer .., a held offer and a noted advert: .. 768 entries each, none at the start"
abbrev pub no_tables : Tables
no_tables =
    record {
      hintprocessors = replicate 768 0;
      hintmoves = replicate 768 0;
      heldprocessors = replicate 768 0;
      heldnumbers = replicate 768 0;
      notes = replicate 768 0;
    }

-- "one carried offer and one travelling pointer, none at the start"; no number is called
abbrev pub no_channels : Channels
no_channels =
    record {
      granted = replicate 128 0;
      awaiting = replicate 128 false;
      carriedprocessors = replicate 128 0;
      carriednumbers = replicate 128 0;
      travellingprocessors = replicate 128 0;
      travellingmoves = replicate 128 0;
    }

-- no pointer to a parent, and no child that is held
abbrev pub no_parents : Parents
no_parents = record { hintprocessors = replicate 384 0; hintmoves = replicate 384 0; held = replicate 384 0 }

-- no letter
abbrev pub no_messages : Network
no_messages = record { slots = replicate 256 no_slot; used = 0 }

-- "a last choice .. (0 at first)"
abbrev pub none_chosen : List ℕ
none_chosen = replicate 6 0

-- a rig before the birth of task 1
unfoldable pub blank : ℕ → Plan → System
blank n p =
    record { processors = n; plan = p; tasks = unborn_tasks; tables = no_tables; channels = no_channels; parents = no_parents; network = no_messages; chosen = none_chosen }

-- "Task 1 is ready at desk 1"; "its start is a birth at desk 1"; its own pointer is both 0 "always for task 1, which has no parent"
unfoldable pub started : ℕ → Plan → System
started n p = birth (blank n p) (task_id 1) (processor_id 1) unknown
