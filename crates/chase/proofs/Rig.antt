-- The rig of the chase while task 2 and its offer are on their way.
use mathlib.Core.Bool.{false}
use mathlib.Core.List.{List, ◌∷◌}
use Prim.Native.Nat.{ℕ}
use lib.ListN.{replicate, set}
use Rattle.plan.specs.declared.Plan.{Plan}
use Rattle.plan.specs.Files.{file_programs}
use Rattle.plan.specs.Programs.{canonical}
use Rattle.plan.specs.Words.{zero_word}
use Rattle.rules.specs.declared.channel.Hint.{Hint}
use Rattle.rules.specs.declared.message.Message.{Message}
use Rattle.rules.specs.declared.message.Message.TheVariants.{Offered, Migration}
use Rattle.rules.specs.declared.message.Network.{Network}
use Rattle.rules.specs.declared.system.Tables.{Tables}
use Rattle.rules.specs.declared.system.Parents.{Parents}
use Rattle.rules.specs.declared.system.TaskTable.{TaskTable}
use Rattle.rules.specs.declared.system.System.{System}
use Rattle.rules.specs.declared.task.Task.{Task}
use Rattle.rules.specs.declared.task.TaskState.{TaskState}
use Rattle.rules.specs.declared.task.TaskState.TheVariants.{Sending, Moving}
use Rattle.rules.specs.Numbers.{task_id, processor_id, channel_id}
use Rattle.rules.specs.Hints.{hint, unknown}
use Rattle.rules.specs.Cells.{offer}
use Rattle.rules.specs.Tasks.{unborn}
use Rattle.rules.specs.Networks.{slot, no_slot}
use Rattle.rules.specs.Starts.{no_channels, none_chosen}
use Rattle.chase.specs.Construction.{chase_plan}

-- what desks 2 and 3 keep of task 2: pointers of channel 1's receiver, and of a parent
pub record Pointers : Type 0 where
  pub two : Hint
  pub three : Hint
  pub parent2 : Hint
  pub parent3 : Hint

-- nothing
abbrev pub no_pointers : Pointers
no_pointers = record { two = unknown; three = unknown; parent2 = unknown; parent3 = unknown }

abbrev plan : Plan
plan = canonical (file_programs chase_plan)

-- task 1 has created task 2, and sends
abbrev sender : Task
sender =
    record { state = Sending; processor = processor_id 1; pc = 3; origin = unknown; word = zero_word; overflow = false; moves = 1; children = 2 }

-- task 2 in a state, at a desk, with a move count
abbrev receiver : TaskState → ℕ → ℕ → Task
receiver s d n =
    record { state = s; processor = processor_id d; pc = 1; origin = hint (processor_id 1) 1; word = zero_word; overflow = false; moves = n; children = 0 }

abbrev tasks : Task → List ℕ → TaskTable
tasks x ready = record { records = sender ∷ x ∷ replicate 62 unborn; ready = ready }

abbrev tables : Pointers → Tables
tables x =
    record {
      hintprocessors = set (set (set (replicate 768 0) 0 2) 128 x.two.processor.0) 256 x.three.processor.0;
      hintmoves = set (set (set (replicate 768 0) 0 2) 128 x.two.moves) 256 x.three.moves;
      heldprocessors = replicate 768 0;
      heldnumbers = replicate 768 0;
      notes = replicate 768 0;
    }

abbrev parents : Pointers → Parents
parents x =
    record {
      hintprocessors = set (set (set (set (replicate 384 0) 0 1) 1 2) 65 x.parent2.processor.0) 129 x.parent3.processor.0;
      hintmoves = set (set (set (set (replicate 384 0) 0 1) 1 2) 65 x.parent2.moves) 129 x.parent3.moves;
      held = replicate 384 0;
    }

abbrev pub the_offer : ℕ → ℕ → Message
the_offer d n = Offered (channel_id 1) (offer (processor_id 1) 1) (hint (processor_id d) n)

abbrev mail : Message → Message → Network
mail a b = record { slots = slot a ∷ slot b ∷ replicate 254 no_slot; used = 2 }

abbrev rig : Task → Pointers → Network → System
rig t x k =
    record {
      processors = 3;
      plan = plan;
      tasks = tasks t (replicate 6 0);
      tables = tables x;
      channels = no_channels;
      parents = parents x;
      network = k;
      chosen = none_chosen;
    }

-- task 2 moves to desk d with count n, and the offer goes there with that count
unfoldable pub chase_rig : ℕ → ℕ → Pointers → System
chase_rig d n x = rig (receiver Moving 0 n) x (mail (Migration (processor_id d) (task_id 2)) (the_offer d n))

-- task 2 has left desk d again, with count n + 1, before the offer is there
unfoldable pub left_rig : ℕ → ℕ → ℕ → ℕ → Pointers → System
left_rig d e n m x = rig (receiver Moving 0 m) x (mail (the_offer d n) (Migration (processor_id e) (task_id 2)))
