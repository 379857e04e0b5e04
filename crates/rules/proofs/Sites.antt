-- Small sites and rigs, for the cases.
use mathlib.Core.Bool.{Bool, false}
use mathlib.Core.List.{[], ◌∷◌, ◌++◌}
use Prim.Native.Nat.{ℕ, ◌-◌}
use lib.ListN.{replicate}
use Rattle.base.specs.Choice.{pick}
use Rattle.plan.specs.declared.ProcessorId.{ProcessorId}
use Rattle.plan.specs.declared.ChannelId.{ChannelId}
use Rattle.plan.specs.declared.Word.{Word}
use Rattle.plan.specs.Programs.{Programs, canonical}
use Rattle.plan.proofs.Edges.{word_of}
use Rattle.rules.specs.declared.task.Task.{Task}
use Rattle.rules.specs.declared.task.TaskState.TheVariants.{Ready, Sending}
use Rattle.rules.specs.declared.channel.Cell.{Cell}
use Rattle.rules.specs.declared.message.Message.TheVariants.{Advert}
use Rattle.rules.specs.declared.rule.Site.{Site}
use Rattle.rules.specs.declared.system.System.{System}
use Rattle.rules.specs.Numbers.{task_id, processor_id, channel_id, no_processor}
use Rattle.rules.specs.Tasks.{born, with_state, with_word, with_moves}
use Rattle.rules.specs.Cells.{hint, unknown, no_offer}
use Rattle.rules.specs.Networks.{slot, no_slot}
use Rattle.rules.specs.Systems.{with_network, with_task}
use Rattle.rules.specs.Starts.{blank}
use Rattle.rules.proofs.Scripts.{finish}

abbrev pub processor : ℕ → ProcessorId
processor n = processor_id n

abbrev pub one : ChannelId
one = channel_id 1

abbrev pub seven : Word
seven = word_of 7

-- a cell with nothing in it
abbrev pub empty : Cell
empty =
    record {
      entry = record { hint = unknown; held = no_offer; noted = no_processor };
      channel = record { granted = 0; awaiting = false; carried = no_offer; travelling = unknown };
    }

-- a task born at desk d, of a parent that has stood there since its birth
abbrev pub born_at : ProcessorId → Task
born_at d = born d (hint d 1)

-- a sender at desk 1 with word 7, sending or ready; a receiver at desk d, with a move count of 3
abbrev pub talker : Bool → Task
talker sending = with_state (with_word (born_at (processor 1)) seven) (pick sending Sending Ready)

abbrev pub listener : ℕ → Task
listener d = with_moves (born_at (processor d)) 3

-- the two, sending and receiving on the channel or not, and what is kept for it
abbrev pub site : Bool → ℕ → Bool → Cell → Site
site sending d receiving x = record { sender = talker sending; receiver = listener d; sending = sending; receiving = receiving; cell = x }

-- a rig of n desks with plan m as at its start, but with no pointer
unfoldable pub plain : ℕ → Programs → System
plain n m = with_task (blank n (canonical m)) (task_id 1) (born (processor 1) unknown)

-- two desks and one task, which finishes
unfoldable pub small : System
small = plain 2 ((finish ∷ []) ∷ [])

-- a rig with n letters in its mail, all alike
unfoldable pub crowded : ℕ → System → System
crowded n r =
    with_network r
    (record { slots = replicate n (slot (Advert (channel_id 1) (processor_id 1) (processor_id 1))) ++ replicate (256 - n) no_slot; used = n })
