-- A rig as it is read: functions in the place of arrays, and the mail as a list.
use Rattle.std.specs.Prelude.{Bool, false, not, ◌&&◌, List, ℕ, eqb}
use Rattle.base.specs.Choice.{pick}
use Rattle.plan.specs.declared.TaskId.{TaskId}
use Rattle.plan.specs.declared.ChannelId.{ChannelId}
use Rattle.plan.specs.Numbers.{processor_id}
use Rattle.rules.specs.declared.task.Task.{Task}
use Rattle.rules.specs.declared.channel.Entry.{Entry}
use Rattle.rules.specs.declared.channel.Channel.{Channel}
use Rattle.rules.specs.declared.channel.Cell.{Cell}
use Rattle.rules.specs.declared.message.Message.{Message}
use Rattle.rules.specs.declared.rule.Outcome.{Outcome}
use Rattle.rules.specs.declared.system.System.{System}
use Rattle.rules.specs.Numbers.{channel_number_ok, task_number_ok}
use Rattle.rules.specs.Cells.{unknown, no_offer}
use Rattle.rules.specs.Networks.{messages}
use Rattle.rules.specs.Systems.{task_at, entry_at, channel_at, parent_at}
use Rattle.net.specs.States.{at_task, at_channel}
use Rattle.channel.specs.Updates.{at_number}
use Rattle.rules.specs.declared.system.ParentEntry.{ParentEntry}

pub record Reading : Type 0 where
  pub processors : ℕ
  pub tasks : TaskId → Task
  -- of each channel, the entry of each desk
  pub entries : ChannelId → ℕ → Entry
  pub channels : ChannelId → Channel
  -- of each task, what each desk keeps for it as a parent
  pub parents : TaskId → ℕ → ParentEntry
  pub messages : List Message

-- what stands where there is no desk, no channel or no task
abbrev pub no_entry : Entry
no_entry = record { hint = unknown; held = no_offer; noted = processor_id 0 }

abbrev pub no_channel : Channel
no_channel = record { granted = 0; awaiting = false; carried = no_offer; travelling = unknown }

abbrev pub no_parent_entry : ParentEntry
no_parent_entry = record { hint = unknown; held = 0 }

unfoldable pub entry_of : System → ChannelId → ℕ → Entry
entry_of r c d = pick (channel_number_ok c && not (eqb d 0)) (entry_at r (processor_id d) c) no_entry

unfoldable pub channel_of : System → ChannelId → Channel
channel_of r c = pick (channel_number_ok c) (channel_at r c) no_channel

unfoldable pub parent_entry_of : System → TaskId → ℕ → ParentEntry
parent_entry_of r t d = pick (task_number_ok 64 t && not (eqb d 0)) (parent_at r (processor_id d) t) no_parent_entry

unfoldable pub reading : System → Reading
reading r =
    record {
      processors = r.processors;
      tasks = task_at r;
      entries = entry_of r;
      channels = channel_of r;
      parents = parent_entry_of r;
      messages = messages r.network;
    }

-- the entry of desk d and channel c, and the channel's own
abbrev pub cell_of : Reading → ChannelId → ℕ → Cell
cell_of x c d = record { entry = x.entries c d; channel = x.channels c }

-- with one part changed
abbrev pub with_task_read : Reading → TaskId → Task → Reading
with_task_read x t y =
    record { processors = x.processors; tasks = at_task x.tasks t y; entries = x.entries; channels = x.channels; parents = x.parents; messages = x.messages }

abbrev pub with_messages_read : Reading → List Message → Reading
with_messages_read x ms = record { processors = x.processors; tasks = x.tasks; entries = x.entries; channels = x.channels; parents = x.parents; messages = ms }

-- desk d keeps e for task t
abbrev pub kept_for : Reading → TaskId → ℕ → ParentEntry → TaskId → ℕ → ParentEntry
kept_for x t d e = at_task x.parents t (at_number (x.parents t) d e)

abbrev pub with_parent_read : Reading → TaskId → ℕ → ParentEntry → Reading
with_parent_read x t d e =
    record { processors = x.processors; tasks = x.tasks; entries = x.entries; channels = x.channels; parents = kept_for x t d e; messages = x.messages }

-- after a rule about channel c at desk d, between tasks s and u, with the letters ms in the mail
abbrev pub with_outcome_read : Reading → TaskId → TaskId → ChannelId → ℕ → Outcome → List Message → Reading
with_outcome_read x s u c d o ms =
    record {
      processors = x.processors;
      tasks = at_task (at_task x.tasks s o.sender) u o.receiver;
      entries = at_channel x.entries c (at_number (x.entries c) d o.cell.entry);
      channels = at_channel x.channels c o.cell.channel;
      parents = x.parents;
      messages = ms;
    }

-- after a rule for each channel of which the test holds, at desk d
abbrev pub for_channels_read : (ChannelId → Bool) → (Cell → Cell) → ℕ → Reading → Reading
for_channels_read test rule d x =
    record {
      processors = x.processors;
      tasks = x.tasks;
      entries = λ c. pick (channel_number_ok c && test c) (at_number (x.entries c) d (rule (cell_of x c d)).entry) (x.entries c);
      channels = λ c. pick (channel_number_ok c && test c) (rule (cell_of x c d)).channel (x.channels c);
      parents = x.parents;
      messages = x.messages;
    }
