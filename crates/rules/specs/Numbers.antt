-- The numbers of tasks, desks and channels, no desk, and the limits. "0 means none."
use Rattle.std.specs.Prelude.{Bool, ℕ, eqb}
use Rattle.base.specs.Choice.{within}
use Rattle.plan.specs.declared.TaskId.{TaskId}
use Rattle.plan.specs.declared.ProcessorId.{ProcessorId}
use Rattle.plan.specs.declared.ChannelId.{ChannelId}
pub use Rattle.plan.specs.Numbers.{task_id, processor_id, channel_id, same_task, same_processor, same_channel}

-- no desk
abbrev pub no_processor : ProcessorId
no_processor = processor_id 0

abbrev pub is_none : ProcessorId → Bool
is_none d = eqb d.0 0

-- a desk of a rig of n desks, a task of a rig of m tasks; "channels 1 to 128"
abbrev pub processor_ok : ℕ → ProcessorId → Bool
processor_ok n d = within 1 n d.0

abbrev pub task_number_ok : ℕ → TaskId → Bool
task_number_ok m t = within 1 m t.0

abbrev pub channel_number_ok : ChannelId → Bool
channel_number_ok c = within 1 128 c.0

-- "256 letters in the mail"; "a move count is at most 9,999"
abbrev pub network_size : ℕ
network_size = 256

abbrev pub most_moves : ℕ
most_moves = 9999
