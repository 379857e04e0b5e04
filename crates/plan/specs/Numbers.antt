-- The numbers of tasks, desks and channels, which are separate given sets.
use Rattle.std.specs.Prelude.{ℕ, Bool, ◌==◌}
use Rattle.plan.specs.declared.TaskId.{TaskId}
use Rattle.plan.specs.declared.ProcessorId.{ProcessorId}
use Rattle.plan.specs.declared.ChannelId.{ChannelId}

abbrev pub task_id : ℕ → TaskId
task_id n = record { 0 = n }

abbrev pub processor_id : ℕ → ProcessorId
processor_id n = record { 0 = n }

abbrev pub channel_id : ℕ → ChannelId
channel_id n = record { 0 = n }

abbrev pub same_task : TaskId → TaskId → Bool
same_task t u = t.0 == u.0

abbrev pub same_processor : ProcessorId → ProcessorId → Bool
same_processor d e = d.0 == e.0

abbrev pub same_channel : ChannelId → ChannelId → Bool
same_channel c e = c.0 == e.0
