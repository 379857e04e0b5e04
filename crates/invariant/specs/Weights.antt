-- The measure of a rig: ten for each instruction not executed, and what its letters weigh.
use Rattle.std.specs.Prelude.{ℕ, suc, ◌+◌, ◌*◌, length}
use Rattle.base.specs.Range.{sum_below}
use Rattle.plan.specs.declared.TaskId.{TaskId}
use Rattle.plan.specs.Numbers.{task_id, channel_id}
use Rattle.plan.specs.Programs.{Programs}
use Rattle.channel.specs.Measure.{measure}
use Rattle.transitions.specs.Readings.{Reading}
use Rattle.transitions.specs.Progress.{unexecuted}
use Rattle.transitions.specs.Messages.{ended_of, movers_of}
use Rattle.transitions.specs.Views.{Histories, view_of}
use Rattle.plan.specs.Users.{parent_of}
use Rattle.rules.specs.declared.channel.Hint.{Hint}
use Rattle.channel.specs.Bags.{total}
use Rattle.channel.specs.Hints.{forwards}

abbrev pub instruction_weight : ℕ
instruction_weight = 10

-- the channels with letters to weigh
abbrev pub channel_count : ℕ
channel_count = 128

abbrev pub channels_weight : Programs → Histories → Reading → ℕ
channels_weight m h x = sum_below channel_count (λ k. measure (view_of m h x (channel_id (suc k))))

-- an ended letter that goes along a pointer weighs 1, and one for each desk from which it can be forwarded: of a parent with this history and move
-- count, in a rig of n desks
abbrev pub ended_weight : (ℕ → ℕ) → ℕ → ℕ → Hint → ℕ
ended_weight history moves n h = suc (forwards history moves n h.moves)

-- the letters about task t: a mover letter weighs 1
abbrev pub task_weight : Programs → Histories → Reading → TaskId → ℕ
task_weight m h x t =
    total (ended_weight (h (parent_of m t)) (x.tasks (parent_of m t)).moves x.processors) (ended_of t x.messages) + length (movers_of t x.messages)

abbrev pub tasks_weight : Programs → Histories → Reading → ℕ
tasks_weight m h x = sum_below (length m) (λ k. task_weight m h x (task_id (suc k)))

unfoldable pub weight_of : Programs → Histories → Reading → ℕ
weight_of m h x = instruction_weight * unexecuted m x.tasks + (channels_weight m h x + tasks_weight m h x)
