-- When a label may be taken.
use Rattle.std.specs.Prelude.{Bool, not, ◌&&◌, ◌||◌, [], ℕ, ◌-◌, eqb, ltb, length, take}
use Rattle.base.specs.Choice.{pick}
use Rattle.base.specs.Lists.{every}
use Rattle.plan.specs.declared.TaskId.{TaskId}
use Rattle.plan.specs.declared.ChannelId.{ChannelId}
use Rattle.plan.specs.declared.Instruction.{Instruction}
use Rattle.plan.specs.Numbers.{task_id}
use Rattle.plan.specs.Kinds.{op_send, op_receive, is_use}
use Rattle.plan.specs.Programs.{Program, Programs, program_at, instruction_at}
use Rattle.plan.specs.Users.{sender_of, receiver_of}
use Rattle.net.specs.States.{Net}
use Rattle.net.specs.Labels.{Label, own, pass, is_create, is_join, is_transfer}

-- the program of task t; number 0 is no task
unfoldable pub program_for : Programs → TaskId → Program
program_for m t = pick (eqb t.0 0) [] (program_at m (t.0 - 1))

-- task t has completed its program
unfoldable pub is_complete : Programs → Net → TaskId → Bool
is_complete m s t = not (ltb (s.completed t) (length (program_for m t)))

-- it is born and has an instruction left; that instruction
unfoldable pub is_active : Programs → Net → TaskId → Bool
is_active m s t = s.born t && not (is_complete m s t)

unfoldable pub next_of : Programs → Net → TaskId → Instruction
next_of m s t = instruction_at (program_for m t) (s.completed t)

-- it is at an instruction of kind k on channel c
unfoldable pub stands_at : Programs → Net → TaskId → ℕ → ChannelId → Bool
stands_at m s t k c = is_active m s t && is_use k c.0 (next_of m s t)

-- the child that instruction i creates, if it creates one, is complete
abbrev pub child_complete : Programs → Net → Instruction → Bool
child_complete m s i = not (is_create i) || is_complete m s (task_id i.operand)

-- each child that task t has created so far is
unfoldable pub children_complete : Programs → Net → TaskId → Bool
children_complete m s t = every (child_complete m s) (take (s.completed t) (program_for m t))

-- it can do instruction i by itself: create, set and add always, sync and finish when every child created so far is complete
unfoldable pub is_free : Programs → Net → TaskId → Instruction → Bool
is_free m s t i = not (is_transfer i) && (not (is_join i) || children_complete m s t)

-- a label may be taken
unfoldable pub enabled : Programs → Net → Label → Bool
enabled m s (own t) = is_active m s t && is_free m s t (next_of m s t)
enabled m s (pass c) = stands_at m s (sender_of m c) op_send c && stands_at m s (receiver_of m c) op_receive c
