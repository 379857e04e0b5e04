-- The labels of the net: what can happen next.
use Rattle.std.specs.Prelude.{Bool, ◌||◌, eqb}
use Rattle.plan.specs.declared.TaskId.{TaskId}
use Rattle.plan.specs.declared.ChannelId.{ChannelId}
use Rattle.plan.specs.declared.Instruction.{Instruction}
use Rattle.plan.specs.Numbers.{same_task}
use Rattle.plan.specs.Kinds.{op_create, op_sync, op_finish, op_send, op_receive}
use Rattle.plan.specs.Programs.{Programs}
use Rattle.plan.specs.Users.{sender_of, receiver_of}

pub data Label : Type 0 where
  -- a task does an instruction of its own: create, sync, finish, set or add
  own : TaskId → Label
  -- a word passes a channel: a send and a receive, at once
  pass : ChannelId → Label
  deriving Discrete as Label-discrete

-- kinds of instruction
abbrev pub is_create : Instruction → Bool
is_create i = eqb i.opcode op_create

-- sync and finish, which wait for children
abbrev pub is_join : Instruction → Bool
is_join i = eqb i.opcode op_sync || eqb i.opcode op_finish

-- send and receive, which need another task
abbrev pub is_transfer : Instruction → Bool
is_transfer i = eqb i.opcode op_send || eqb i.opcode op_receive

-- task t does an instruction by this label
unfoldable pub takes_part : Programs → TaskId → Label → Bool
takes_part m t (own u) = same_task t u
takes_part m t (pass c) = same_task t (sender_of m c) || same_task t (receiver_of m c)
