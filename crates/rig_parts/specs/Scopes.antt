-- What a step may touch.
use Rattle.std.specs.Prelude.{Bool, true, ◌||◌, ℕ, List, eqb, leb, get_or}
use Rattle.base.specs.Choice.{pick, within}
use Rattle.plan.specs.declared.TaskId.{TaskId}
use Rattle.plan.specs.declared.ProcessorId.{ProcessorId}
use Rattle.plan.specs.declared.ChannelId.{ChannelId}
use Rattle.plan.specs.declared.Instruction.{Instruction}
use Rattle.plan.specs.Kinds.{op_create, op_finish, op_send, op_receive}
use Rattle.rules.specs.declared.message.Message.{Message}
use Rattle.rules.specs.declared.message.Message.TheVariants.{Empty, Offered, Advert, ReadyToReceive, Data, Terminated, Migration}
use Rattle.rules.specs.Numbers.{task_id, channel_id, no_processor}
use Rattle.rig_parts.specs.declared.change.Scope.{Scope}

abbrev pub scope : TaskId → TaskId → ChannelId → ProcessorId → Scope
scope s u c d = record { sender = s; receiver = u; channel = c; processor = d }

-- a task alone, at desk d
abbrev pub alone : TaskId → ProcessorId → Scope
alone t d = scope t (task_id 0) (channel_id 0) d

-- the task that a table names
abbrev pub named_in : List ℕ → ℕ → TaskId
named_in xs k = task_id (get_or xs k 0)

-- instruction i of task t at desk d
unfoldable pub run_scope : List ℕ → List ℕ → List ℕ → TaskId → ProcessorId → Instruction → Scope
run_scope senders receivers parents t d i =
    pick (eqb i.opcode op_create) (scope t (task_id i.operand) (channel_id 0) d)
    (pick (eqb i.opcode op_finish) (scope (named_in parents t.0) t (channel_id 0) d)
    (pick (eqb i.opcode op_send) (scope t (named_in receivers i.operand) (channel_id i.operand) d)
    (pick (eqb i.opcode op_receive) (scope (named_in senders i.operand) t (channel_id i.operand) d)
    (alone t d))))

-- between the ends of channel c, at desk d
abbrev pub channel_scope : List ℕ → List ℕ → ChannelId → ProcessorId → Scope
channel_scope senders receivers c d = scope (named_in senders c.0) (named_in receivers c.0) c d

-- a letter
abbrev pub message_scope : List ℕ → List ℕ → List ℕ → Message → Scope
message_scope senders receivers parents Empty = alone (task_id 0) no_processor
message_scope senders receivers parents (Offered c o h) = channel_scope senders receivers c h.processor
message_scope senders receivers parents (Advert c d from) = channel_scope senders receivers c d
message_scope senders receivers parents (ReadyToReceive c d h) = channel_scope senders receivers c d
message_scope senders receivers parents (Data c d w) = channel_scope senders receivers c d
message_scope senders receivers parents (Terminated h t) = alone (named_in parents t.0) h.processor
message_scope senders receivers parents (Migration d t) = alone t d

-- an instruction whose argument is a number of a task or a channel has one up to 128
abbrev pub argument_ok : Instruction → Bool
argument_ok i =
    pick (eqb i.opcode op_create || (eqb i.opcode op_send || eqb i.opcode op_receive)) (within 1 128 i.operand) true

-- a letter whose channel, or the task of an ended letter, is up to 128
abbrev pub names_ok : Message → Bool
names_ok Empty = true
names_ok (Offered c o h) = leb c.0 128
names_ok (Advert c d from) = leb c.0 128
names_ok (ReadyToReceive c d h) = leb c.0 128
names_ok (Data c d w) = leb c.0 128
names_ok (Terminated h t) = leb t.0 128
names_ok (Migration d t) = true
