-- A rig with all words and marks erased, and the arguments of sets and adds: what "Words don't reach a tablet at all" is said by.
use Rattle.std.specs.Prelude.{false, ◌||◌, map, eqb, None, Some}
use Rattle.base.specs.Choice.{pick}
use Rattle.plan.specs.declared.Instruction.{Instruction}
use Rattle.plan.specs.declared.Plan.{Plan}
use Rattle.plan.specs.Kinds.{op_set, op_add}
use Rattle.plan.specs.Programs.{Programs, programs, canonical}
use Rattle.plan.specs.Words.{zero_word}
use Rattle.rules.specs.declared.task.Task.{Task}
use Rattle.rules.specs.declared.message.Message.{Message}
use Rattle.rules.specs.declared.message.Message.TheVariants.{Empty, Offered, Advert, ReadyToReceive, Data, Terminated, Migration}
use Rattle.rules.specs.declared.message.Slot.{Slot}
use Rattle.rules.specs.declared.message.Network.{Network}
use Rattle.rules.specs.Reports.{Received}
use Rattle.rules.specs.declared.step.Report.{Report}
use Rattle.rules.specs.declared.step.Stepped.{Stepped}
use Rattle.rules.specs.declared.system.TaskTable.{TaskTable}
use Rattle.rules.specs.declared.system.System.{System}
use Rattle.rules.specs.Tasks.{with_word, with_overflow}
use Rattle.rules.specs.Networks.{slot}

-- "plans that differ only in arguments of set and add": an instruction without that argument; its level stays
unfoldable pub erased_instruction : Instruction → Instruction
erased_instruction i = pick (eqb i.opcode op_set || eqb i.opcode op_add) (record { opcode = i.opcode; level = i.level; operand = 0 }) i

unfoldable pub erased_programs : Programs → Programs
erased_programs m = map (map erased_instruction) m

unfoldable pub erased_plan : Plan → Plan
erased_plan p = canonical (erased_programs (programs p))

-- a task without word and mark
abbrev pub erased_task : Task → Task
erased_task x = with_overflow (with_word x zero_word) false

abbrev pub erased_tasks : TaskTable → TaskTable
erased_tasks ts = record { records = map erased_task ts.records; ready = ts.ready }

-- a letter without its word
unfoldable pub erased_message : Message → Message
erased_message Empty = Empty
erased_message (Offered c o h) = Offered c o h
erased_message (Advert c d from) = Advert c d from
erased_message (ReadyToReceive c d h) = ReadyToReceive c d h
erased_message (Data c d w) = Data c d zero_word
erased_message (Terminated h t) = Terminated h t
erased_message (Migration d t) = Migration d t

abbrev pub erased_slot : Slot → Slot
erased_slot s = slot (erased_message s.message)

abbrev pub erased_network : Network → Network
erased_network n = record { slots = map erased_slot n.slots; used = n.used }

-- the rig
unfoldable pub erase : System → System
erase r =
    record {
      processors = r.processors;
      plan = erased_plan r.plan;
      tasks = erased_tasks r.tasks;
      tables = r.tables;
      channels = r.channels;
      parents = r.parents;
      network = erased_network r.network;
      chosen = r.chosen;
    }

-- what a step gives: that a word was received on a channel is kept, which one is not
unfoldable pub erased_received : Received → Received
erased_received None = None
erased_received (Some (c, w)) = Some (c, zero_word)

abbrev pub erased_report : Report → Report
erased_report q = record { answer = q.answer; received = erased_received q.received }

abbrev pub erased_stepped : Stepped → Stepped
erased_stepped o = record { report = erased_report o.report; system = erase o.system }
