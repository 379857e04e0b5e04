-- What a step looks at: tasks, instructions, and the site of a scope.
use Rattle.std.specs.Prelude.{Bool, ◌&&◌, ◌||◌, false, List, ℕ, ◌+◌, ◌-◌, ◌*◌, eqb, ltb, leb, get_or}
use Rattle.base.specs.Choice.{pick, within}
use Rattle.plan.specs.declared.TaskId.{TaskId}
use Rattle.plan.specs.declared.ChannelId.{ChannelId}
use Rattle.plan.specs.declared.Instruction.{Instruction}
use Rattle.plan.specs.Programs.{instruction_of}
use Rattle.rules.specs.declared.task.Task.{Task}
use Rattle.rules.specs.declared.task.TaskState.{TaskState}
use Rattle.rules.specs.declared.task.TaskState.TheVariants.{Sending, Receiving}
use Rattle.rules.specs.declared.channel.Cell.{Cell}
use Rattle.rules.specs.declared.rule.Site.{Site}
use Rattle.rules.specs.declared.system.TaskTable.{TaskTable}
use Rattle.rules.specs.declared.system.Store.{Store}
use Rattle.rules.specs.Numbers.{no_processor}
use Rattle.rules.specs.Tasks.{is_in}
use Rattle.rules.specs.Cells.{unknown, no_offer}
use Rattle.rules.specs.Systems.{task_in, cell_in, cell_stored}
use Rattle.rig_parts.specs.declared.change.Scope.{Scope}

-- the slot of task t's instruction i + 1
abbrev pub slot_at : TaskId → ℕ → ℕ
slot_at t i = 64 * (t.0 - 1) + i

-- the instruction at place pc of task t
abbrev pub instruction_in : List ℕ → TaskId → ℕ → Instruction
instruction_in codes t pc = instruction_of (get_or codes (slot_at t (pc - 1)) 0)

-- what a list has for the last executed instruction of task t at place pc, 0 if there is none
unfoldable pub last_of : List ℕ → TaskId → ℕ → ℕ
last_of xs t pc = pick (eqb t.0 0) 0 (pick (ltb 1 pc) (get_or xs (slot_at t (pc - 2)) 0) 0)

-- task t, with record x, is in this state on channel c
abbrev pub is_on_in : List ℕ → TaskState → TaskId → ChannelId → Task → Bool
is_on_in codes s t c x = is_in s x && eqb (instruction_of (last_of codes t x.pc)).operand c.0

-- a cell with nothing in it, where a step is about no channel
abbrev pub no_cell : Cell
no_cell =
    record {
      entry = record { hint = unknown; held = no_offer; noted = no_processor };
      channel = record { granted = 0; awaiting = false; carried = no_offer; travelling = unknown };
    }

-- the tasks are tasks or none, the channel is one or none, and with a channel there is a desk
abbrev pub scope_ok : Scope → Bool
scope_ok k =
    leb k.sender.0 64 && (leb k.receiver.0 64 && (eqb k.channel.0 0 || (leb k.channel.0 128 && within 1 6 k.processor.0)))

unfoldable pub cell_of : Store → Scope → Cell
cell_of s k = pick (eqb k.channel.0 0) no_cell (cell_in s k.processor k.channel)

unfoldable pub cell_put : Scope → Cell → Store → Store
cell_put k x s = pick (eqb k.channel.0 0) s (cell_stored s k.processor k.channel x)

unfoldable pub site_in : List ℕ → TaskTable → Store → Scope → Site
site_in codes ts s k =
    record {
      sender = task_in ts k.sender;
      receiver = task_in ts k.receiver;
      sending = is_on_in codes Sending k.sender k.channel (task_in ts k.sender);
      receiving = is_on_in codes Receiving k.receiver k.channel (task_in ts k.receiver);
      cell = cell_of s k;
    }
