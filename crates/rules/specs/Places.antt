-- A task's place in its program: what it runs next, what it executed last, on which channel it sends or receives.
use Rattle.std.specs.Prelude.{Bool, ◌&&◌, ℕ, ◌-◌, eqb, ltb}
use Rattle.base.specs.Choice.{pick}
use Rattle.base.specs.Range.{sum_below}
use Rattle.plan.specs.declared.ChannelId.{ChannelId}
use Rattle.plan.specs.declared.Instruction.{Instruction}
use Rattle.plan.specs.Kinds.{op_send, is_use, no_instruction}
use Rattle.plan.specs.Programs.{Program, instruction_at}
use Rattle.rules.specs.declared.task.TaskState.{TaskState}
use Rattle.rules.specs.declared.task.Task.{Task}
use Rattle.rules.specs.Tasks.{is_in}

-- the instruction at the place of task x, in its program g
unfoldable pub next_in : Program → Task → Instruction
next_in g x = instruction_at g (x.pc - 1)

-- its last executed instruction; where it has executed none, one of kind 0
unfoldable pub last_in : Program → Task → Instruction
last_in g x = pick (ltb 1 x.pc) (instruction_at g (x.pc - 2)) no_instruction

-- "A task sends or receives on the channel of its last executed instruction.": it is in this state, on channel c
unfoldable pub is_on : TaskState → Program → ChannelId → Task → Bool
is_on s g c x = is_in s x && eqb (last_in g x).operand c.0

-- how many of the first n instructions send on channel c: the number of the last such send "by its instructions, from 1"
unfoldable pub send_number : Program → ChannelId → ℕ → ℕ
send_number g c n = sum_below n (λ i. pick (is_use op_send c.0 (instruction_at g i)) 1 0)
