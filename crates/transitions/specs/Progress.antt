-- How far a task is: what it has completed, and how many uses of a channel are among that.
use Rattle.std.specs.Prelude.{Bool, ◌||◌, ℕ, suc, ◌-◌, length}
use Rattle.base.specs.Choice.{pick}
use Rattle.base.specs.Range.{sum_below}
use Rattle.plan.specs.declared.TaskId.{TaskId}
use Rattle.plan.specs.declared.ChannelId.{ChannelId}
use Rattle.plan.specs.Numbers.{task_id}
use Rattle.plan.specs.Kinds.{is_use}
use Rattle.plan.specs.Programs.{Program, Programs, program_at, instruction_at}
use Rattle.rules.specs.declared.task.TaskState.TheVariants.{Waiting, Sending, Receiving}
use Rattle.rules.specs.declared.task.Task.{Task}
use Rattle.rules.specs.Tasks.{is_in}

-- 1 if the test holds, else 0
abbrev pub flag : Bool → ℕ
flag b = pick b 1 0

abbrev pub program_of : Programs → TaskId → Program
program_of m t = program_at m (t.0 - 1)

-- it has executed an instruction that is not completed
abbrev pub is_blocked : Task → Bool
is_blocked x = is_in Waiting x || (is_in Sending x || is_in Receiving x)

-- how many instructions it has completed
unfoldable pub completed_by : Task → ℕ
completed_by x = pick (is_blocked x) (x.pc - 2) (x.pc - 1)

-- how many of the first n instructions have kind k and channel c
unfoldable pub use_number : ℕ → Program → ChannelId → ℕ → ℕ
use_number k g c n = sum_below n (λ i. flag (is_use k c.0 (instruction_at g i)))

-- how many instructions of a task, and of all, are not executed
abbrev pub unexecuted_of : Programs → (TaskId → Task) → TaskId → ℕ
unexecuted_of m tasks t = suc (length (program_of m t)) - (tasks t).pc

unfoldable pub unexecuted : Programs → (TaskId → Task) → ℕ
unexecuted m tasks = sum_below (length m) (λ k. unexecuted_of m tasks (task_id (suc k)))
