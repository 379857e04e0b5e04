-- The test of a task, by what it looks at of the task's program: how many instructions it has, and the kind of the last executed one.
use Rattle.std.specs.Prelude.{Bool, not, ◌&&◌, ◌||◌, ℕ, ◌^◌, eqb, ltb}
use Rattle.base.specs.Choice.{pick}
use Rattle.plan.specs.Kinds.{op_send, op_receive}
use Rattle.rules.specs.declared.task.Task.{Task}
use Rattle.rules.specs.declared.task.TaskState.TheVariants.{Unborn, Sending, Receiving}
use Rattle.rules.specs.Tasks.{is_in}
use Rattle.rules.specs.Sound.{moves_ok, unborn_ok, where_ok, place_ok}

-- `last_ok`
abbrev pub last_with : ℕ → Task → Bool
last_with kind x = (not (is_in Sending x) || eqb kind op_send) && (not (is_in Receiving x) || eqb kind op_receive)

-- `born_ok`
abbrev pub born_with : ℕ → ℕ → ℕ → Task → Bool
born_with n size kind x = moves_ok x.moves && (where_ok n x && (place_ok size x && last_with kind x))

-- `task_ok`
abbrev pub task_with : ℕ → ℕ → ℕ → ℕ → Task → Bool
task_with n m size kind x = ltb x.children (2 ^ m) && pick (is_in Unborn x) (unborn_ok x) (born_with n size kind x)
