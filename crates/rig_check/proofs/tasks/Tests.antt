-- The test of a task looks at just these two of its program.
use mathlib.Core.Path.{◌≡◌, refl}
use Prim.Native.Nat.{ℕ}
use lib.ListN.{length}
use Rattle.plan.specs.Programs.{Program}
use Rattle.rules.specs.declared.task.Task.{Task}
use Rattle.rules.specs.Places.{last_in}
use Rattle.rules.specs.Sound.{born_ok, task_ok}
use Rattle.rig_check.specs.tasks.Tests.{task_with}

pub task_with_lem : (n m : ℕ) (g : Program) (x : Task) → task_ok n m g x ≡ task_with n m (length g) (last_in g x).opcode x
unfolding task_ok born_ok
task_with_lem n m g x = refl
