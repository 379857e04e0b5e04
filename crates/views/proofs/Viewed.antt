-- A task that a view may show.
use mathlib.Core.Path.{◌≡◌}
use mathlib.Core.Bool.{true}
use Prim.Native.Nat.{◌≤◌}
use native.Mathlib.Omega.{arith}
use lib.Dec.{leb}
use borrow.Author.Tests.{leb-true}
use Rattle.base.proofs.Tests.{and_left, and_right}
use Rattle.plan.specs.declared.TaskId.{TaskId}
use Rattle.rules.specs.declared.system.System.{System}
use Rattle.rules.specs.Numbers.{task_number_ok}
use Rattle.rules.specs.Sound.{system_ok}
use Rattle.rules.specs.Systems.{meaning}
use Rattle.rules_laws.proofs.Sound.{system_passed}
use Rattle.rig_check.proofs.system.EachTask.{few_tasks, sizes_passed}

-- a task of a rig that 9 does not refuse is one of 64
pub one_of_64 : (r : System) (t : TaskId) → system_ok r ≡ true → task_number_ok r.plan.tasks t ≡ true → (1 ≤ t.0) × (t.0 ≤ 64)
one_of_64 r t h k =
    let low = leb-true 1 t.0 (and_left (leb 1 t.0) _ k) in
    let high = leb-true t.0 r.plan.tasks (and_right (leb 1 t.0) _ k) in
    let few = few_tasks r (sizes_passed (meaning r) (system_passed r h).plan) in
    (low, omega (arith, high, few))
