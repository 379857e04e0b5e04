-- `chase_packed`.
use mathlib.Core.Path.{ap}
use native.Mathlib.Omega.{arith}
use Rattle.planner.specs.Chases.{chase_size}
use Rattle.planner.proofs.chases.chase_packed.Goals as goal

pub overflow_mul-result : goal.overflow_mul-result
overflow_mul-result c = omega (arith, ap chase_size c.in-Ok.is, c.requires)

pub returns-in-Ok : goal.returns-in-Ok
returns-in-Ok c = rw c.in-Ok.is (omega arith)
