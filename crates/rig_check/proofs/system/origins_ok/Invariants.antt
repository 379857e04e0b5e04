-- `origins_ok` tests the own pointers of tasks 1 to T. The loop's invariant: the first k pass.
use mathlib.Core.Path.{◌≡◌}
use mathlib.Core.Bool.{true}
use Rattle.base.specs.Range.{below}
use Rattle.rig_check.proofs.system.EachTask.{pointer_ok}
use Rattle.rig_check.proofs.system.origins_ok.Given as goal

abbrev pub invariant-loop-k : goal.invariant-loop-k
invariant-loop-k l = below l.k (pointer_ok l.n l.ts) ≡ true
