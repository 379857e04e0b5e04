-- `tasks_ok` tests tasks 1 to T. The loop's invariant: the first k pass.
use mathlib.Core.Path.{◌≡◌}
use mathlib.Core.Bool.{true}
use Rattle.base.specs.Range.{below}
use Rattle.rig_check.proofs.system.EachTask.{record_ok}
use Rattle.rig_check.proofs.system.tasks_ok.Given as goal

abbrev pub invariant-loop-k : goal.invariant-loop-k
invariant-loop-k l = below l.k (record_ok l.n l.p l.ts) ≡ true
