-- `one_runs`: a task whose run is accepted is one of the rig's.
use Prim.Native.Nat.{◌-◌}
use Rattle.dispatch.proofs.choose.rest.one_runs.Given as goal

abbrev pub invariant-loop-last : goal.invariant-loop-last
invariant-loop-last l = Unit {0}

abbrev pub decreases-loop-last : goal.decreases-loop-last
decreases-loop-last l = l.count - l.last
