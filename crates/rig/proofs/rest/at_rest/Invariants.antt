-- Rest: an empty mail, and no task that can run. The loop's invariant: a run of each of the first k tasks is refused.
use mathlib.Core.Path.{◌≡◌}
use mathlib.Core.Bool.{true}
use Prim.Native.Nat.{◌≤◌, ◌-◌}
use Rattle.base.specs.Range.{below}
use Rattle.board.specs.Lent.{tasks_on}
use Rattle.rig.proofs.rest.Quiet.{stuck_after}
use Rattle.rig.proofs.rest.at_rest.Given as goal

abbrev pub invariant-loop-k : goal.invariant-loop-k
invariant-loop-k l = below l.k (stuck_after l.count l.codes (tasks_on l.board)) ≡ true
