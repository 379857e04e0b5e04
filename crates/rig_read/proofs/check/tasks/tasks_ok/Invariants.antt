use mathlib.Core.Path.{◌≡◌}
use mathlib.Core.Bool.{true}
use Rattle.base.specs.Range.{below}
use Rattle.rig_read.specs.Passing.{task_passes}
use Rattle.rig_read.proofs.check.tasks.tasks_ok.Given as goal

abbrev pub invariant-loop-k : goal.invariant-loop-k
invariant-loop-k l = below l.k (task_passes l.lengths l.codes l.n l.m l.board) ≡ true
