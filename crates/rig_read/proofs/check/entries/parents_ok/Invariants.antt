use mathlib.Core.Path.{◌≡◌}
use mathlib.Core.Bool.{true}
use Rattle.base.specs.Range.{below}
use Rattle.rig_read.specs.Passing.{block_passes}
use Rattle.rig_read.proofs.check.entries.parents_ok.Given as goal

abbrev pub invariant-loop-b : goal.invariant-loop-b
invariant-loop-b l = below l.b (block_passes l.n l.m l.board) ≡ true
