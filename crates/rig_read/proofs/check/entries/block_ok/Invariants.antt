-- `block_ok` takes the parents one by one, where not all their numbers are 0.
use mathlib.Core.Path.{◌≡◌}
use mathlib.Core.Bool.{true}
use Rattle.base.specs.Range.{below}
use Rattle.rig_read.proofs.Blocks.{in_block}
use Rattle.rig_read.proofs.check.entries.block_ok.Given as goal

abbrev pub invariant-loop-i : goal.invariant-loop-i
invariant-loop-i l = below l.i (in_block l.n l.m l.board l.b) ≡ true
