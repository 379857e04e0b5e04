use mathlib.Core.Path.{◌≡◌}
use mathlib.Core.Bool.{true}
use lib.ListN.{get_or}
use Rattle.base.specs.Range.{below}
use Rattle.rig_read.specs.Passing.{channel_passes}
use Rattle.rig_read.proofs.check.entries.channels_ok.Given as goal

abbrev pub invariant-loop-k : goal.invariant-loop-k
invariant-loop-k l = below l.k (λ i. channel_passes l.n (get_or l.board i 0)) ≡ true
