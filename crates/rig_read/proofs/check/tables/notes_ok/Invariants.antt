use mathlib.Core.Path.{◌≡◌}
use lib.Dec.{leb}
use lib.ListN.{get_or}
use Rattle.base.specs.Range.{below}
use Rattle.rig_read.proofs.check.tables.notes_ok.Given as goal

abbrev pub invariant-loop-k : goal.invariant-loop-k
invariant-loop-k l = l.all ≡ below l.k (λ i. leb (get_or l.notes i 0) l.n)
