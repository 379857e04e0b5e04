use mathlib.Core.Path.{◌≡◌}
use lib.ListN.{get_or}
use Rattle.base.specs.Range.{below}
use Rattle.rules.specs.Numbers.{processor_id}
use Rattle.rules.specs.Cells.{offer}
use Rattle.rules.specs.Sound.{offer_ok}
use Rattle.rig_read.proofs.check.tables.offers_ok.Given as goal

abbrev pub invariant-loop-k : goal.invariant-loop-k
invariant-loop-k l =
    l.all ≡ below l.k (λ i. offer_ok l.n (offer (processor_id (get_or l.processors i 0)) (get_or l.numbers i 0)))
