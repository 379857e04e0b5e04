use mathlib.Core.Path.{◌≡◌}
use lib.ListN.{get_or}
use Rattle.base.specs.Range.{below}
use Rattle.rules.specs.Numbers.{processor_id}
use Rattle.rules.specs.Cells.{hint}
use Rattle.rules.specs.Sound.{hint_ok}
use Rattle.rig_read.proofs.check.tables.hints_ok.Given as goal

abbrev pub invariant-loop-k : goal.invariant-loop-k
invariant-loop-k l =
    l.all ≡ below l.k (λ i. hint_ok l.n (hint (processor_id (get_or l.processors i 0)) (get_or l.moves i 0)))
