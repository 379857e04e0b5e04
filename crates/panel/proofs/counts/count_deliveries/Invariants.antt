-- `count_deliveries`: after k of them, the deliveries at 1 .. k are counted.
use Prim.Native.Nat.{◌+◌}
use Rattle.rules.specs.declared.system.System.{System}
use Rattle.panel_laws.specs.Tallies.{deliveries}
use Rattle.panel.specs.Counted.{Few, CountsMore, DeliversAs}
use Rattle.panel.specs.Tally.{counts_of}
use Rattle.panel.proofs.counts.count_deliveries.Given as goal

abbrev pub invariant-loop-k : goal.invariant-loop-k
invariant-loop-k l =
    (Few (64 + l.k) (counts_of l.q)) × ((r : System) → DeliversAs l.used r → CountsMore r (deliveries l.k) (counts_of l.initial.q) (counts_of l.q))
