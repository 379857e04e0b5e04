-- `put_counts`: after k turns the first k numbers are the counts.
use mathlib.Core.Path.{◌≡◌}
use mathlib.Core.List.{◌++◌}
use lib.ListN.{length, take, drop}
use Rattle.panel.proofs.output.put_counts.Given as goal

abbrev pub invariant-loop-k : goal.invariant-loop-k
invariant-loop-k l =
    length l.counts ≡ 27 → l.out ≡ take l.k l.counts ++ drop l.k l.initial.out
