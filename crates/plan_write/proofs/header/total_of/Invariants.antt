-- `header::total_of` is the sum of the first n counts. The loop's invariant: the total is that of the first k.
use mathlib.Core.Path.{◌≡◌}
use Rattle.plan_write.specs.Header.{total_in}
use Rattle.plan_write.proofs.header.total_of.Given as goal

abbrev pub invariant-loop-k : goal.invariant-loop-k
invariant-loop-k l = l.total ≡ total_in l.lengths l.k
