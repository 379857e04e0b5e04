-- `header::write_entries` puts the entries of n tasks. The loop's invariant: those of the first k tasks are put, and the next offset is due.
use mathlib.Core.Path.{◌≡◌}
use lib.ListN.{length, get_or}
use Rattle.base.specs.Range.{joined}
use Rattle.plan.specs.Layout.{offset_due}
use Rattle.plan_write.specs.output.Output.{overlay}
use Rattle.plan_write.specs.Header.{entry_bytes}
use Rattle.plan_write.proofs.header.write_entries.Given as goal

abbrev pub invariant-loop-k : goal.invariant-loop-k
invariant-loop-k l =
    (length l.out ≡ length l.initial.out)
    × (l.end ≡ offset_due l.n (λ j. get_or l.lengths j 0) l.k)
    × (l.out ≡ overlay l.initial.out 4 (joined l.k (entry_bytes l.lengths l.n)))
