-- `header::read_entries` is the entries of n tasks. The loop's invariant: the first k are in order, and their counts are stored.
use Prim.Native.Nat.{◌≤◌, ◌+◌, ◌*◌}
use mathlib.Core.Path.{◌≡◌}
use mathlib.Core.Bool.{true}
use Rattle.base.specs.Range.{below}
use Rattle.plan.specs.Layout.{offset_due}
use Rattle.plan.specs.Files.{file_count}
use Rattle.plan_file.specs.Header.{counts_to, entry_fits}
use Rattle.plan_file.proofs.header.read_entries.Given as goal

abbrev pub invariant-loop-k : goal.invariant-loop-k
invariant-loop-k l =
    (l.end ≤ 260 + 256 * l.k)
    × (l.end ≡ offset_due l.n (file_count l.file) l.k)
    × (below l.k (entry_fits l.file l.n) ≡ true)
    × (l.lengths ≡ counts_to l.file l.k)
