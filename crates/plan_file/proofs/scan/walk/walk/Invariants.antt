-- `walk::walk` is the pass over the instructions of a file. The invariant of the outer loop: it has passed the first k tasks; of the inner one: and the
-- next's first i instructions.
use Prim.Native.Nat.{◌+◌, ◌≤◌, ◌<◌, ◌*◌, ◌-◌}
use mathlib.Core.Path.{◌≡◌}
use lib.ListN.{get_or}
use Rattle.plan_value.specs.Pass.{seen, entries_to, Passed}
use Rattle.plan_file.specs.Code.{code_place, programs_in}
use Rattle.plan_file.proofs.scan.walk.walk.Given as goal

abbrev pub invariant-loop-i : goal.invariant-loop-i
invariant-loop-i l =
    (l.i ≤ l.count)
    × (l.count ≤ 64)
    × (l.k < l.n)
    × (l.n ≤ 64)
    × (l.n ≡ l.tasks)
    × (l.count ≡ get_or l.lengths l.k 0)
    × (l.at ≤ 4 * (64 * l.k + l.i))
    × (l.at ≡ code_place l.lengths l.k l.i)
    × Passed l.edition l.tasks (entries_to (programs_in l.file l.tasks l.lengths) l.k l.i) (seen l.p l.parents l.senders l.receivers)

abbrev pub decreases-loop-i : goal.decreases-loop-i
decreases-loop-i l = l.count - l.i

abbrev pub invariant-loop-k : goal.invariant-loop-k
invariant-loop-k l =
    (l.k ≤ l.n)
    × (l.n ≤ 64)
    × (l.n ≡ l.tasks)
    × (l.at ≤ 4 * (64 * l.k))
    × (l.at ≡ code_place l.lengths l.k 0)
    × Passed l.edition l.tasks (entries_to (programs_in l.file l.tasks l.lengths) l.k 0) (seen l.p l.parents l.senders l.receivers)

abbrev pub decreases-loop-k : goal.decreases-loop-k
decreases-loop-k l = l.n - l.k
