-- `code::read_code` fills the slots of the plan value. The invariant of the outer loop: the slots of the first k tasks are filled, and nothing stands
-- behind them; of the inner one: and the next's first i.
use Prim.Native.Nat.{◌+◌, ◌≤◌, ◌<◌, ◌*◌}
use mathlib.Core.Path.{◌≡◌}
use lib.ListN.{get_or}
use Rattle.plan_file.specs.Code.{code_place, programs_in, codes_to}
use Rattle.plan_file.proofs.code.read_code.Given as goal

abbrev pub invariant-loop-i : goal.invariant-loop-i
invariant-loop-i l =
    (get_or l.lengths l.k 0 ≤ 64)
    × (l.k < l.tasks)
    × (l.tasks ≤ 64)
    × (l.at ≤ 4 * (64 * l.k + l.i))
    × (l.at ≡ code_place l.lengths l.k l.i)
    × (l.codes ≡ codes_to (programs_in l.file l.tasks l.lengths) (64 * l.k + l.i))
    × (l.i-end ≡ get_or l.lengths l.k 0)

abbrev pub invariant-loop-k : goal.invariant-loop-k
invariant-loop-k l =
    (l.tasks ≤ 64)
    × (l.k-end ≡ l.tasks)
    × (l.at ≤ 4 * (64 * l.k))
    × (l.at ≡ code_place l.lengths l.k 0)
    × (l.codes ≡ codes_to (programs_in l.file l.tasks l.lengths) (64 * l.k))
