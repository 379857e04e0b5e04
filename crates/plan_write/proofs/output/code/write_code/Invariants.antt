-- `code::write_code` puts the instructions of all tasks. The invariant of the outer loop: those of the first k tasks are put, and the output is as long
-- as it was; of the inner one: and the next's first i.
use mathlib.Core.Path.{◌≡◌}
use Prim.Native.Nat.{◌+◌, ◌*◌, ◌<◌, min}
use lib.ListN.{length, get_or}
use Rattle.plan_write.specs.output.Output.{slots_bytes, Put}
use Rattle.plan_write.proofs.output.code.write_code.Given as goal

abbrev pub invariant-loop-i : goal.invariant-loop-i
invariant-loop-i l =
    (l.k < l.tasks)
    × (l.i-end ≡ min (get_or l.lengths l.k 0) 64)
    × (length l.out ≡ length l.fn.out)
    × Put l.fn.out l.start (slots_bytes l.lengths l.codes (64 * l.k + l.i)) l.at l.out

abbrev pub invariant-loop-k : goal.invariant-loop-k
invariant-loop-k l =
    (l.k-end ≡ l.tasks) × (length l.out ≡ length l.fn.out) × Put l.fn.out l.start (slots_bytes l.lengths l.codes (64 * l.k)) l.at l.out
