use mathlib.Core.Path.{◌≡◌}
use mathlib.Core.Bool.{Bool}
use mathlib.Core.List.{List}
use Prim.Native.Nat.{ℕ, ◌+◌, ◌*◌}
use lib.Dec.{eqb}
use lib.ListN.{get_or}
use Rattle.base.specs.Range.{below}
use Rattle.board.specs.packing.Packed.{task_word}
use Rattle.board.specs.Lent.{task_on}
use Rattle.rig_read.proofs.check.tasks.tasks_tidy.Given as goal

-- task k + 1
abbrev pub tidy_at : List ℕ → ℕ → Bool
tidy_at x k = eqb (task_word (task_on x k)) (get_or x (128 + 2 * k) 0)

abbrev pub invariant-loop-k : goal.invariant-loop-k
invariant-loop-k l = l.all ≡ below l.k (tidy_at l.board)
