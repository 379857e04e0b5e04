-- `search`: none of the tasks from low + 1 to k can run.
use mathlib.Core.Path.{◌≡◌}
use mathlib.Core.Bool.{false}
use Prim.Native.Nat.{ℕ, ◌≤◌, ◌<◌}
use Rattle.board.specs.Lent.{tasks_on}
use Rattle.finish.specs.Searches.{can_run}
use Rattle.finish.proofs.search.search.Given as goal

abbrev pub invariant-loop-k : goal.invariant-loop-k
invariant-loop-k l =
    ((t : ℕ) → l.low < t → t ≤ l.k → can_run l.codes l.count (tasks_on l.board) t ≡ false)
