-- `finishes`: no task of 1 to k is stuck.
use mathlib.Core.Path.{◌≡◌}
use mathlib.Core.Bool.{Bool, true, not}
use Prim.Native.Nat.{ℕ, suc}
use Rattle.base.specs.Range.{below}
use Rattle.rules.specs.Numbers.{task_id}
use Rattle.rules.specs.Systems.{task_in}
use Rattle.rules.specs.Finish.{is_stuck}
use Rattle.board.specs.Lent.{tasks_on}
use mathlib.Core.List.{List}
use Rattle.finish.proofs.stuck.finishes.Given as goal

abbrev pub clear : List ℕ → ℕ → Bool
clear board k = not (is_stuck (task_in (tasks_on board) (task_id (suc k))))

abbrev pub invariant-loop-k : goal.invariant-loop-k
invariant-loop-k l = below l.k (clear l.board) ≡ true
