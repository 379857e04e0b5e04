use mathlib.Core.Path.{◌≡◌}
use mathlib.Core.Bool.{Bool, true}
use mathlib.Core.List.{List}
use Prim.Native.Nat.{ℕ, suc}
use lib.Dec.{eqb}
use lib.ListN.{get_or}
use Rattle.base.specs.Range.{below}
use Rattle.board.specs.Lent.{tasks_on}
use Rattle.rig_read.specs.Passing.{ready_at}
use Rattle.rig_read.proofs.check.ready.ready_ok.Given as goal

-- the set of the desk after k others is that of the tasks
abbrev pub set_ok : ℕ → List ℕ → ℕ → Bool
set_ok m board k = eqb (get_or (tasks_on board).ready k 0) (ready_at m board (suc k))

abbrev pub invariant-loop-d : goal.invariant-loop-d
invariant-loop-d l = below l.d (set_ok l.m l.board) ≡ true
