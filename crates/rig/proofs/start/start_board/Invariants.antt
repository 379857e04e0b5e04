-- `start_board`. The loop's invariant: the first k tasks are unborn, and the rest of the board is empty.
use Prim.Native.Nat.{◌≤◌, ◌-◌}
use Rattle.rig.proofs.start.Boards.{Unborn}
use Rattle.rig.proofs.start.start_board.Given as goal

abbrev pub invariant-loop-k : goal.invariant-loop-k
invariant-loop-k l = Unborn l.k l.board
