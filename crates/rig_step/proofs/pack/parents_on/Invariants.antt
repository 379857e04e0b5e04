-- `parents_on`: what desks keep for parents on a board.
use Rattle.board.specs.Lent.{parents_on}
use Rattle.rig_step.proofs.Agreeing.{AgreeFor}
use Rattle.rig_step.proofs.pack.parents_on.Given as goal

abbrev pub invariant-loop-k : goal.invariant-loop-k
invariant-loop-k l =
    AgreeFor l.k (record { hintprocessors = l.hintprocessors; hintmoves = l.hintmoves; held = l.held }) (parents_on l.board)
