-- `sets_on`: the sets of ready tasks of a board.
use Rattle.board.specs.Lent.{ready_on}
use Rattle.rig_step.proofs.Agreeing.{Agree}
use Rattle.rig_step.proofs.pack.sets_on.Given as goal

abbrev pub invariant-loop-k : goal.invariant-loop-k
invariant-loop-k l = Agree 0 6 l.k l.ready (ready_on l.board)
