-- `channels_on`: the channels of a board.
use Rattle.board.specs.Lent.{channels_on}
use Rattle.rig_step.proofs.Agreeing.{AgreeOn}
use Rattle.rig_step.proofs.pack.channels_on.Given as goal

abbrev pub invariant-loop-k : goal.invariant-loop-k
invariant-loop-k l =
    AgreeOn l.k (record { granted = l.granted; awaiting = l.awaiting; carriedprocessors = l.carriedprocessors; carriednumbers = l.carriednumbers; travellingprocessors = l.travellingprocessors; travellingmoves = l.travellingmoves }) (channels_on l.board)
