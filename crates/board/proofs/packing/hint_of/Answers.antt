-- `hint_of`: a pointer, read from the lowest 24 bits.
use Rattle.board.proofs.packing.hint_of.Goals as goal

pub returns : goal.returns
returns c = cc
