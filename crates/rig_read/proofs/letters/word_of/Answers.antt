use Rattle.board.specs.packing.Packed.{word_of}
use Rattle.rig_read.proofs.letters.word_of.Goals as goal

pub returns : goal.returns
unfolding word_of
returns c = cc
