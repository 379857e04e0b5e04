-- `word_of`: a word, read from its number.
use Rattle.board.specs.packing.Packed.{word_of}
use Rattle.board.proofs.packing.word_of.Goals as goal

pub returns : goal.returns
unfolding word_of
returns c = cc
