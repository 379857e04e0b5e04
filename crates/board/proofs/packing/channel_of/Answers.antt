-- `channel_of`: a channel's own entry, read from its number.
use Rattle.board.specs.packing.Packed.{channel_of}
use Rattle.board.proofs.packing.channel_of.Goals as goal

pub returns : goal.returns
unfolding channel_of
returns c = cc
