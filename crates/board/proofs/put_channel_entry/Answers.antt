-- `put_channel_entry`: the own entry of a channel, at k, becomes y.
use native.Mathlib.Omega.{arith}
use Rattle.board.proofs.Stores.{NarrowChannel, channel_put}
use Rattle.board.proofs.put_channel_entry.Goals as goal

pub returns : goal.returns
returns c =
    let s = c.before in
    let g = s.well_formed.1.1 in
    let small : NarrowChannel s.args.y = (omega (arith, g), omega (arith, g), omega (arith, g), omega (arith, g), omega (arith, g)) in
    channel_put s.args.board.now s.args.k s.args.y s.requires.0 s.requires.1 c.channel_word.ensures small
