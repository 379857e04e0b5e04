-- `channel_entry`: the own entry of a channel, at k.
use Rattle.board.proofs.Stores.{channel_read}
use Rattle.board.proofs.channel_entry.Goals as goal

pub returns : goal.returns
returns c =
    let s = c.before.before in
    rw c.channel_of.ensures (channel_read s.args.board.now s.args.k s.requires)
