-- `travelling_entry`: the travelling pointer of the channel whose own entry is at k.
use mathlib.Core.Path.{ap}
use Rattle.rules.specs.declared.channel.Channel.{Channel}
use Rattle.board.proofs.Stores.{channel_read}
use Rattle.board.specs.packing.Packed.{channel_of}
use Rattle.board.proofs.travelling_entry.Goals as goal

pub returns : goal.returns
unfolding channel_of
returns c =
    let s = c.before.before in
    rw c.hint_of.ensures (ap (λ (y : Channel). y.travelling) (channel_read s.args.board.now s.args.k s.requires))
