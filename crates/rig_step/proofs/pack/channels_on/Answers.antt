use mathlib.Core.Path.{refl, ◌∙◌}
use Prim.Native.Nat.{◌-◌}
use native.Mathlib.Omega.{arith}
use Rattle.board.specs.Lent.{channels_on}
use Rattle.rig_step.proofs.Agreeing.{channels_none, channels_more, channels_all, channels_long, channel_after}
use Rattle.rig_step.proofs.pack.channels_on.Goals as goal

pub loop-k-init : goal.loop-k-init
loop-k-init c =
    (channels_none (record { granted = refl; awaiting = refl; carriedprocessors = refl; carriednumbers = refl; travellingprocessors = refl; travellingmoves = refl }) (channels_long c.args.board.now))

pub loop-k-preserved : goal.loop-k-preserved
loop-k-preserved c =
    let ks = channels_on c.args.board.now in
    ((channels_more c.loop-k.invariant (omega arith) c.channel_at-y.result (c.channel_at-y.ensures ∙ channel_after ks c.loop-k.k)))

pub returns : goal.returns
returns c = channels_all c.loop-k.invariant (omega arith)
