use mathlib.Core.Path.{refl, ◌∙◌}
use Prim.Native.Nat.{◌-◌}
use native.Mathlib.Omega.{arith}
use lib.ListN.{length-map}
use Rattle.board.specs.Lent.{channels_on}
use Rattle.rig_step.proofs.Agreeing.{Long, channels_none, channels_more, channels_all, channels_long, written_after_lem}
use Rattle.rig_step.proofs.pack.put_channels.Goals as goal

pub loop-k-init : goal.loop-k-init
loop-k-init c = (c.requires, refl, λ h. channels_none (channels_long c.args.board.now) h)

pub loop-k-preserved : goal.loop-k-preserved
loop-k-preserved c =
    let e = c.put_channel.ensures in
    (e.0, e.2 ∙ c.loop-k.invariant.1, λ h. rw (e.1, written_after_lem (channels_on c.loop-k.board) c.loop-k.k _) (channels_more (c.loop-k.invariant.2 h) (omega arith) _ (c.channel_of-y.ensures)))

pub returns : goal.returns
returns c =
    let i = c.loop-k.invariant in
    let f = c.well_formed.1.0.1.1 in
    let long : Long c.args.channels =
    record {
      granted = f.0.1.0.1;
      awaiting = f.1.0.1.0.1;
      carriedprocessors = f.1.1.0.1.0.1;
      carriednumbers = f.1.1.1.0.1.0.1;
      travellingprocessors = f.1.1.1.1.0.1.0.1;
      travellingmoves = f.1.1.1.1.1.0.1.0.1;
    } in
    (i.0, channels_all (i.2 long) (omega arith), i.1)
