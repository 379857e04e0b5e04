-- `call_held`: fewer bytes are refused; the others are those of a rig, and what is behind them.
use mathlib.Core.Path.{refl, sym}
use Rattle.image.specs.Live.{held}
use Rattle.live_rig.proofs.Refused.{held_long, short_held}
use Rattle.live_rig.proofs.Called.{bad_call, short_called, held_called}
use Rattle.live_rig.proofs.desk_call.call_held.Goals as goal

pub returns-then-rig-lt34120 : goal.returns-then-rig-lt34120
returns-then-rig-lt34120 c =
    let b = c.args.rig.now in
    rw c.no_call.ensures (short_called b c.args.d _ (bad_call (held b) c.args.d (short_held b c.if-rig-lt34120.true)) refl)

pub slice_bounds-call_image-end-2 : goal.slice_bounds-call_image-end-2
slice_bounds-call_image-end-2 c = sym (held_long c.args.rig.now c.if-rig-lt34120.false)

pub call_image-requires : goal.call_image-requires
call_image-requires c = held_long c.args.rig.now c.if-rig-lt34120.false

pub returns : goal.returns
returns c = held_called c.args.rig.now _ _ c.call_image.ensures
