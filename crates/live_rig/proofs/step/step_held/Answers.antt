-- `step_held`: fewer bytes are refused; the others are those of a rig, and what is behind them.
use mathlib.Core.Path.{refl, sym}
use Rattle.image.specs.Live.{held}
use Rattle.live_rig.proofs.Refused.{held_long, short_held}
use Rattle.live_rig.proofs.Stepped.{bad_bytes, short_stepped, held_stepped}
use Rattle.live_rig.proofs.step.step_held.Goals as goal

pub returns-then-rig-lt34120 : goal.returns-then-rig-lt34120
returns-then-rig-lt34120 c =
    let b = c.args.rig.now in
    rw c.bad_system.ensures (short_stepped b c.args.s _ (bad_bytes (held b) c.args.s (short_held b c.if-rig-lt34120.true)) refl)

pub slice_bounds-step_image-end-2 : goal.slice_bounds-step_image-end-2
slice_bounds-step_image-end-2 c = sym (held_long c.args.rig.now c.if-rig-lt34120.false)

pub step_image-requires : goal.step_image-requires
step_image-requires c = held_long c.args.rig.now c.if-rig-lt34120.false

pub returns : goal.returns
returns c = held_stepped c.args.rig.now _ _ c.step_image.ensures
