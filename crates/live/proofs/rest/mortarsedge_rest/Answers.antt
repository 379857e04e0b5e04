-- `mortarsedge_rest`.
use mathlib.Core.Path.{sym, ◌∙◌}
use Rattle.live_rig.proofs.Refused.{held_long, short_held}
use Rattle.live_rig.proofs.Shown.{rest_nine}
use Rattle.live.proofs.Resting.{rest_held}
use Rattle.live.proofs.rest.mortarsedge_rest.Goals as goal

pub returns-then-rig-lt34120 : goal.returns-then-rig-lt34120
returns-then-rig-lt34120 c =
    let b = c.args.rig.now in
    rest_nine _ (short_held b c.if-rig-lt34120.true) ∙ rest_held b

pub slice_bounds-rest_of-end : goal.slice_bounds-rest_of-end
slice_bounds-rest_of-end c = sym (held_long c.args.rig.now c.if-rig-lt34120.false)

pub rest_of-requires : goal.rest_of-requires
rest_of-requires c = held_long c.args.rig.now c.if-rig-lt34120.false

pub returns : goal.returns
returns c = c.rest_of.ensures ∙ rest_held c.args.rig.now
