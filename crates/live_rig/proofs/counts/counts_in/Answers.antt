-- `counts_in`: 9 of fewer bytes than a rig has.
use mathlib.Core.Path.{sym}
use Rattle.live_rig.proofs.Refused.{held_long, short_held}
use Rattle.live_rig.proofs.Panels.{counts_nine}
use Rattle.live_rig.proofs.counts.counts_in.Goals as goal

pub returns-then-rig-lt34120 : goal.returns-then-rig-lt34120
returns-then-rig-lt34120 c = counts_nine (short_held c.args.rig.now c.if-rig-lt34120.true) c.refused.ensures

pub slice_bounds-counts_of-end : goal.slice_bounds-counts_of-end
slice_bounds-counts_of-end c = sym (held_long c.args.rig.now c.if-rig-lt34120.false)

pub counts_of-requires : goal.counts_of-requires
counts_of-requires c = held_long c.args.rig.now c.if-rig-lt34120.false
