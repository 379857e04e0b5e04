-- `find`: 9 of fewer bytes than a rig has.
use mathlib.Core.Path.{sym}
use Rattle.live_rig.proofs.Refused.{held_long, short_held}
use Rattle.live_rig.proofs.Shown.{found_nine}
use Rattle.live_rig.proofs.found.find.Goals as goal

pub returns-then-rig-lt34120 : goal.returns-then-rig-lt34120
returns-then-rig-lt34120 c = found_nine _ _ (short_held c.args.rig.now c.if-rig-lt34120.true) c.refused.ensures

pub slice_bounds-task_of-end : goal.slice_bounds-task_of-end
slice_bounds-task_of-end c = sym (held_long c.args.rig.now c.if-rig-lt34120.false)

pub task_of-requires : goal.task_of-requires
task_of-requires c = held_long c.args.rig.now c.if-rig-lt34120.false
