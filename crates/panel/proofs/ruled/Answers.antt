-- `ruled` puts the rig on a board and counts there.
use mathlib.Core.Path.{refl}
use Rattle.rules_sound.proofs.Sound.{sound}
use Rattle.panel.proofs.Packed.{ends_few, rig_packed, rig_lent}
use Rattle.panel.proofs.ruled.Goals as goal

pub derive-e-requires : goal.derive-e-requires
derive-e-requires c = (sound c.args.r c.requires.1 c.requires.0).frame.plan

pub build-requires : goal.build-requires
build-requires c = (refl, ends_few c.args.r c.requires.1 c.requires.0 c.derive-e.result c.derive-e.ensures)

pub counts_on-requires : goal.counts_on-requires
counts_on-requires c =
    let e = c.put_rig.ensures in
    rig_packed c.args.r c.requires.1 c.requires.0 c.derive-e.result c.derive-e.ensures _ _ c.build.ensures e.1 e.2 e.3 e.0

pub returns : goal.returns
returns c =
    let e = c.put_rig.ensures in
    c.counts_on.ensures c.args.r (rig_lent c.args.r c.requires.1 c.requires.0 c.derive-e.result c.derive-e.ensures _ _ c.build.ensures e.1 e.2 e.3)
