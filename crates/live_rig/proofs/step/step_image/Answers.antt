-- `step_image`: a plan that is refused is answered 9; else what is derived of it goes beside the bytes.
use mathlib.Core.Path.{refl}
use Rattle.live_rig.proofs.Opened.{refused_plan, users_of}
use Rattle.live_rig.proofs.Turns.{planned}
use Rattle.live_rig.proofs.Stepped.{bad_bytes}
use Rattle.live_rig.proofs.step.step_image.Goals as goal

pub plan_in-read-requires : goal.plan_in-read-requires
plan_in-read-requires c = (c.requires, (refl, refl, refl, refl))

pub build-requires : goal.build-requires
build-requires c = (refl, users_of c.plan_in-read.ensures c.in-Ok.is)

pub step_parts-requires : goal.step_parts-requires
step_parts-requires c =
    planned c.plan_in-read.ensures c.in-Ok.is c.requires c.build.ensures

pub returns-in-Err : goal.returns-in-Err
returns-in-Err c =
    rw c.bad_system.ensures (bad_bytes c.args.rig.now c.args.s (refused_plan c.plan_in-read.ensures c.in-Err.is))
