-- `turn_on` decides the step, and runs it.
use mathlib.Core.Path.{refl}
use Rattle.rig_step.proofs.Boards.{ran_one, one_step}
use Rattle.rig_step.proofs.turn.turn_on.Goals as goal

pub run_steps-network-requires : goal.run_steps-network-requires
run_steps-network-requires c =
    let g = c.requires in
    record { rig = g.rig; whole = g.whole; indexed = g.indexed; few = one_step _ _ c.step_bytes-steps.ensures; blank = refl }

pub returns : goal.returns
returns c = ran_one c.args.s _ c.decided-report.ensures c.step_bytes-steps.ensures c.run_steps-network.ensures
