-- `step` takes the rig apart, and puts together what the step leaves.
use mathlib.Core.Path.{sym, ◌∙◌}
use Rattle.rules_sound.proofs.Sound.{sound}
use Rattle.rig_step.proofs.Parts.{bad_system, taken_apart, put_back}
use Rattle.rig_step.proofs.step.Goals as goal

pub returns-then-not-passes : goal.returns-then-not-passes
returns-then-not-passes c = c.refused.ensures ∙ bad_system c.args.r c.args.s (sym c.passes.ensures.0 ∙ c.if-not-passes.true)

pub derive-e-requires : goal.derive-e-requires
derive-e-requires c = (sound c.args.r c.passes.ensures.1 (sym c.passes.ensures.0 ∙ c.if-not-passes.false)).frame.plan

pub turn-t-requires : goal.turn-t-requires
turn-t-requires c =
    taken_apart c.args.r c.passes.ensures.1 (sym c.passes.ensures.0 ∙ c.if-not-passes.false) c.derive-e.result c.derive-e.ensures

pub returns : goal.returns
returns c =
    put_back c.args.r c.passes.ensures.1 (sym c.passes.ensures.0 ∙ c.if-not-passes.false) c.derive-e.result c.derive-e.ensures c.args.s c.turn-t.result c.turn-t.ensures
