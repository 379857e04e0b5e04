-- The rig put together from what a step leaves of its parts is the rig that the step gives.
use mathlib.Core.Path.{◌≡◌, refl}
use mathlib.Core.Bool.{true}
use Rattle.rules.specs.declared.step.Step.{Step}
use Rattle.rules.specs.declared.step.Stepped.{Stepped}
use Rattle.rules.specs.declared.system.System.{System}
use Rattle.rules.specs.Sound.{system_ok}
use Rattle.rules.specs.Steps.{step}
use Rattle.rules.specs.Systems.{with_tasks, with_store, with_parents, with_network}
use Rattle.rules_laws.specs.Shapes.{Shaped}
use Rattle.rules_laws.proofs.Steps.{ruled_step_lem}
use Rattle.rules_laws.proofs.Shapes.{step_plan, step_processors, step_chosen}
use Rattle.rig_parts.specs.Facts.{facts_of, kept_in}
use Rattle.rig_parts.specs.declared.turn.Turn.{Turn}
use Rattle.rig_parts.specs.Turns.{turn_of, parts_of}
use Rattle.rig_parts.proofs.Turning.{turn_is}

-- the parts that a step leaves, with the desks, the plan and the last choices of the rig
abbrev pub put_together : System → Turn → Stepped
put_together r t = record { report = t.report; system = with_network (with_parents (with_store (with_tasks r t.tasks) t.kept.store) t.kept.parents) t.network }

parts_together : (r : System) (o : Stepped) → o.system.processors ≡ r.processors → o.system.plan ≡ r.plan → o.system.chosen ≡ r.chosen → put_together r (parts_of o) ≡ o
parts_together r o n p c = rw (← n, ← p, ← c) refl

pub step_together : (r : System) → Shaped r → system_ok r ≡ true → (x : Step)
    → put_together r (turn_of (facts_of r.plan) r.processors r.tasks r.network (kept_in r) x) ≡ step r x
step_together r z o x =
    rw (turn_is r z o x, ruled_step_lem r x o) (parts_together r (step r x) (step_processors r x) (step_plan r x) (step_chosen r x))
