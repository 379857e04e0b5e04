-- A rig taken apart beside what is derived of its plan, and put together after a step.
use mathlib.Core.Path.{◌≡◌, refl}
use mathlib.Core.Bool.{true, false}
use Rattle.std.specs.Prelude.{Err}
use Rattle.rules.specs.declared.step.Step.{Step}
use Rattle.rules.specs.declared.step.StepRefusal.TheVariants.{BadSystem}
use Rattle.rules.specs.declared.system.System.{System}
use Rattle.rules.specs.Sound.{system_ok}
use Rattle.rules.specs.Steps.{step_answer, refused, answered, step}
use Rattle.rules_laws.specs.Shapes.{Shaped}
use Rattle.plan_index.specs.declared.ends.Ends.{Ends}
use Rattle.plan_index.specs.ends.Derived.{ends_of}
use Rattle.rig_parts.specs.Facts.{Facts, facts, kept_in}
use Rattle.rig_parts.specs.declared.turn.Turn.{Turn}
use Rattle.rig_parts.specs.Turns.{turn_of, Rig}
use Rattle.rig_parts.proofs.Whole.{put_together, step_together}
use Rattle.rig_parts.proofs.Rigs.{own_parts}

-- a rig that 9 refuses
pub bad_system : (r : System) (x : Step) → system_ok r ≡ false → refused r (Err BadSystem) ≡ step r x
unfolding step step_answer answered
bad_system r x h = rw h refl

-- what a step reads of the rig's plan and of its ends
abbrev pub facts_by : System → Ends → Facts
facts_by r e = facts r.plan.tasks r.plan.codes e.numbers e.senders e.receivers e.parents

module _ (r : System) (z : Shaped r) (o : system_ok r ≡ true) (e : Ends) (d : e ≡ ends_of r.plan) where
  pub taken_apart : Rig (facts_by r e) r.processors r.tasks r.network (kept_in r)
  taken_apart = rw d (own_parts r z o)

  pub put_back : (x : Step) (t : Turn) → t ≡ turn_of (facts_by r e) r.processors r.tasks r.network (kept_in r) x → put_together r t ≡ step r x
  put_back x t h = rw (h, d) (step_together r z o x)
