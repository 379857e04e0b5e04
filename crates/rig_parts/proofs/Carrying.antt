-- A change carried out on the parts of a rig leaves the parts of the rig that the change leaves; a verdict, those that the answer does.
use mathlib.Core.Path.{◌≡◌, refl, sym, ◌∙◌, ap}
use mathlib.Core.Bool.{true}
use Rattle.std.specs.Prelude.{Ok, Err}
use Rattle.rules.specs.declared.step.Step.{Step}
use Rattle.rules.specs.Answers.{StepAnswer}
use Rattle.rules.specs.declared.system.System.{System}
use Rattle.rules.specs.Answers.{is_accepted}
use Rattle.rules.specs.Effects.{Effect, completed}
use Rattle.rules.specs.Steps.{performed, accepted, answered}
use Rattle.plan_index.specs.ends.Derived.{ends_of}
use Rattle.rig_parts.specs.Facts.{kept_in}
use Rattle.rig_parts.specs.declared.change.Change.{Change}
use Rattle.rig_parts.specs.Answers.{Verdict}
use Rattle.rig_parts.specs.Answers.{verdict_of}
use Rattle.rig_parts.specs.Effects.{effect_of}
use Rattle.rig_parts.specs.declared.turn.Turn.{Turn}
use Rattle.rig_parts.proofs.Answers.{not_accepted}
use Rattle.rig_parts.specs.Turns.{carried_out, settled, parts_of}

module _ (r : System) where
  -- on the parts of the rig r
  abbrev pub carried_in : Change → Turn
  carried_in k = carried_out (ends_of r.plan).senders (ends_of r.plan).receivers r.processors k r.tasks r.network (kept_in r)

  abbrev pub settled_in : Verdict → Turn
  settled_in v = settled (ends_of r.plan).senders (ends_of r.plan).receivers r.processors v r.tasks r.network (kept_in r)

  pub carried_is_lem : (k : Change) → carried_in k ≡ parts_of (accepted (effect_of r k))
  unfolding carried_out effect_of completed
  carried_is_lem k = refl

  -- a step that is answered a, and where it is accepted makes the change k
  pub settled_is : (x : Step) (k : Change) (a : StepAnswer) → (is_accepted a ≡ true → performed r x ≡ effect_of r k)
      → settled_in (verdict_of k a) ≡ parts_of (answered r x a)
  unfolding answered
  settled_is x k (Ok tt) same = carried_is_lem k ∙ ap (λ (e : Effect). parts_of (accepted e)) (sym (same refl))
  settled_is x k (Err q) same = rw (not_accepted q) refl
