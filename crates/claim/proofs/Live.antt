-- What a list of events keeps of a rig: the sizes of its arrays, that 9 does not refuse it, its desks and its plan.
use mathlib.Core.Path.{◌≡◌, refl, sym, ◌∙◌, ap, subst}
use mathlib.Core.Bool.{true}
use mathlib.Core.List.{List, [], ◌∷◌}
use Prim.Native.Nat.{ℕ, ◌-◌, ◌≤◌}
use lib.ListN.{length-set}
use Rattle.std.specs.Prelude.{Ok}
use Rattle.plan.specs.declared.Plan.{Plan}
use Rattle.plan.specs.declared.ProcessorId.{ProcessorId}
use Rattle.plan.specs.Programs.{programs}
use Rattle.plan.specs.Refusals.{plan_answer}
use Rattle.rules.specs.declared.step.Step.{Step}
use Rattle.rules.specs.declared.system.System.{System}
use Rattle.rules.specs.Numbers.{processor_ok}
use Rattle.rules.specs.Systems.{chosen_at}
use Rattle.rules.specs.Sound.{system_ok}
use Rattle.rules.specs.Steps.{step, steps}
use Rattle.rules.specs.Dispatch.{choosing, ruled_dispatch, dispatched}
use Rattle.rules_laws.specs.Shapes.{Shaped}
use Rattle.rules_laws.proofs.Shapes.{started_shaped, started_plan, started_processors, step_shaped, step_plan, step_processors, steps_shaped, steps_plan, steps_processors}
use Rattle.rules_laws.proofs.Sound.{system_passed}
use Rattle.rules_laws.proofs.ButChosen.{but_system}
use Rattle.rules_laws.proofs.Dispatch.{last_few}
use Rattle.rules_sound.proofs.Kept.{step_kept, steps_kept}
use Rattle.rules_sound.proofs.Starts.{started_ok}
use Rattle.claim.specs.Events.{Event, ordinary, call, returned, happens, happened, mixed}
use Rattle.claim.proofs.Events.{call_but, call_is_a_run}

pub record Live (n : ℕ) (p : Plan) (r : System) : Type 0 where
  pub shaped : Shaped r
  pub ok : system_ok r ≡ true
  pub plan : r.plan ≡ p
  pub processors : r.processors ≡ n

choosing_shaped : (r : System) (d : ProcessorId) (t : ℕ) → Shaped r → Shaped (choosing r d t)
choosing_shaped r d t s = let six = length-set r.chosen (d.0 - 1) t ∙ s.chosen in search

module _ {n : ℕ} {p : Plan} where
  pub live_step_lem : {r : System} → Live n p r → (s : Step) → Live n p (step r s).system
  live_step_lem {r} l s =
      record {
        shaped = step_shaped r s l.shaped;
        ok = step_kept r s l.shaped l.ok;
        plan = step_plan r s ∙ l.plan;
        processors = step_processors r s ∙ l.processors;
      }

  pub live_steps : {r : System} → Live n p r → (ss : List Step) → Live n p (steps r ss).system
  live_steps {r} l ss =
      record {
        shaped = steps_shaped r ss l.shaped;
        ok = steps_kept r ss l.shaped l.ok;
        plan = steps_plan r ss ∙ l.plan;
        processors = steps_processors r ss ∙ l.processors;
      }

  pub live_call : {r : System} → Live n p r → (d : ProcessorId) → Live n p (dispatched r d).system
  live_call {r} l d =
      let c = call_is_a_run r d in
      let q = live_steps l (returned (dispatched r d)).steps in
      record {
        shaped = subst Shaped (sym c.system) (choosing_shaped _ d c.last q.shaped);
        ok = but_system (call_but r d) ∙ q.ok;
        plan = ap (λ (z : System). z.plan) c.system ∙ q.plan;
        processors = ap (λ (z : System). z.processors) c.system ∙ q.processors;
      }

  pub live_event : {r : System} → Live n p r → (e : Event) → Live n p (happens r e).system
  unfolding happens
  live_event l (ordinary s) = live_step_lem l s
  live_event l (call d) = live_call l d

  pub live_events : {r : System} → Live n p r → (es : List Event) → Live n p (happened r es).system
  unfolding happened
  live_events l [] = l
  live_events {r = r} l (e ∷ es) = live_events {r = (happens r e).system} (live_event l e) es

module _ {n : ℕ} {p : Plan} {r : System} (l : Live n p r) where
  -- a call at a desk of the rig is not refused
  pub ruled : (d : ProcessorId) → processor_ok n d ≡ true → dispatched r d ≡ ruled_dispatch r d
  unfolding dispatched
  ruled d at = let there : processor_ok r.processors d ≡ true = rw l.processors at in rw (l.ok, there) refl

  -- no last choice is above T
  pub last_bound : (d : ProcessorId) → chosen_at r d ≤ p.tasks
  last_bound d =
      let tasks : r.plan.tasks ≡ p.tasks = ap (λ (z : Plan). z.tasks) l.plan in
      rw tasks at (last_few r d (system_passed r l.ok).chosen)

-- from the start
pub live_mixed : (n : ℕ) (p : Plan) (es : List Event) → 1 ≤ n → n ≤ 6 → plan_answer (programs p) ≡ Ok tt → Live n p (mixed n p es).system
live_mixed n p es some few a =
    live_events
    (record { shaped = started_shaped n p; ok = started_ok n p some few a; plan = started_plan n p; processors = started_processors n p })
    es
