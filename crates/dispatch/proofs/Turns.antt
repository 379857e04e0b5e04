-- A turn of a call, by the letter or the task that was found.
use mathlib.Core.Path.{◌≡◌, refl, sym, ◌∙◌, ap}
use mathlib.Core.Bool.{true}
use Prim.Native.Nat.{ℕ, ◌-◌, ◌≤◌}
use native.Mathlib.Omega.{arith}
use lib.Dec.{eqb}
use lib.ListN.{set}
use Rattle.std.specs.Prelude.{None}
use Rattle.std.specs.Prelude.{Ok}
use Rattle.base.proofs.Choices.{pick_cases}
use Rattle.base.proofs.Tests.{within_low, within_high}
use borrow.Author.Tests.{eq-eqb, ne_eqb}
use Rattle.plan.specs.declared.ProcessorId.{ProcessorId}
use Rattle.rules.specs.declared.system.System.{System}
use Rattle.rules.specs.Numbers.{processor_ok}
use Rattle.rules.specs.Networks.{messages}
use Rattle.rules.specs.Systems.{with_chosen, chosen_at}
use Rattle.rules.specs.Sound.{system_ok}
use Rattle.rules.specs.Steps.{run_step}
use Rattle.rules.specs.Dispatch.{Turned, skipped, made, deliver_step, earliest, choice, delivery_turn, run_turn, ruled_dispatch}
use Rattle.rules_laws.specs.Shapes.{Shaped}
use Rattle.rules_laws.proofs.Sound.{system_passed}
use Rattle.rules_laws.proofs.Shapes.{step_plan, step_chosen}
use Rattle.rules_laws.proofs.Dispatch.{last_few}
use Rattle.rules_sound.proofs.Sound.{sound}
use Rattle.rules_sound.proofs.Frames.{tasks_few}
use Rattle.dispatch.specs.declared.Turned.{Turned as Record}
use Rattle.dispatch.specs.Turns.{TurnedBy, MadeBy}

module _ (r : System) (d : ProcessorId) where
  pub no_delivery : earliest d (messages r.network) ≡ 0 → TurnedBy (delivery_turn r d) (record { turn = None; system = r })
  unfolding delivery_turn
  no_delivery e = rw (eq-eqb (earliest d (messages r.network)) 0 e) (record { turn = refl; system = refl })

  pub some_delivery : {p : ℕ} → p ≡ earliest d (messages r.network) → (p ≡ 0 → ⊥) → (q : Record) → MadeBy r (deliver_step p) q → TurnedBy (delivery_turn r d) q
  unfolding delivery_turn
  some_delivery e ne q m = rw (ne_eqb (earliest d (messages r.network)) 0 (λ z. ne (e ∙ z))) (rw e at m)

  pub no_run : choice r d ≡ 0 → TurnedBy (run_turn r d) (record { turn = None; system = r })
  unfolding run_turn
  no_run e = rw (eq-eqb (choice r d) 0 e) (record { turn = refl; system = refl })

  pub some_run : {t : ℕ} → t ≡ choice r d → (t ≡ 0 → ⊥) → (q : Record) → MadeBy (with_chosen r (set r.chosen (d.0 - 1) t)) (run_step t) q → TurnedBy (run_turn r d) q
  unfolding run_turn
  some_run e ne q m = rw (ne_eqb (choice r d) 0 (λ z. ne (e ∙ z))) (rw e at m)

-- both turns
pub together : (r : System) (d : ProcessorId) (a b : Record) → TurnedBy (delivery_turn r d) a → TurnedBy (run_turn a.system d) b
    → record { answer = Ok tt; delivery = a.turn; run = b.turn; system = b.system } ≡ ruled_dispatch r d
unfolding ruled_dispatch
together r d a b p q = rw (p.turn, q.turn, q.system, p.system) refl

-- the rig that a delivery leaves has the plan and the last choices of the rig before it
module _ (r : System) (d : ProcessorId) where
  same_plan : (delivery_turn r d).system.plan ≡ r.plan
  unfolding delivery_turn
  same_plan = pick_cases (λ (o : Turned). o.system.plan ≡ r.plan) (eqb (earliest d (messages r.network)) 0) (skipped r) (made r (deliver_step (earliest d (messages r.network)))) (λ e. refl) (λ e. step_plan r _)

  same_chosen : (delivery_turn r d).system.chosen ≡ r.chosen
  unfolding delivery_turn
  same_chosen = pick_cases (λ (o : Turned). o.system.chosen ≡ r.chosen) (eqb (earliest d (messages r.network)) 0) (skipped r) (made r (deliver_step (earliest d (messages r.network)))) (λ e. refl) (λ e. step_chosen r _)

  module _ (z : Shaped r) (o : system_ok r ≡ true) where
    few : r.plan.tasks ≤ 64
    few = tasks_few r.processors r.plan (sound r z o).frame

    pub few_tasks : (delivery_turn r d).system.plan.tasks ≤ 64
    few_tasks = rw same_plan few

    pub few_chosen : chosen_at (delivery_turn r d).system d ≤ 64
    few_chosen = rw same_chosen (omega (arith, few, last_few r d (system_passed r o).chosen))

  pub six : system_ok r ≡ true → processor_ok r.processors d ≡ true → (1 ≤ d.0) × (d.0 ≤ 6)
  six o e = (within_low 1 r.processors d.0 e, omega (arith, within_high 1 r.processors d.0 e, within_high 1 6 r.processors (system_passed r o).processors))
