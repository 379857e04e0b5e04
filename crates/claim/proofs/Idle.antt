-- Steps and events of which none is accepted leave the rig, but for the last choices; and how many are accepted of one list after another.
use mathlib.Core.Path.{◌≡◌, refl, sym, ◌∙◌, ap, subst}
use mathlib.Core.Bool.{Bool, false}
use mathlib.Core.List.{List, [], ◌∷◌, ◌++◌}
use Prim.Native.Nat.{ℕ, ◌+◌}
use native.Mathlib.Omega.{arith}
use Rattle.base.proofs.Tests.{and_false}
use Rattle.rules.specs.declared.step.Step.{Step}
use Rattle.rules.specs.declared.system.System.{System}
use Rattle.rules.specs.Answers.{is_accepted}
use Rattle.rules.specs.Steps.{is_deliver, step_answer, step, steps_by, steps}
use Rattle.rules_laws.proofs.ButChosen.{ButChosen}
use Rattle.claim.specs.Statement.{accepted_of, any_step}
use Rattle.claim.specs.Events.{Event, happens, happened}
use Rattle.claim.specs.Letters.{followed}
use Rattle.claim.proofs.Lists.{either, left}
use Rattle.claim.proofs.Events.{event_runs, events_run}
use Rattle.claim.proofs.Dispatch.{but_accepted}

pub accepted_append : (test : Step → Bool) (r : System) (xs ys : List Step)
    → accepted_of test r (xs ++ ys) ≡ accepted_of test r xs + accepted_of test (steps r xs).system ys
unfolding accepted_of steps_by
accepted_append test r [] ys = omega arith
accepted_append test r (x ∷ xs) ys = omega (arith, accepted_append test (step r x).system xs ys)

-- the first of them is refused
idle_first : (r : System) (s : Step) (ss : List Step) → accepted_of any_step r (s ∷ ss) ≡ 0
    → (is_accepted (step_answer r s) ≡ false) × (accepted_of any_step (step r s).system ss ≡ 0)
unfolding accepted_of
idle_first r s ss none =
    either (is_accepted (step_answer r s))
    (λ e. let one = rw e at none in absurd (omega arith))
    (λ e. (e, omega arith))

pub idle_steps : (r : System) (ss : List Step) → accepted_of any_step r ss ≡ 0 → (steps r ss).system ≡ r
unfolding steps_by
idle_steps r [] none = refl
idle_steps r (s ∷ ss) none =
    let (refusal, rest) = idle_first r s ss none in
    idle_steps (step r s).system ss rest ∙ left r s refusal

pub idle_followed : (r : System) (ss : List Step) (k : ℕ) → accepted_of any_step r ss ≡ 0 → followed r ss k ≡ k
unfolding followed
idle_followed r [] k none = refl
idle_followed r (s ∷ ss) k none =
    let (refusal, rest) = idle_first r s ss none in
    rw (refusal, and_false (is_deliver s)) (idle_followed (step r s).system ss k rest)

-- how many steps are accepted in a list of events
abbrev pub done : System → List Event → ℕ
done r us = accepted_of any_step r (happened r us).steps

module _ (r : System) where
  pub done_first : (e : Event) (us : List Event) → done r (e ∷ us) ≡ accepted_of any_step r (happens r e).steps + done (happens r e).system us
  unfolding happened
  done_first e us =
      accepted_append any_step r (happens r e).steps _
      ∙ ap (◌+◌ (accepted_of any_step r (happens r e).steps)) (sym (but_accepted (event_runs r e).but any_step (happened (happens r e).system us).steps))

  pub idle_event : (e : Event) → accepted_of any_step r (happens r e).steps ≡ 0 → ButChosen (happens r e).system r
  idle_event e none = subst (ButChosen (happens r e).system) (idle_steps r (happens r e).steps none) (event_runs r e).but

  pub idle_events : (us : List Event) → done r us ≡ 0 → ButChosen (happened r us).system r
  idle_events us none = subst (ButChosen (happened r us).system) (idle_steps r (happened r us).steps none) (events_run r us).but

-- one list after another
pub happened_then : (r : System) (us vs : List Event) → (happened r (us ++ vs)).system ≡ (happened (happened r us).system vs).system
unfolding happened
happened_then r [] vs = refl
happened_then r (e ∷ us) vs = happened_then (happens r e).system us vs

pub done_then : (r : System) (us vs : List Event) → done r (us ++ vs) ≡ done r us + done (happened r us).system vs
unfolding happened accepted_of
done_then r [] vs = omega arith
done_then r (e ∷ us) vs =
    let q = (happens r e).system in
    omega (arith, done_first r e (us ++ vs), done_first r e us, done_then q us vs)
