-- A task whose run would be accepted is chosen by a list of enough calls at its desk, so that a step is accepted in it.
use mathlib.Core.Path.{◌≡◌, refl, sym, ◌∙◌, ap, subst}
use mathlib.Core.Bool.{true, false}
use mathlib.Core.Logic.{by_cases}
use mathlib.Core.List.{List, [], ◌∷◌}
use Prim.Native.Nat.{ℕ, ◌+◌, ◌≤◌}
use native.Mathlib.Omega.{arith}
use native.Mathlib.Decide.{ℕ_discrete}
use lib.Dec.{eqb}
use lib.ListN.{length}
use borrow.Author.Tests.{eqb-true, ne_eqb}
use Rattle.std.specs.Prelude.{Ok}
use Rattle.base.specs.Lists.{every, any, count}
use Rattle.base.proofs.Tests.{is_false, tests_differ}
use Rattle.plan.specs.declared.Plan.{Plan}
use Rattle.plan.specs.declared.ProcessorId.{ProcessorId}
use Rattle.rules.specs.declared.step.Step.{Step}
use Rattle.rules.specs.declared.dispatch.Dispatched.{Dispatched}
use Rattle.rules.specs.declared.system.System.{System}
use Rattle.rules.specs.Numbers.{task_id, processor_id, same_processor, processor_ok}
use Rattle.rules.specs.Answers.{is_accepted}
use Rattle.rules.specs.Systems.{task_at, is_ready_at, chosen_at}
use Rattle.rules.specs.Steps.{step_answer, step, steps, run_step}
use Rattle.rules.specs.Dispatch.{delivery_turn, choice, run_turn, ruled_dispatch, dispatched, step_of}
use Rattle.rules_laws.proofs.ButChosen.{ButChosen, but_then, but_answer}
use Rattle.rules_laws.proofs.Dispatch.{delivery_runs}
use Rattle.claim.specs.Statement.{accepted_of, any_step}
use Rattle.claim.specs.Events.{Event, ordinary, call, is_call_at, returned, happens}
use Rattle.claim.specs.Turns.{choosing_rigs}
use Rattle.claim.proofs.Lists.{either}
use Rattle.claim.proofs.Live.{Live, live_event, ruled, last_bound}
use Rattle.claim.proofs.Idle.{accepted_append, idle_steps, done, done_first, idle_event}
use Rattle.claim.proofs.Searches.{place_few}
use Rattle.claim.proofs.Turns.{in_turn}

-- a rig in which each call at d chooses
pub choosing_calls : (d : ProcessorId) (r : System) (us : List Event) → length (choosing_rigs d r us) ≡ count (is_call_at d) us
unfolding choosing_rigs count is_call_at
choosing_calls d r [] = refl
choosing_calls d r (ordinary s ∷ us) = choosing_calls d (step r s).system us ∙ omega arith
choosing_calls d r (call e ∷ us) =
    let later = choosing_calls d (dispatched r e).system us in
    either (same_processor e d) (λ same. rw same (omega (arith, later))) (λ other. rw other (omega (arith, later)))

module _ (n : ℕ) (p : Plan) (d : ProcessorId) (at : processor_ok n d ≡ true) (w : System) (t : ℕ) (ready : is_ready_at d (task_at w (task_id t)) ≡ true)
    (some : 1 ≤ t) (accepted : step_answer w (run_step t) ≡ Ok tt) where
  -- none of these rigs chooses t, though it is ready in each
  record Passes (qs : List System) : Type 0 where
    all : every (λ q. is_ready_at d (task_at q (task_id t))) qs ≡ true
    none : any (λ q. eqb (choice q d) t) qs ≡ false

  -- one rig more
  one_more_lem : (q : System) → is_ready_at d (task_at q (task_id t)) ≡ true → eqb (choice q d) t ≡ false → (qs : List System) → Passes qs → Passes (q ∷ qs)
  unfolding every any
  one_more_lem q is other qs f = record { all = rw is f.all; none = rw other f.none }

  -- a call at d in which no step is accepted chooses in a rig that is w but for the last choices, and not t
  module _ (r : System) (l : Live n p r) (b : ButChosen r w) (idle : accepted_of any_step r (happens r (call d)).steps ≡ 0) where
    abbrev q : System
    q = (delivery_turn r d).system

    abbrev xs : List Step
    xs = step_of (delivery_turn r d).turn

    abbrev ys : List Step
    ys = step_of (run_turn q d).turn

    parts : accepted_of any_step r xs + accepted_of any_step (steps r xs).system ys ≡ 0
    unfolding happens ruled_dispatch
    parts =
        sym (accepted_append any_step r xs ys) ∙ ap (λ (o : Dispatched). accepted_of any_step r (returned o).steps) (sym (ruled l d at)) ∙ idle

    same : q ≡ r
    same = (delivery_runs r d).system ∙ idle_steps r xs (omega (arith, parts))

    idle_run : accepted_of any_step q ys ≡ 0
    idle_run = ap (λ (z : System). accepted_of any_step z ys) (delivery_runs r d).system ∙ omega (arith, parts)

    is_ready : is_ready_at d (task_at q (task_id t)) ≡ true
    is_ready = ap (λ (z : System). is_ready_at d (task_at z (task_id t))) (same ∙ b.is) ∙ ready

    runs_it : choice q d ≡ t → ys ≡ run_step t ∷ []
    unfolding run_turn step_of
    runs_it e = let own : eqb (choice q d) 0 ≡ false = ne_eqb (choice q d) 0 (λ z. omega arith) in rw (own, e) refl

    one_accepted : accepted_of any_step q (run_step t ∷ []) ≡ 1
    unfolding accepted_of
    one_accepted =
        let yes : is_accepted (step_answer q (run_step t)) ≡ true =
        ap (λ (z : System). is_accepted (step_answer z (run_step t))) same ∙ ap is_accepted (but_answer b (run_step t) ∙ accepted) in
        rw yes refl

    not_chosen : eqb (choice q d) t ≡ false
    not_chosen =
        is_false (eqb (choice q d) t)
        (λ e. let run = ap (accepted_of any_step q) (runs_it (eqb-true (choice q d) t e)) in omega (arith, idle_run, run, one_accepted))

  passes : (us : List Event) (r : System) → Live n p r → ButChosen r w → done r us ≡ 0 → Passes (choosing_rigs d r us)
  unfolding choosing_rigs every any happens
  passes [] r l b idle = record { all = refl; none = refl }
  passes (ordinary s ∷ us) r l b idle =
      let e : Event = ordinary s in
      let split = done_first r e us in
      passes us (step r s).system (live_event l e) (but_then (idle_event r e (omega (arith, split, idle))) b) (omega (arith, split, idle))
  passes (call e ∷ us) r l b idle =
      let v : Event = call e in
      let split = done_first r v us in
      let first : accepted_of any_step r (happens r v).steps ≡ 0 = omega (arith, split, idle) in
      let later = passes us (dispatched r e).system (live_event l v) (but_then (idle_event r v first) b) (omega (arith, split, idle)) in
      either (same_processor e d)
      (λ same.
      let is : e ≡ d = ap processor_id (eqb-true e.0 d.0 same) in
      let own : accepted_of any_step r (happens r (call d)).steps ≡ 0 = ap (λ (z : ProcessorId). accepted_of any_step r (happens r (call z)).steps) (sym is) ∙ first in
      rw same
      (subst (λ (z : ProcessorId). Passes ((delivery_turn r z).system ∷ choosing_rigs d (dispatched r e).system us)) (sym is)
      (one_more_lem (delivery_turn r d).system (is_ready r l b own) (not_chosen r l b own) (choosing_rigs d (dispatched r e).system us) later)))
      (λ other. rw other later)

  -- so with T calls at d some step is accepted
  pub chooses : n ≤ 6 → t ≤ p.tasks → (us : List Event) (r : System) → Live n p r → ButChosen r w → p.tasks ≤ count (is_call_at d) us → 1 ≤ done r us
  chooses six few us r l b enough =
      by_cases
      (ℕ_discrete (done r us) 0)
      (λ idle.
      let f = passes us r l b idle in
      let place = place_few p.tasks (chosen_at r d) t (last_bound l d) some few in
      absurd (tests_differ (in_turn n p d six at (task_id t) some few us r l f.all (omega (arith, place, enough, choosing_calls d r us))) f.none))
      (λ ne. omega arith)
