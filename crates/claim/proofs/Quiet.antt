-- Rest: exactly when no run and no delivery would be accepted; and then every ready task is at its finish, with a living child.
use mathlib.Core.Path.{◌≡◌, refl, sym, ap, ◌∙◌}
use mathlib.Core.Logic.{◌⊎◌, inl, inr, by_cases}
use mathlib.Core.Bool.{true, false, not, ◌||◌}
use mathlib.Core.List.{[]}
use Prim.Native.Nat.{ℕ, suc, ◌+◌, ◌≤◌, ◌<◌}
use native.Mathlib.Omega.{arith}
use native.Mathlib.Decide.{ℕ_discrete}
use lib.Dec.{eqb, leb}
use lib.ListN.{length}
use borrow.Author.Tests.{eqb-true, eq-eqb, le-leb, not-true, not-false}
use Rattle.std.specs.Prelude.{Ok}
use Rattle.base.specs.Choice.{within}
use Rattle.base.specs.Range.{up_to}
use Rattle.base.proofs.Tests.{below_cases, second_fails, and_left, and_right, and_both, or_cases, within_low, within_high, within_both, up_to_at, below_all, is_false, is_true}
use Rattle.base.proofs.Tests.{tests_differ}
use Rattle.plan.specs.declared.TaskId.{TaskId}
use Rattle.plan.specs.Numbers.{task_id}
use Rattle.plan.specs.Kinds.{is_finish}
use Rattle.rules.specs.declared.task.TaskState.TheVariants.{Ready}
use Rattle.rules.specs.declared.step.Step.{Step}
use Rattle.rules.specs.declared.system.System.{System}
use Rattle.rules.specs.Answers.{is_accepted}
use Rattle.rules.specs.Deliver.{deliver_answer}
use Rattle.rules.specs.Steps.{is_run, is_deliver, well_formed, kind_answer, ruled_answer, step_answer, run_step, quiescent}
use Rattle.rules.specs.Dispatch.{deliver_step}
use Rattle.rules.specs.Networks.{messages, messages_of}
use Rattle.rules.specs.Tasks.{is_in, is_childless}
use Rattle.rules.specs.Systems.{task_at}
use Rattle.rules.specs.Runs.{next_of, ran, fits, finishes_early, run_answer}
use Rattle.rules.specs.Sound.{system_ok}
use Rattle.rules_laws.specs.Shapes.{Shaped}
use Rattle.rules_laws.proofs.Messages.{few_messages}
use Rattle.rules_laws.proofs.Steps.{accepted_is, step_passed}
use Rattle.rules_laws.proofs.StepKinds.{answer_run, answer_deliver, deliver_passed}
use Rattle.rules_sound.proofs.Answers.{run_passed}
use Rattle.transitions.specs.Readings.{reading}
use Rattle.transitions.proofs.Rigs.{processors_few}

module _ (r : System) (ok : system_ok r ≡ true) where
  -- where a letter is, its delivery is accepted
  pub deliver_accepted : (p : ℕ) → 1 ≤ p → p ≤ r.network.used → step_answer r (deliver_step p) ≡ Ok tt
  unfolding step_answer ruled_answer well_formed kind_answer deliver_answer
  deliver_accepted p l u = rw (ok, within_both 1 r.network.used p l u) refl

  module _ (quiet : quiescent r ≡ true) where
    -- what rest says: no letters, and no run is accepted
    no_messages_lem : r.network.used ≡ 0
    unfolding quiescent
    no_messages_lem = eqb-true r.network.used 0 (and_left (eqb r.network.used 0) _ quiet)

    no_run : (t : ℕ) → 1 ≤ t → t ≤ r.plan.tasks → is_accepted (step_answer r (run_step t)) ≡ false
    unfolding quiescent
    no_run t l u =
        not-true _ (up_to_at (λ t. not (is_accepted (step_answer r (run_step t)))) r.plan.tasks t l u (and_right (eqb r.network.used 0) _ quiet))

    -- a run and a delivery are refused
    run_refused : (s : Step) → is_run s ≡ true → step_answer r s ≡ Ok tt → ⊥
    unfolding well_formed
    run_refused s kind a =
        let q = step_passed r s a in
        let task = (run_passed r (task_id s.task) (sym (answer_run r s kind) ∙ q.rule)).task in
        let one : s.kind ≡ 1 = eqb-true s.kind 1 kind in
        let none : s.number ≡ 0 = eqb-true s.number 0 (rw kind at q.form) in
        let same : s ≡ run_step s.task = rw (← one, ← none) refl in
        let no = no_run s.task (within_low 1 r.plan.tasks s.task task) (within_high 1 r.plan.tasks s.task task) in
        tests_differ (ap is_accepted a) (ap (λ (z : Step). is_accepted (step_answer r z)) same ∙ no)

    deliver_refused : (s : Step) → is_deliver s ≡ true → step_answer r s ≡ Ok tt → ⊥
    deliver_refused s kind a =
        let (l, u) = deliver_passed r s.number (sym (answer_deliver r s kind) ∙ (step_passed r s a).rule) in
        omega (arith, no_messages_lem)

    pub rest_refuses : (s : Step) → (is_run s || is_deliver s) ≡ true → is_accepted (step_answer r s) ≡ false
    rest_refuses s kind =
        is_false (is_accepted (step_answer r s)) (λ e.
        let a = accepted_is (step_answer r s) e in
        or_cases (is_run s) (is_deliver s) kind (λ k. run_refused s k a) (λ k. deliver_refused s k a))

  pub refuses_rest : ((s : Step) → (is_run s || is_deliver s) ≡ true → is_accepted (step_answer r s) ≡ false) → quiescent r ≡ true
  unfolding quiescent
  refuses_rest none =
      and_both (eqb r.network.used 0) _
      (eq-eqb r.network.used 0
      (by_cases
      (ℕ_discrete r.network.used 0)
      (λ e. e)
      (λ ne. absurd (tests_differ (ap is_accepted (deliver_accepted 1 (omega arith) (omega arith))) (none (deliver_step 1) refl)))))
      (below_all (λ k. not (is_accepted (step_answer r (run_step (suc k))))) r.plan.tasks (λ k l. rw (none (run_step (suc k)) refl) refl))

-- a rig that is not at rest has a letter in its mail, or a run would be accepted
pub busy_cases : {C : Type 0} (r : System) → quiescent r ≡ false → (1 ≤ r.network.used → C)
    → ((t : ℕ) → 1 ≤ t → t ≤ r.plan.tasks → step_answer r (run_step t) ≡ Ok tt → C) → C
unfolding quiescent
busy_cases {C = C} r busy letter run =
    by_cases
    (ℕ_discrete r.network.used 0)
    (λ e. first (below_cases (λ t. not (is_accepted (step_answer r (run_step (suc t))))) r.plan.tasks)
    (second_fails (eqb r.network.used 0) _ busy (eq-eqb r.network.used 0 e)))
    (λ ne. letter (omega arith))
  where
    first : (up_to r.plan.tasks (λ t. not (is_accepted (step_answer r (run_step t)))) ≡ true)
        ⊎ ((i : ℕ) × (i < r.plan.tasks) × (not (is_accepted (step_answer r (run_step (suc i)))) ≡ false))
        → up_to r.plan.tasks (λ t. not (is_accepted (step_answer r (run_step t)))) ≡ false → C
    first (inl e) f = absurd (tests_differ e f)
    first (inr (i, l, e)) f =
        run (suc i) (omega arith) l (accepted_is (step_answer r (run_step (suc i))) (not-false (is_accepted (step_answer r (run_step (suc i)))) e))

module _ (r : System) (shaped : Shaped r) (ok : system_ok r ≡ true) (quiet : quiescent r ≡ true) where
  pub quiet_messages : (reading r).messages ≡ []
  unfolding reading messages
  quiet_messages = rw (no_messages_lem r ok quiet) refl

  -- with an empty mail a ready task is kept from running by its finish alone
  pub quiet_ready : (t : TaskId) → within 1 r.plan.tasks t.0 ≡ true → is_in Ready (task_at r t) ≡ true
      → (is_finish (next_of r t) ≡ true) × (is_childless (task_at r t) ≡ false)
  unfolding step_answer ruled_answer well_formed kind_answer run_answer fits
  quiet_ready t is ready =
      let few = processors_few r shaped ok in
      let posted = few_messages r.processors (ran r t).posting in
      let fit : leb (r.network.used + length (messages_of r.processors (ran r t).posting)) 256 ≡ true =
      le-leb (r.network.used + length (messages_of r.processors (ran r t).posting)) 256 (let none = no_messages_lem r ok quiet in omega arith) in
      let early : finishes_early r t ≡ true =
      is_true (finishes_early r t) (λ late.
      let yet : step_answer r (run_step t.0) ≡ Ok tt = rw (ok, is, ready, late, fit) refl in
      tests_differ (ap is_accepted yet)
      (no_run r ok quiet t.0 (within_low 1 r.plan.tasks t.0 is) (within_high 1 r.plan.tasks t.0 is))) in
      (and_left (is_finish (next_of r t)) _ early, not-true _ (and_right (is_finish (next_of r t)) _ early))
