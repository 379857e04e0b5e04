-- 12,006 calls are enough: a round of calls makes a step, or the rig is at rest.
use mathlib.Core.Path.{◌≡◌, refl, sym, ap, ◌∙◌, subst}
use mathlib.Core.Bool.{true, false}
use mathlib.Core.List.{List, [], ◌++◌}
use mathlib.Core.Logic.{◌⊎◌, inl, inr, ⊎_elim, by_cases}
use Prim.Native.Nat.{ℕ, zero, suc, ◌+◌, ◌-◌, ◌*◌, ◌≤◌, ◌<◌}
use native.Mathlib.Nat.{mul-suc}
use native.Mathlib.Omega.{arith}
use native.Mathlib.Decide.{ℕ_discrete}
use lib.ListN.{length, length-append}
use borrow.Author.Tests.{eq-eqb, ne_eqb, lt-ltb, le-ltb}
use Rattle.base.specs.Sets.{member}
use Rattle.base.proofs.Tests.{tests_differ, and_both, is_true, within_low, within_high, within_both, up_to_at}
use Rattle.plan.specs.declared.Plan.{Plan}
use Rattle.plan.specs.declared.ProcessorId.{ProcessorId}
use Rattle.rules.specs.declared.dispatch.Dispatched.{Dispatched}
use Rattle.rules.specs.declared.task.TaskState.TheVariants.{Ready}
use Rattle.rules.specs.declared.step.Step.{Step}
use Rattle.rules.specs.declared.system.System.{System}
use Rattle.rules.specs.Numbers.{task_id, processor_id}
use Rattle.rules.specs.Tasks.{is_in, is_at}
use Rattle.rules.specs.Networks.{messages, message_at}
use Rattle.rules.specs.Systems.{task_at, task_program, is_ready_at, ready_at, chosen_at}
use Rattle.rules.specs.Starts.{started}
use Rattle.rules.specs.Steps.{run_step, quiescent}
use Rattle.rules.specs.Dispatch.{addressee, earliest, choice, delivery_turn, run_turn, ruled_dispatch, dispatched, step_of}
use Rattle.rules_laws.proofs.Ready.{ready_member}
use Rattle.rules_laws.proofs.Dispatch.{last_few}
use Rattle.rules_laws.proofs.Sound.{task_ok_in, system_passed}
use Rattle.rules_laws.proofs.Steps.{step_passed}
use Rattle.rules_laws.proofs.StepKinds.{answer_run}
use Rattle.rules_sound.proofs.Answers.{run_passed}
use Rattle.rules_sound.proofs.Settled.{settled}
use Rattle.claim.specs.Events.{happened}
use Rattle.claim.proofs.Lists.{either}
use Rattle.claim.proofs.Quiet.{busy_cases}
use Rattle.claim.proofs.Live.{Live, live_call, live_mixed, ruled}
use Rattle.claim.proofs.Searches.{Nearer, next_nearer}
use Rattle.claim.proofs.Earliest.{earliest_is}
use Rattle.claim.proofs.Followed.{length_mail}
use Rattle.claim.proofs.Letters.{own_desk, desk_there}
use Rattle.dispatch.specs.Calls.{Called, called, desk_after}
use Rattle.chooser.specs.Enough.{CallsEnough}

-- desk e finds no letter and no ready task
abbrev Idle : System → ℕ → Type 0
Idle r e = (earliest (processor_id e) (messages r.network) ≡ 0) × (choice r (processor_id e) ≡ 0)

-- the steps of a call
abbrev made : Dispatched → List Step
made o = step_of o.delivery ++ step_of o.run

-- it makes one, or finds nothing and leaves the rig as it is
abbrev Makes : System → ℕ → Dispatched → Type 0
Makes r e o = (1 ≤ length (made o)) ⊎ (Idle r e × (o.system ≡ r))

call_makes : (r : System) (e : ℕ) → Makes r e (ruled_dispatch r (processor_id e))
unfolding ruled_dispatch delivery_turn run_turn step_of
call_makes r e =
    let d = processor_id e in
    let p = earliest d (messages r.network) in
    by_cases (ℕ_discrete p 0)
    (λ (z : p ≡ 0).
    by_cases (ℕ_discrete (choice r d) 0)
    (λ (y : choice r d ≡ 0). inr ((z, y), rw (eq-eqb p 0 z, eq-eqb (choice r d) 0 y) refl))
    (λ ne. inl (rw (eq-eqb p 0 z, ne_eqb (choice r d) 0 ne) (omega arith))))
    (λ ne. inl (rw (ne_eqb p 0 ne) (omega arith)))

-- calls that begin at rest, and one call more
called_rest : (k : ℕ) (r : System) (d : ℕ) → quiescent r ≡ true → (called (suc k) r d).system ≡ r
unfolding called
called_rest k r d h = rw h refl

called_more : (k : ℕ) (r : System) (d : ℕ) → quiescent r ≡ false
    → let o = dispatched r (processor_id (desk_after r.processors d)) in
    let h = called k o.system (desk_after r.processors d) in
    called (suc k) r d ≡ record { steps = made o ++ h.steps; system = h.system }
unfolding called
called_more k r d h = rw h refl

-- rest at the end, or so many steps
abbrev Goal : ℕ → Called → Type 0
Goal b c = (quiescent c.system ≡ true) ⊎ (b ≤ length c.steps)

module _ (n : ℕ) (p : Plan) (few : n ≤ 6) where
  -- a rig whose desks are all idle is at rest
  all_idle : (r : System) → Live n p r → ((e : ℕ) → 1 ≤ e → e ≤ n → Idle r e) → quiescent r ≡ true
  unfolding choice
  all_idle r l idle =
      is_true (quiescent r) (λ busy.
      busy_cases r busy
      (λ some.
      let d = addressee (message_at r.network 1) in
      let own = own_desk n p [] r l 1 (omega arith) some in
      let there : 1 ≤ length (messages r.network) = omega (arith, some, length_mail l) in
      let at = desk_there n p d r l 1 (omega arith) there own in
      let first = earliest_is d (messages r.network) 1 (omega arith) there own in
      let none : earliest d (messages r.network) ≡ 0 = (idle d.0 (within_low 1 n d.0 at) (within_high 1 n d.0 at)).0 in
      omega (arith, first.some, none))
      (λ t low high accepted.
      let x = task_at r (task_id t) in
      let d = x.processor in
      let sound = system_passed r l.ok in
      let passed = run_passed r (task_id t) (sym (answer_run r (run_step t) refl) ∙ (step_passed r (run_step t) accepted).rule) in
      let ok = up_to_at (task_ok_in r) r.plan.tasks t low high sound.tasks in
      let at = settled r.processors r.plan.tasks (task_program r (task_id t)) x Ready refl passed.ready ok in
      let some : 1 ≤ d.0 = at.processor in
      let here : d.0 ≤ n = omega (arith, at.processor_few, l.processors) in
      let ready = and_both (is_in Ready x) (is_at d x) passed.ready (eq-eqb d.0 d.0 refl) in
      let desk : processor_id (suc (d.0 - 1)) ≡ d = ap processor_id (omega (arith, some)) in
      let at_desk = ready_member r.plan.tasks r.tasks sound.ready (d.0 - 1) t (omega (arith, some, here, few)) low high in
      let in_set : member t (ready_at r d) ≡ true = at_desk ∙ ap (λ (e : ProcessorId). is_ready_at e x) desk ∙ ready in
      let none : choice r d ≡ 0 = (idle d.0 some here).1 in
      ⊎_elim
      (λ (e : choice r d ≡ t). omega (arith, e, none, low))
      (λ (f : Nearer r.plan.tasks (chosen_at r d) t (choice r d)). omega (arith, f.low, none))
      (next_nearer r.plan.tasks (chosen_at r d) t (last_few r d sound.chosen) low high (ready_at r d) in_set)))

  -- a call more
  goal_more : {a b e : ℕ} (k : ℕ) (r : System) (l : Live n p r) (d : ℕ) → desk_after n d ≡ e → quiescent r ≡ false
      → let o = dispatched r (processor_id e) in
      Goal b (called k o.system e) → a ≤ length (made o) + b → Goal a (called (suc k) r d)
  goal_more {a} {b} {e} k r l d at busy g enough =
      let o = dispatched r (processor_id e) in
      let h = called k o.system e in
      let desk : desk_after r.processors d ≡ e = ap (λ (m : ℕ). desk_after m d) l.processors ∙ at in
      let now : called (suc k) r d ≡ record { steps = made o ++ h.steps; system = h.system } =
      called_more k r d busy
      ∙ ap (λ (i : ℕ). let q = dispatched r (processor_id i) in let c = called k q.system i in record { steps = made q ++ c.steps; system = c.system }) desk in
      rw now (⊎_elim (λ quiet. inl quiet) (λ (more : b ≤ length h.steps). inr (omega (arith, more, enough, length-append (made o) h.steps))) g)

  -- i desks of a round were called before, and R rounds follow it; c is 1 where the round has made no step so far, and so found these desks idle
  climb : (k : ℕ) (r : System) → Live n p r → (i d R c : ℕ) → c ≤ 1 → i < n → desk_after n d ≡ i + 1 → (1 ≤ c → (e : ℕ) → 1 ≤ e → e ≤ i → Idle r e)
      → n - i + n * R ≤ k → Goal (R + c) (called k r d)
  climb zero r l i d R c most below at idle enough = absurd (omega (arith, below, enough))
  climb (suc k) r l i d R c most below at idle enough =
      either (quiescent r)
      (λ quiet. inl (rw (called_rest k r d quiet) quiet))
      (λ busy.
      let e = i + 1 in
      let o = dispatched r (processor_id e) in
      let q = o.system in
      let lq = live_call l (processor_id e) in
      let desk = ruled l (processor_id e) (within_both 1 n e (omega arith) (omega (arith, below))) in
      let makes : Makes r e o = subst (Makes r e) (sym desk) (call_makes r e) in
      let onward : Goal R (called k q e) =
      by_cases (ℕ_discrete e n)
      (λ (last : e ≡ n).
      by_cases (ℕ_discrete R 0)
      (λ (z : R ≡ 0). inr (omega (arith, z)))
      (λ ne.
      let more : n * R ≡ n * (R - 1) + n = ap (λ (m : ℕ). n * m) (omega (arith, ne)) ∙ mul-suc n (R - 1) in
      let round : desk_after n e ≡ 0 + 1 = rw (le-ltb e n (omega (arith, last))) refl in
      let g = climb k q lq 0 e (R - 1) 1 (omega arith) (omega (arith, below)) round (λ s x low high. absurd (omega (arith, low, high))) (omega (arith, more, enough, last, below)) in
      subst (λ (b : ℕ). Goal b (called k q e)) (omega (arith, ne)) g))
      (λ inner.
      let next : desk_after n e ≡ e + 1 = rw (lt-ltb e n (omega (arith, below, inner))) refl in
      let g = climb k q lq e e R 0 (omega arith) (omega (arith, below, inner)) next (λ s x low high. absurd (omega (arith, s))) (omega (arith, enough, below, inner)) in
      subst (λ (b : ℕ). Goal b (called k q e)) (omega arith) g) in
      ⊎_elim
      (λ (one : 1 ≤ length (made o)). goal_more k r l d at busy onward (omega (arith, one, most)))
      (λ (none : Idle r e × (q ≡ r)).
      by_cases (ℕ_discrete c 0)
      (λ (z : c ≡ 0). goal_more k r l d at busy onward (omega (arith, z)))
      (λ due.
      let idle-now : (x : ℕ) → 1 ≤ x → x ≤ e → Idle r x = λ x low high.
      by_cases (ℕ_discrete x e) (λ (y : x ≡ e). subst (Idle r) (sym y) none.0) (λ ne. idle (omega (arith, due)) x low (omega (arith, ne, high))) in
      by_cases (ℕ_discrete e n)
      (λ (last : e ≡ n). absurd (tests_differ (all_idle r l (λ x low high. idle-now x low (omega (arith, high, last)))) busy))
      (λ inner.
      let next : desk_after n e ≡ e + 1 = rw (lt-ltb e n (omega (arith, below, inner))) refl in
      let g = climb k q lq e e R c most (omega (arith, below, inner)) next
      (λ s x low high. subst (λ (z : System). Idle z x) (sym none.1) (idle-now x low high)) (omega (arith, enough, below, inner)) in
      goal_more k r l d at busy g (omega arith))))
      makes)

pub calls_enough : CallsEnough
unfolding happened
calls_enough n p some few a short =
    let l = live_mixed n p [] some few a in
    ⊎_elim
    (λ quiet. quiet)
    (λ (more : 2000 + 1 ≤ length (called 12006 (started n p) 0).steps). absurd (omega (arith, more, short)))
    (climb n p few 12006 (started n p) l 0 0 2000 1 (omega arith) (omega (arith, some)) (rw (lt-ltb 0 n (omega (arith, some))) refl)
    (λ s x low high. absurd (omega (arith, low, high))) (omega (arith, few)))
