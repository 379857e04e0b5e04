-- Demand 3 holds of every list of steps and calls.
use mathlib.Core.Path.{◌≡◌, refl, sym, ◌∙◌, ap}
use mathlib.Core.Bool.{Bool, true}
use mathlib.Core.List.{List, [], ◌∷◌}
use mathlib.Core.Logic.{◌≢◌}
use Prim.Native.Nat.{ℕ, ◌≤◌}
use native.Mathlib.Omega.{arith}
use Rattle.std.specs.Prelude.{Ok, Err}
use Rattle.plan.specs.declared.Plan.{Plan}
use Rattle.plan.specs.declared.ProcessorId.{ProcessorId}
use Rattle.plan.specs.Programs.{programs}
use Rattle.plan.specs.Refusals.{plan_answer}
use Rattle.rules.specs.declared.step.Step.{Step}
use Rattle.rules.specs.declared.step.StepRefusal.TheVariants.{BadSystem}
use Rattle.rules.specs.declared.system.System.{System}
use Rattle.rules.specs.Numbers.{processor_ok}
use Rattle.rules.specs.Answers.{step_number}
use Rattle.rules.specs.Systems.{task_at}
use Rattle.rules.specs.Sound.{system_ok}
use Rattle.rules.specs.Steps.{is_move, step}
use Rattle.rules.specs.Dispatch.{ruled_dispatch, dispatched}
use Rattle.rules_laws.proofs.ButChosen.{ButChosen, but_system, but_answer, but_step, but_quiescent}
use Rattle.claim.specs.Statement.{accepted_of, any_step, from}
use Rattle.claim.specs.Events.{Event, happened, mixed}
use Rattle.claim.specs.Dispatch.{MixedDemand3, MixedClaim}
use Rattle.claim.proofs.Lists.{either}
use Rattle.claim.proofs.Whole.{list_kept}
use Rattle.claim.proofs.Demand3.{demand_3}
use Rattle.claim.proofs.Events.{events_run}

-- as many steps of a list are accepted
pub but_accepted : {r q : System} → ButChosen r q → (test : Step → Bool) (ss : List Step) → accepted_of test r ss ≡ accepted_of test q ss
unfolding accepted_of
but_accepted b test [] = refl
but_accepted {r = r} {q = q} b test (s ∷ ss) = rw (but_answer b s, but_accepted {r = (step r s).system} {q = (step q s).system} (but_step b s) test ss) refl

-- a rig that 9 does not refuse answers no call by it
pub call_not_nine : (r : System) (d : ProcessorId) → system_ok r ≡ true → (dispatched r d).answer ≢ Err BadSystem
unfolding dispatched ruled_dispatch
call_not_nine r d ok e =
    either (processor_ok r.processors d)
    (λ at. let z : step_number (dispatched r d).answer ≡ 0 = rw (ok, at) refl in omega (arith, z, ap step_number e))
    (λ off. let z : step_number (dispatched r d).answer ≡ 15 = rw (ok, off) refl in omega (arith, z, ap step_number e))

-- after events from the start
module _ (n : ℕ) (p : Plan) (es : List Event) (some : 1 ≤ n) (few : n ≤ 6) (a : plan_answer (programs p) ≡ Ok tt) where
  abbrev ss : List Step
  ss = (mixed n p es).steps

  abbrev rig : System
  rig = (mixed n p es).system

  pub mixed_but : ButChosen rig (from n p ss).system
  mixed_but = (events_run _ es).but

  same_reports : (mixed n p es).reports ≡ (from n p ss).reports
  same_reports = (events_run _ es).reports

  pub mixed_ok : system_ok rig ≡ true
  mixed_ok = but_system mixed_but ∙ (list_kept n p some few a ss).ok

  mixed_parts : MixedDemand3 n p es
  mixed_parts =
      let h = demand_3 n p ss some few a in
      let b = mixed_but in
      record {
        no_nine = rw same_reports h.no_nine;
        no_call_nine = λ d. call_not_nine rig d mixed_ok;
        none_wasted_lem = h.none_wasted_lem;
        beginning = λ ts rests c. rw same_reports (h.beginning ts rests c);
        same_words = λ quiet ts rests c. rw same_reports (h.same_words (sym (but_quiescent b) ∙ quiet) ts rests c);
        same_tasks =
            λ quiet ts rests t is.
            let e : task_at rig t ≡ task_at (from n p ss).system t = ap (λ (r : System). task_at r t) b.is in
            let s = h.same_tasks (sym (but_quiescent b) ∙ quiet) ts rests t is in
            record { state = rw e s.state; place = rw e s.place; word = rw e s.word; overflow = rw e s.overflow };
        few_steps =
            λ us none.
            let vs = (happened rig us).steps in
            let used : rig.network.used ≡ (from n p ss).system.network.used = ap (λ (r : System). r.network.used) b.is in
            let moves = but_accepted b is_move vs in
            let all = but_accepted b any_step vs in
            rw (used, all) (h.few_steps vs (sym moves ∙ none));
        rest_refuses = λ quiet s kind. rw (but_answer b s) (h.rest_refuses (sym (but_quiescent b) ∙ quiet) s kind);
        refuses_rest = λ none. but_quiescent b ∙ h.refuses_rest (λ s kind. rw (but_answer b s) at (none s kind));
      }

pub mixed_demand_3 : MixedClaim
mixed_demand_3 n p es some few a = mixed_parts n p es some few a
