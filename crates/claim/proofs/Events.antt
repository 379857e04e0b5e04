-- A call is a run of ordinary steps, and so is a list of events, but for the last choices.
use mathlib.Core.Path.{◌≡◌, refl, sym, ◌∙◌, ap, subst}
use mathlib.Core.Bool.{true}
use mathlib.Core.List.{List, [], ◌∷◌, ◌++◌}
use Prim.Native.Nat.{ℕ}
use Rattle.std.specs.Prelude.{Err}
use Rattle.plan.specs.declared.ProcessorId.{ProcessorId}
use Rattle.rules.specs.declared.step.Report.{Report}
use Rattle.rules.specs.Answers.{StepAnswer}
use Rattle.rules.specs.declared.step.StepRefusal.TheVariants.{BadSystem, NoProcessor}
use Rattle.rules.specs.declared.dispatch.Dispatched.{Dispatched}
use Rattle.rules.specs.declared.system.System.{System}
use Rattle.rules.specs.Numbers.{processor_ok}
use Rattle.rules.specs.Systems.{with_chosen, chosen_at}
use Rattle.rules.specs.Sound.{chosen_ok, system_ok}
use Rattle.rules.specs.Steps.{step, steps_by, steps}
use Rattle.rules.specs.Dispatch.{choosing, delivery_turn, run_turn, ruled_dispatch, undispatched, dispatched, step_of, report_of}
use Rattle.rules_laws.proofs.Shapes.{steps_plan, steps_chosen}
use Rattle.rules_laws.proofs.Sound.{system_passed}
use Rattle.rules_laws.proofs.Steps.{steps_by_system, steps_by_reports}
use Rattle.rules_laws.proofs.ButChosen.{ButChosen, but_itself, but_then, but_steps, but_reports}
use Rattle.rules_laws.proofs.Dispatch.{same_choice, delivery_runs, run_runs}
use Rattle.claim.specs.Events.{Event, ordinary, call, Happened, returned, happens, happened}
use Rattle.claim.specs.Dispatch.{CallIsARun, EventsAreARun}
use Rattle.claim.proofs.Lists.{either}

-- what a call is: refused by 9 or 15, or ruled
pub dispatched_cases : (P : Dispatched → Type 0) (r : System) (d : ProcessorId) → ((a : StepAnswer) → P (undispatched r a))
    → (system_ok r ≡ true → processor_ok r.processors d ≡ true → P (ruled_dispatch r d)) → P (dispatched r d)
unfolding dispatched
dispatched_cases P r d refuses rules =
    either (system_ok r)
    (λ ok. either (processor_ok r.processors d) (λ at. rw (ok, at) (rules ok at)) (λ off. rw (ok, off) (refuses (Err NoProcessor))))
    (λ bad. rw bad (refuses (Err BadSystem)))

-- what it leaves, and that 9 refuses the last choices before and after it, or neither
record Runs (r : System) (d : ProcessorId) (o : Dispatched) : Type 0 where
  last : ℕ
  system : o.system ≡ choosing (steps r (returned o).steps).system d last
  reports : (returned o).reports ≡ (steps r (returned o).steps).reports
  same : chosen_ok r.plan.tasks o.system.chosen ≡ chosen_ok r.plan.tasks r.chosen

module _ (r : System) (d : ProcessorId) where
  nothing_runs : (a : StepAnswer) → Runs r d (undispatched r a)
  unfolding step_of report_of steps_by
  nothing_runs a = record { last = chosen_at r d; system = sym (same_choice r d); reports = refl; same = refl }

  ruled_runs : system_ok r ≡ true → Runs r d (ruled_dispatch r d)
  unfolding ruled_dispatch
  ruled_runs h =
      let ok = (system_passed r h).chosen in
      let a = delivery_turn r d in
      let xs = step_of a.turn in
      let first = delivery_runs r d in
      let q = a.system in
      let ys = step_of (run_turn q d).turn in
      let plan : q.plan ≡ r.plan = ap (λ (z : System). z.plan) first.system ∙ steps_plan r xs in
      let chosen : q.chosen ≡ r.chosen = ap (λ (z : System). z.chosen) first.system ∙ steps_chosen r xs in
      let then = run_runs q d (rw (plan, chosen) ok) in
      let whole : (steps q ys).system ≡ (steps r (xs ++ ys)).system = ap (λ (z : System). (steps z ys).system) first.system ∙ sym (steps_by_system step r xs ys) in
      record {
        last = then.last;
        system = then.system ∙ ap (λ (z : System). choosing z d then.last) whole;
        reports =
            ap (λ (qs : List Report). qs ++ report_of (run_turn q d).turn) first.reports
            ∙ ap (◌++◌ (steps r xs).reports) (then.reports ∙ ap (λ (z : System). (steps z ys).reports) first.system)
            ∙ sym (steps_by_reports step r xs ys);
        same = (rw plan at then.ok) ∙ sym ok;
      }

  call_runs : Runs r d (dispatched r d)
  call_runs = dispatched_cases (Runs r d) r d nothing_runs (λ ok at. ruled_runs ok)

  -- so the rig is that of its steps, but for the last choices
  pub call_but : ButChosen (dispatched r d).system (steps r (returned (dispatched r d)).steps).system
  call_but =
      let c = call_runs in
      let ss = (returned (dispatched r d)).steps in
      let q = (steps r ss).system in
      record {
        is = subst (λ (z : System). z ≡ with_chosen q z.chosen) (sym c.system) refl;
        same = rw (steps_plan r ss, steps_chosen r ss) c.same;
      }

pub call_is_a_run : CallIsARun
call_is_a_run r d = let c = call_runs r d in record { last = c.last; system = c.system; reports = c.reports }

-- the same of a list of events, for any way to go on
pub record EventRuns (r : System) (h : Happened) : Type 0 where
  pub but : ButChosen h.system (steps r h.steps).system
  pub reports : h.reports ≡ (steps r h.steps).reports

pub event_runs : (r : System) (e : Event) → EventRuns r (happens r e)
unfolding happens steps_by
event_runs r (ordinary s) = record { but = but_itself (step r s).system; reports = refl }
event_runs r (call d) = record { but = call_but r d; reports = (call_runs r d).reports }

pub events_run : (r : System) (es : List Event) → EventRuns r (happened r es)
unfolding happened steps_by
events_run r [] = record { but = but_itself r; reports = refl }
events_run r (e ∷ es) =
    let a = happens r e in
    let b = happened a.system es in
    let first = event_runs r e in
    let later = events_run a.system es in
    let q = (steps r a.steps).system in
    record {
      but = but_then later.but (rw (steps_by_system step r a.steps b.steps) (but_steps first.but b.steps));
      reports =
          ap (λ (qs : List Report). qs ++ b.reports) first.reports
          ∙ ap (◌++◌ (steps r a.steps).reports) (later.reports ∙ but_reports first.but b.steps)
          ∙ sym (steps_by_reports step r a.steps b.steps);
    }

pub events_are_a_run : EventsAreARun
events_are_a_run r es = let h = events_run r es in record { system = h.but.is; reports = h.reports }
