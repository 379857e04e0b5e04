-- Each call finds the image of the rig that the events before it left, and so do the next.
use mathlib.Core.Path.{◌≡◌, refl, sym, ap, ◌∙◌}
use mathlib.Core.Bool.{Bool, true, false}
use mathlib.Core.List.{List, [], ◌∷◌, ◌++◌, append-nil, append_assoc}
use mathlib.Core.Logic.{◌≢◌}
use Prim.Native.Nat.{ℕ}
use native.Mathlib.Omega.{arith}
use lib.Dec.{eqb}
use borrow.Author.Tests.{eqb-true}
use Rattle.std.specs.Prelude.{Ok}
use Rattle.base.specs.Choice.{pick, within}
use Rattle.base.proofs.Tests.{within_low, within_high, tests_differ}
use Rattle.plan.specs.Answers.{PlanAnswer, answer_number}
use Rattle.plan.specs.declared.Refusal.TheVariants.{BadProcessors}
use Rattle.plan.specs.Files.{file_programs, file_answer, start_answer}
use Rattle.plan.specs.Outcomes.{plan_read, start_number}
use Rattle.plan.specs.Programs.{programs}
use Rattle.plan.specs.Refusals.{plan_answer}
use Rattle.plan_laws.proofs.Answers.{unless_accepted}
use Rattle.plan_laws.proofs.Canonical.{meaning_canonical}
use Rattle.plan_laws.proofs.LayoutRead.{file_plan_lem}
use Rattle.rules.specs.declared.step.Report.{Report}
use Rattle.rules.specs.declared.step.Step.{Step}
use Rattle.rules.specs.Answers.{is_accepted}
use Rattle.rules.specs.declared.dispatch.Dispatched.{Dispatched}
use Rattle.rules.specs.declared.system.System.{System}
use Rattle.plan.specs.declared.ProcessorId.{ProcessorId}
use Rattle.rules.specs.Numbers.{processor_id}
use Rattle.rules.specs.Steps.{step, answered, step_answer}
use Rattle.rules.specs.Dispatch.{dispatched, ruled_dispatch}
use Rattle.claim.specs.Events.{Event, happens, happened}
use Rattle.rules.specs.declared.step.Stepped.{Stepped}
use Rattle.rules_laws.proofs.Steps.{step_refused}
use Rattle.claim.proofs.Lists.{either}
use Rattle.claim.proofs.Events.{dispatched_cases}
use Rattle.claim.proofs.Dispatch.{mixed_demand_3}
use Rattle.image.specs.Image.{rig_of, is_image}
use Rattle.image.specs.Live.{held, Left, StartMeets, step_given, live_step, byte_given, live_dispatch, made_reports}
use Rattle.live_claim.specs.Live.{LiveCall, press, ask, Made, PressMeets, AskMeets, MeetsBy, Played, last_of, event_of, events_of, reports_by, reports_of, LiveDemand3, LiveClaim}

-- the rig r is in the bytes b
pub record Holds (b : List ℕ) (r : System) : Type 0 where
  pub image : is_image (held b) ≡ true
  pub rig : rig_of (held b) ≡ r

left_holds : {before after : List ℕ} {r : System} → Left before r after → Holds after r
left_holds l = record { image = l.image; rig = l.rig }

-- a test that fails does not hold
fails : {b : Bool} → b ≡ false → b ≢ true
fails e t = tests_differ t e

-- a step that is not accepted leaves the rig, and so does a call
step_said : (r : System) (s : Step) → is_accepted (step_answer r s) ≡ true → is_accepted (step r s).report.answer ≡ true
unfolding step answered
step_said r s e = rw e refl

step_stays : (r : System) (s : Step) → is_accepted (step r s).report.answer ≢ true → (step r s).system ≡ r
step_stays r s out = either (is_accepted (step_answer r s)) (λ e. absurd (out (step_said r s e))) (λ e. ap (λ (q : Stepped). q.system) (step_refused r s (step_answer r s) refl e))

ruled_said : (r : System) (d : ProcessorId) → is_accepted (ruled_dispatch r d).answer ≡ true
unfolding ruled_dispatch
ruled_said r d = refl

call_stays : (r : System) (d : ProcessorId) → is_accepted (dispatched r d).answer ≢ true → (dispatched r d).system ≡ r
call_stays r d =
    dispatched_cases (λ q. is_accepted q.answer ≢ true → q.system ≡ r) r d (λ a out. refl) (λ ok at out. absurd (out (ruled_said r d)))

-- the step and the call of the rig in the bytes
module _ {b : List ℕ} {r : System} (h : Holds b r) where
  pub live_step_lem : (s : Step) → live_step b s ≡ step r s
  unfolding live_step
  live_step_lem s = rw (h.image, h.rig) refl

  pub live_call : (d : ℕ) → live_dispatch b d ≡ dispatched r (processor_id (byte_given d))
  unfolding live_dispatch
  live_call d = rw (h.image, h.rig) refl

-- a call that was answered by 20 changes nothing; any other leaves the image of the rig that its event leaves
short_press : {b after : List ℕ} {kind task number : ℕ} {r : System} → Holds b r → PressMeets b kind task number false after → Holds after r
short_press {b} h m = rw (m.meets.short (fails (sym m.enough))).1 h

press_holds : {b after : List ℕ} {kind task number : ℕ} {r : System} → Holds b r → PressMeets b kind task number true after
    → Holds after (step r (step_given kind task number)).system
press_holds {b} {after} {kind} {task} {number} {r} h m =
    let s = step_given kind task number in
    let e = live_step_lem h s in
    let room = sym m.enough in
    either (is_accepted (step r s).report.answer)
    (λ good. let l = m.meets.accepted room (ap (λ (q : Stepped). is_accepted q.report.answer) e ∙ good) in rw e at (left_holds l))
    (λ bad.
    let same = m.meets.refused room (λ t. tests_differ (sym (ap (λ (q : Stepped). is_accepted q.report.answer) e) ∙ t) bad) in
    rw (same, step_stays r s (fails bad)) h)

short_ask : {b after : List ℕ} {d : ℕ} {r : System} → Holds b r → AskMeets b d false after → Holds after r
short_ask {b} h m = rw (m.meets.short (fails (sym m.enough))).1 h

ask_holds : {b after : List ℕ} {d : ℕ} {r : System} → Holds b r → AskMeets b d true after → Holds after (dispatched r (processor_id (byte_given d))).system
ask_holds {b} {after} {d} {r} h m =
    let k = processor_id (byte_given d) in
    let e = live_call h d in
    let room = sym m.enough in
    either (is_accepted (dispatched r k).answer)
    (λ good. let l = m.meets.accepted room (ap (λ (q : Dispatched). is_accepted q.answer) e ∙ good) in rw e at (left_holds l))
    (λ bad.
    let same = (m.meets.refused room (λ t. tests_differ (sym (ap (λ (q : Dispatched). is_accepted q.answer) e) ∙ t) bad)).0 in
    rw (same, call_stays r k (fails bad)) h)

-- one call: the bytes then, and the reports that its caller is given
pub record One (b : List ℕ) (r : System) (c : LiveCall) (room : Bool) (after : List ℕ) : Type 0 where
  pub holds : Holds after (happened r (pick room (event_of c ∷ []) [])).system
  pub reports : pick room (reports_by b c) [] ≡ (happened r (pick room (event_of c ∷ []) [])).reports

one_call : {b after : List ℕ} {r : System} → Holds b r → (c : LiveCall) (room : Bool) → MeetsBy b c room after → One b r c room after
unfolding MeetsBy happened happens event_of reports_by
one_call h (press kind task number) true m =
    record { holds = press_holds h m; reports = ap (λ (q : Stepped). q.report ∷ []) (live_step_lem h (step_given kind task number)) }
one_call h (press kind task number) false m = record { holds = short_press h m; reports = refl }
one_call h (ask d) true m = record { holds = ask_holds h m; reports = ap made_reports (live_call h d) ∙ sym (append-nil _) }
one_call h (ask d) false m = record { holds = short_ask h m; reports = refl }

-- events one behind the other
events_append : (r : System) (es fs : List Event)
    → ((happened r (es ++ fs)).system ≡ (happened (happened r es).system fs).system)
    × ((happened r (es ++ fs)).reports ≡ (happened r es).reports ++ (happened (happened r es).system fs).reports)
unfolding happened
events_append r [] fs = (refl, refl)
events_append r (e ∷ es) fs =
    let a = happens r e in
    let (s, q) = events_append a.system es fs in
    (s, ap (◌++◌ a.reports) q ∙ sym (append_assoc a.reports (happened a.system es).reports _))

-- all calls
pub record Plays (b : List ℕ) (r : System) (xs : List Made) : Type 0 where
  pub holds : Holds (last_of b xs) (happened r (events_of xs)).system
  pub reports : reports_of b xs ≡ (happened r (events_of xs)).reports

pub plays : (xs : List Made) {b : List ℕ} {r : System} → Holds b r → Played b xs → Plays b r xs
unfolding Played last_of events_of reports_of happened
plays [] h p = record { holds = h; reports = refl }
plays (x ∷ xs) {b} {r} h p =
    let e = pick x.room (event_of x.made ∷ []) [] in
    let first = one_call h x.made x.room p.0 in
    let later = plays xs first.holds p.1 in
    let (s, q) = events_append r e (events_of xs) in
    record {
      holds = rw s later.holds;
      reports = ap (λ (l : List Report). l ++ reports_of x.after xs) first.reports ∙ ap (◌++◌ (happened r e).reports) later.reports ∙ sym q;
    }

-- a start that is answered by 0
accepted_zero : (a : PlanAnswer) → answer_number a ≡ 0 → a ≡ Ok tt
accepted_zero a e = grind (arith, e)

module _ (n : ℕ) (plan before b : List ℕ) (m : StartMeets n plan before 0 b) where
  zero_start : start_number n plan ≡ 0
  zero_start =
      either (eqb (start_number n plan) 0) (λ e. eqb-true (start_number n plan) 0 e)
      (λ e. let q : 0 ≡ start_number n plan = rw e at m.answer in sym q)

  start_accepted : start_answer n plan ≡ Ok tt
  unfolding start_number
  start_accepted = accepted_zero (start_answer n plan) zero_start

  desks : within 1 6 n ≡ true
  unfolding start_answer
  desks = (unless_accepted (within 1 6 n) BadProcessors (file_answer plan) start_accepted).0

  file_ok : file_answer plan ≡ Ok tt
  unfolding start_answer
  file_ok = (unless_accepted (within 1 6 n) BadProcessors (file_answer plan) start_accepted).1

  plan_ok : plan_answer (programs (plan_read plan).plan) ≡ Ok tt
  unfolding plan_read
  plan_ok = let p = file_plan_lem plan file_ok in rw (file_ok, meaning_canonical (file_programs plan) p) p

  pub live : (xs : List Made) → Played b xs → LiveDemand3 n (plan_read plan).plan b xs
  live xs p =
      let q = plays xs (left_holds (m.rig refl)) p in
      record {
        reports = q.reports;
        image = q.holds.image;
        rig = q.holds.rig;
        demand = mixed_demand_3 n (plan_read plan).plan (events_of xs) (within_low 1 6 n desks) (within_high 1 6 n desks) plan_ok;
      }

pub live_demand_3 : LiveClaim
live_demand_3 n plan before b xs m p = live n plan before b m xs p
