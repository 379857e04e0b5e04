-- What a call of a desk's dispatcher leaves in the outputs, beside what it leaves of the rig.
use mathlib.Core.Path.{◌≡◌, refl, sym, ap, ◌∙◌}
use mathlib.Core.Logic.{◌≢◌}
use mathlib.Core.Bool.{Bool, true, false, ◌&&◌}
use mathlib.Core.List.{List, [], ◌∷◌, ◌++◌, append-nil, append_assoc}
use Prim.Native.Nat.{ℕ, ◌+◌, ◌*◌, ◌<◌, ◌≤◌}
use native.Mathlib.Nat.{zero-add}
use native.Mathlib.Omega.{arith}
use lib.Dec.{leb}
use lib.ListN.{length, drop, length-append}
use borrow.Author.Tests.{le-leb, lt-leb}
use Rattle.std.specs.Prelude.{None, Some}
use Rattle.base.specs.Choice.{pick, unless}
use Rattle.base.proofs.Tests.{tests_differ, and_true}
use Rattle.plan.specs.declared.ProcessorId.{ProcessorId}
use Rattle.rules.specs.Reports.{Received}
use Rattle.rules.specs.declared.dispatch.Dispatched.{Dispatched}
use Rattle.rules.specs.Reports.{Turn}
use Rattle.rules.specs.declared.step.Report.{Report}
use Rattle.rules.specs.declared.step.Step.{Step}
use Rattle.rules.specs.declared.system.System.{System}
use Rattle.rules.specs.Answers.{is_accepted, step_number}
use Rattle.rules.specs.Logs.{log_record}
use Rattle.rules.specs.Numbers.{processor_ok, processor_id}
use Rattle.rules.specs.Sound.{system_ok}
use Rattle.rules.specs.Dispatch.{dispatched, ruled_dispatch, step_of, report_of}
use Rattle.plan_write.specs.output.Output.{overlay}
use Rattle.plan_write.proofs.output.Overlay.{overlay_none, overlay_front, overlay_more}
use Rattle.image.specs.Image.{rig_of, is_image}
use Rattle.live_rig.specs.declared.desk_call.Call.{Call}
use Rattle.image.specs.Live.{held, byte_given, live_dispatch, word_record, step_bytes, report_bytes, all_step_bytes, all_report_bytes, made_steps, made_reports, dispatch_room, DispatchMeets}
use Rattle.live_rig.specs.Calls.{call_in, CalledHeld}
use Rattle.live_rig.proofs.Records.{word_long}

-- the bytes of a turn
pub step_put : (t : Turn) → length (all_step_bytes (step_of t)) ≡ 4 * length (step_of t)
unfolding all_step_bytes step_of
step_put None = refl
step_put (Some (s, q)) = refl

pub report_put : (t : Turn) → length (all_report_bytes (report_of t)) ≡ 11 * length (step_of t)
unfolding all_report_bytes report_of step_of
report_put None = refl
report_put (Some (s, q)) = rw (append-nil (word_record q.received), word_long q.received) refl

pub one_at_most : (t : Turn) → length (step_of t) ≤ 1
unfolding step_of
one_at_most None = omega arith
one_at_most (Some (s, q)) = omega arith

-- of two turns
steps_append : (t u : Turn) → all_step_bytes (step_of t ++ step_of u) ≡ all_step_bytes (step_of t) ++ all_step_bytes (step_of u)
unfolding all_step_bytes step_of
steps_append None u = refl
steps_append (Some (s, q)) u = refl

reports_append : (t u : Turn) → all_report_bytes (report_of t ++ report_of u) ≡ all_report_bytes (report_of t) ++ all_report_bytes (report_of u)
unfolding all_report_bytes report_of
reports_append None u = refl
reports_append (Some (s, q)) u = rw (append-nil (word_record q.received)) refl

-- an answer put, and a word's record behind it
pub report_told : (out : List ℕ) (at : ℕ) (q : Report) {n : ℕ} {one two : List ℕ} → at ≤ length out → n ≡ step_number q.answer
    → one ≡ overlay out at (n ∷ []) → two ≡ overlay one (at + 1) (word_record q.received) → two ≡ overlay out at (report_bytes q)
report_told out at q h e f g =
    g
    ∙ ap (λ (z : List ℕ). overlay z (at + 1) (word_record q.received)) (f ∙ ap (λ (k : ℕ). overlay out at (k ∷ [])) e)
    ∙ overlay_more out at (step_number q.answer ∷ []) (word_record q.received) h

-- a turn that was skipped, and one that was made
pub skip_put : (steps records : List ℕ) (count : ℕ) (t : Turn) → t ≡ None
    → (count ≡ count + length (step_of t)) × (steps ≡ overlay steps (4 * count) (all_step_bytes (step_of t))) × (records ≡ overlay records (11 * count) (all_report_bytes (report_of t)))
unfolding step_of report_of all_step_bytes all_report_bytes
skip_put steps records count t e = rw e (omega arith, sym (overlay_none steps (4 * count)), sym (overlay_none records (11 * count)))

pub made_put : (steps records : List ℕ) (count : ℕ) (t : Turn) (s : Step) (q : Report) {steps' records' : List ℕ} → t ≡ Some (s, q)
    → steps' ≡ overlay steps (4 * count) (step_bytes s) → records' ≡ overlay records (11 * count) (report_bytes q)
    → (count + 1 ≡ count + length (step_of t)) × (steps' ≡ overlay steps (4 * count) (all_step_bytes (step_of t))) × (records' ≡ overlay records (11 * count) (all_report_bytes (report_of t)))
unfolding step_of report_of all_step_bytes all_report_bytes
made_put steps records count t s q e f g = rw e (refl, f, g ∙ ap (overlay records (11 * count)) (sym (append-nil (report_bytes q))))

-- bytes put at the front, and more behind them
two_put : (out xs ys : List ℕ) (at : ℕ) {one two : List ℕ} → at ≡ length xs → one ≡ overlay out 0 xs → two ≡ overlay one at ys
    → two ≡ (xs ++ ys) ++ drop (length (xs ++ ys)) out
two_put out xs ys at e p q =
    rw (p, e) at q ∙ (rw (zero-add (length xs)) at (overlay_more out 0 xs ys (omega arith))) ∙ overlay_front out (xs ++ ys)

-- a refused call made no step
none_made : (r : System) (d : ProcessorId) → is_accepted (dispatched r d).answer ≢ true → ((dispatched r d).delivery ≡ None) × ((dispatched r d).run ≡ None)
none_made r d out = cases (system_ok r) (processor_ok r.processors d) refl refl
  where
    cases : (s p : Bool) → system_ok r ≡ s → processor_ok r.processors d ≡ p → ((dispatched r d).delivery ≡ None) × ((dispatched r d).run ≡ None)
    cases false p e f = unfold dispatched in rw e (refl, refl)
    cases true false e f = unfold dispatched in rw (e, f) (refl, refl)
    cases true true e f = absurd (out (unfold dispatched ruled_dispatch in rw (e, f) refl))

none_in : (b : List ℕ) (d : ProcessorId) → is_accepted (call_in b d).answer ≢ true → ((call_in b d).delivery ≡ None) × ((call_in b d).run ≡ None)
none_in b d out = cases (is_image b) refl
  where
    cases : (i : Bool) → is_image b ≡ i → ((call_in b d).delivery ≡ None) × ((call_in b d).run ≡ None)
    cases false e = rw e (refl, refl)
    cases true e = rw e (none_made (rig_of b) d (rw e at out))

-- then nothing is put
none_steps : {x y : Turn} (out : List ℕ) → x ≡ None → y ≡ None
    → all_step_bytes (step_of x ++ step_of y) ++ drop (length (all_step_bytes (step_of x ++ step_of y))) out ≡ out
unfolding all_step_bytes step_of
none_steps out e f = rw (e, f) refl

none_reports : {x y : Turn} (out : List ℕ) → x ≡ None → y ≡ None
    → all_report_bytes (report_of x ++ report_of y) ++ drop (length (all_report_bytes (report_of x ++ report_of y))) out ≡ out
unfolding all_report_bytes report_of
none_reports out e f = rw (e, f) refl

module _ (b : List ℕ) (d : ℕ) (steps records : List ℕ) where
  -- too little room
  pub dispatch_short : dispatch_room steps records ≡ false → DispatchMeets b d steps records 20 b steps records
  dispatch_short h =
      record {
        short = λ e. (refl, refl, refl, refl);
        answer = λ e. absurd (tests_differ e h);
        refused = λ e. absurd (tests_differ e h);
        accepted = λ e. absurd (tests_differ e h);
        made_steps_lem = λ e. absurd (tests_differ e h);
        made_records = λ e. absurd (tests_differ e h);
      }

  pub short_steps : length steps < 8 → dispatch_room steps records ≡ false
  short_steps h = rw (lt-leb 8 (length steps) h) refl

  pub short_records : 8 ≤ length steps → length records < 22 → dispatch_room steps records ≡ false
  short_records h g = rw (le-leb 8 (length steps) h, lt-leb 22 (length records) g) refl

  pub enough_room : 8 ≤ length steps → 22 ≤ length records → dispatch_room steps records ≡ true
  enough_room h g = rw (le-leb 8 (length steps) h, le-leb 22 (length records) g) refl

  -- the call was made
  module _ (room : dispatch_room steps records ≡ true) (q : Call) {after : List ℕ} (m : CalledHeld b (processor_id (byte_given d)) q after) where
    abbrev o : Dispatched
    o = call_in (held b) (processor_id (byte_given d))

    pub dispatch_meets : {one two : ℕ} {steps1 steps2 records1 records2 : List ℕ} {r : ℕ}
        → one ≡ 0 + length (step_of q.delivery) → two ≡ one + length (step_of q.run)
        → steps1 ≡ overlay steps (4 * 0) (all_step_bytes (step_of q.delivery)) → steps2 ≡ overlay steps1 (4 * one) (all_step_bytes (step_of q.run))
        → records1 ≡ overlay records (11 * 0) (all_report_bytes (report_of q.delivery)) → records2 ≡ overlay records1 (11 * one) (all_report_bytes (report_of q.run))
        → r ≡ step_number q.answer + 256 * (4 * two)
        → DispatchMeets b d steps records r after steps2 records2
    unfolding live_dispatch
    dispatch_meets {one} {two} {steps1} {steps2} {records1} {records2} {r} e1 e2 s1 s2 r1 r2 a =
        let x = q.delivery in
        let y = q.run in
        let put : steps2 ≡ all_step_bytes (step_of x ++ step_of y) ++ drop (length (all_step_bytes (step_of x ++ step_of y))) steps =
        two_put steps (all_step_bytes (step_of x)) (all_step_bytes (step_of y)) (4 * one) (omega (arith, step_put x, e1)) s1 s2
        ∙ ap (λ (z : List ℕ). z ++ drop (length z) steps) (sym (steps_append x y)) in
        let told : records2 ≡ all_report_bytes (report_of x ++ report_of y) ++ drop (length (all_report_bytes (report_of x ++ report_of y))) records =
        two_put records (all_report_bytes (report_of x)) (all_report_bytes (report_of y)) (11 * one) (omega (arith, report_put x, e1)) r1 r2
        ∙ ap (λ (z : List ℕ). z ++ drop (length z) records) (sym (reports_append x y)) in
        let long : length (all_step_bytes (step_of x ++ step_of y)) ≡ 4 * two =
        ap (λ (z : List ℕ). length z) (steps_append x y) ∙ length-append (all_step_bytes (step_of x)) (all_step_bytes (step_of y)) ∙ omega (arith, step_put x, step_put y, e1, e2) in
        let made : step_of x ++ step_of y ≡ made_steps o = rw (m.delivery, m.run) refl in
        let reported : report_of x ++ report_of y ≡ made_reports o = rw (m.delivery, m.run) refl in
        record {
          short = λ e. absurd (e room);
          answer = λ e. a ∙ rw (m.answer, ← made, long) refl;
          refused = λ e out. let (p, t) = none_in (held b) (processor_id (byte_given d)) out in (m.refused (λ z. out (rw m.answer at z)), put ∙ none_steps steps (m.delivery ∙ p) (m.run ∙ t), told ∙ none_reports records (m.delivery ∙ p) (m.run ∙ t));
          accepted = λ e good. m.accepted (rw m.answer good);
          made_steps_lem = λ e. rw (← made) put;
          made_records = λ e. rw (← reported) told;
        }
