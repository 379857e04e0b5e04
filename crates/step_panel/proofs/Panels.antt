-- The exported panel's outcome, by that of the panel after a step file.
use mathlib.Core.Path.{◌≡◌, refl, sym, ap, ◌∙◌}
use mathlib.Core.Bool.{Bool, true, false}
use mathlib.Core.Logic.{◌≢◌}
use mathlib.Core.List.{List, ◌++◌}
use Prim.Native.Nat.{ℕ, ◌≤◌, ◌<◌}
use native.Mathlib.Omega.{arith}
use lib.Dec.{leb}
use lib.ListN.{length, drop}
use borrow.Author.Tests.{leb-true, le-leb}
use Rattle.std.specs.Prelude.{Ok, Err}
use Rattle.base.proofs.Tests.{is_false}
use Rattle.plan.specs.Answers.{PlanAnswer}
use Rattle.plan.specs.declared.Refusal.{Refusal}
use Rattle.plan.specs.declared.Refusal.TheVariants.{BadProcessors, BadLayout, BadInstruction, BadFinish, BadCreate, BadChannel, OutputShort, BadRepeat, RepeatedCreate, TooLong}
use Rattle.plan.specs.Answers.{refusal_number}
use Rattle.plan.specs.Files.{start_answer}
use Rattle.rules.specs.Answers.{RunAnswer}
use Rattle.rules.specs.Answers.{run_number}
use Rattle.rules.specs.StepFiles.{steps_ok, start_of}
use Rattle.panel.specs.Files.{answer_before, PanelFile}
use Rattle.step_panel.specs.Panels.{panel_answer, PanelMeets}

refusal_some : (r : Refusal) → refusal_number r ≢ 0
refusal_some BadProcessors e = omega arith
refusal_some BadLayout e = omega arith
refusal_some BadInstruction e = omega arith
refusal_some BadFinish e = omega arith
refusal_some BadCreate e = omega arith
refusal_some BadChannel e = omega arith
refusal_some OutputShort e = omega arith
refusal_some BadRepeat e = omega arith
refusal_some RepeatedCreate e = omega arith
refusal_some TooLong e = omega arith

-- a refusal before the room is looked at stays, and is none of an accepted file
same_refusal : (x : PlanAnswer) (ok room : Bool) → run_number (answer_before x ok) ≢ 0 → panel_answer x ok room ≡ answer_before x ok
same_refusal (Err a) ok room h = refl
same_refusal (Ok tt) true room h = absurd (h refl)
same_refusal (Ok tt) false room h = refl

-- what is accepted before
passed : (x : PlanAnswer) (ok room : Bool) → run_number (answer_before x ok) ≡ 0 → (answer_before x ok ≡ Ok tt) × (panel_answer x ok room ≡ panel_answer (Ok tt) true room)
passed (Err a) ok room h = absurd (refusal_some a h)
passed (Ok tt) true room h = (refl, refl)
passed (Ok tt) false room h = absurd (omega arith)

module _ (n : ℕ) (p b before : List ℕ) {answer : RunAnswer} {counts : List ℕ} (s : PanelFile n p b answer counts) {r : ℕ} (number : r ≡ run_number answer) where
  numbered : r ≡ run_number (answer_before (start_answer n p) (steps_ok b))
  numbered = number ∙ ap run_number s.answered

  pub refused_panel : r ≢ 0 → PanelMeets n p b before r before
  refused_panel some =
      let x = start_answer n p in
      let ok = steps_ok b in
      let room = leb 27 (length before) in
      let same = same_refusal x ok room (λ e. some (numbered ∙ e)) in
      record {
        outcome = numbered ∙ sym (ap run_number same);
        counts = λ t. absurd (some (numbered ∙ sym (ap run_number same) ∙ ap run_number t));
        untouched = λ t. refl;
      }

  module _ (none : r ≡ 0) where
    accepted_before : (room : Bool) → (answer_before (start_answer n p) (steps_ok b) ≡ Ok tt) × (panel_answer (start_answer n p) (steps_ok b) room ≡ panel_answer (Ok tt) true room)
    accepted_before room = passed (start_answer n p) (steps_ok b) room (sym numbered ∙ none)

    pub short_panel : length before < 27 → PanelMeets n p b before 20 before
    short_panel few =
        let room : leb 27 (length before) ≡ false = is_false (leb 27 (length before)) (λ e. omega (arith, leb-true 27 (length before) e)) in
        let e = (accepted_before (leb 27 (length before))).1 ∙ ap (panel_answer (Ok tt) true) room in
        record {
          outcome = sym (ap run_number e);
          counts = λ t. absurd (let z = sym (ap run_number e) ∙ ap run_number t in omega arith);
          untouched = λ t. refl;
        }

    pub shown_panel : 27 ≤ length before → {after : List ℕ} → after ≡ counts ++ drop 27 before → PanelMeets n p b before 0 after
    unfolding start_of
    shown_panel room {after} h =
        let t = accepted_before (leb 27 (length before)) in
        let e = t.1 ∙ ap (panel_answer (Ok tt) true) (le-leb 27 (length before) room) in
        let shown = s.counted (s.answered ∙ t.0) in
        record {
          outcome = sym (ap run_number e);
          counts = λ z. h ∙ ap (λ (q : List ℕ). q ++ drop 27 before) shown;
          untouched = λ z. absurd (z e);
        }
