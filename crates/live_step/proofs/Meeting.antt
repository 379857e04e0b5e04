-- What the call of a step answers and leaves, by what the step of the rig says and leaves.
use mathlib.Core.Path.{◌≡◌, refl, ap, ◌∙◌}
use mathlib.Core.List.{List, ◌++◌}
use Prim.Native.Nat.{ℕ, ◌<◌, ◌≤◌}
use lib.Dec.{leb}
use lib.ListN.{length, drop}
use borrow.Author.Tests.{le-leb, lt-leb}
use Rattle.base.proofs.Tests.{tests_differ}
use Rattle.rules.specs.declared.step.Report.{Report}
use Rattle.rules.specs.declared.step.Step.{Step}
use Rattle.rules.specs.Answers.{step_number}
use Rattle.plan_write.specs.output.Output.{overlay}
use Rattle.plan_write.proofs.output.Overlay.{overlay_front}
use Rattle.image.specs.Live.{word_record, StepMeets}
use Rattle.live_rig.specs.Turns.{SteppedHeld}
use Rattle.live_rig.proofs.Records.{word_long}

module _ (b : List ℕ) (s : Step) (word : List ℕ) where
  pub step_short : length word < 10 → StepMeets b s word 20 b word
  step_short h =
      let f = lt-leb 10 (length word) h in
      record {
        short = λ n. (refl, refl, refl);
        answer = λ e. absurd (tests_differ e f);
        received = λ e. absurd (tests_differ e f);
        refused = λ e. absurd (tests_differ e f);
        accepted = λ e. absurd (tests_differ e f);
      }

  pub step_meets : (q : Report) {b' word' : List ℕ} {r : ℕ} → 10 ≤ length word → SteppedHeld b s q b' → r ≡ step_number q.answer
      → word' ≡ overlay word 0 (word_record q.received) → StepMeets b s word r b' word'
  step_meets q {b'} {word'} h k e w =
      let f = le-leb 10 (length word) h in
      let same = k.report in
      record {
        short = λ n. absurd (n f);
        answer = λ t. e ∙ ap (λ (x : Report). step_number x.answer) same;
        received =
            λ t.
            w
            ∙ overlay_front word (word_record q.received)
            ∙ ap (λ (i : ℕ). word_record q.received ++ drop i word) (word_long q.received)
            ∙ ap (λ (x : Report). word_record x.received ++ drop 10 word) same;
        refused = λ t n. k.refused (λ a. n (rw same at a));
        accepted = λ t a. k.accepted (rw same a);
      }
