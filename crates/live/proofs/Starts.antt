-- What the call of a start answers and leaves.
use mathlib.Core.Path.{◌≡◌, refl, sym, ap, ◌∙◌}
use mathlib.Core.Logic.{◌≢◌}
use mathlib.Core.Bool.{true, false}
use mathlib.Core.List.{List, ◌++◌}
use Prim.Native.Nat.{ℕ, ◌≤◌, ◌<◌}
use native.Mathlib.Omega.{arith}
use lib.ListN.{length, drop}
use borrow.Author.Tests.{le-leb, lt-leb, ne_eqb}
use Rattle.std.specs.Prelude.{Ok, Err}
use Rattle.base.specs.Choice.{within}
use Rattle.base.proofs.Tests.{within_low, within_high}
use Rattle.plan.specs.declared.Refusal.{Refusal}
use Rattle.plan.specs.declared.Refusal.TheVariants.{BadProcessors, BadLayout, BadInstruction, BadFinish, BadCreate, BadChannel, OutputShort, BadRepeat, RepeatedCreate, TooLong}
use Rattle.plan.specs.Answers.{refusal_number}
use Rattle.plan.specs.Files.{file_answer, start_answer}
use Rattle.plan.specs.Outcomes.{plan_read, start_number}
use Rattle.rules.specs.Starts.{started}
use Rattle.image.specs.Image.{image, rig_size}
use Rattle.image.specs.Live.{StartMeets}
use Rattle.image_laws.proofs.Started.{start_imaged}
use Rattle.live_rig.proofs.Left.{left}

-- a refusal has a number
refusal_some : (r : Refusal) → refusal_number r ≢ 0
refusal_some BadProcessors e = omega arith
refusal_some BadLayout e = omega arith
refusal_some BadInstruction e = omega arith
refusal_some BadFinish e = omega arith
refusal_some BadCreate e = omega arith
refusal_some BadChannel e = omega arith
refusal_some OutputShort e = omega arith
refusal_some BadRepeat e = omega arith
refusal_some RepeatedCreate e = omega arith
refusal_some TooLong e = omega arith

module _ (n : ℕ) (f before : List ℕ) where
  refused_start : (a : Refusal) → start_answer n f ≡ Err a → {r : ℕ} → r ≡ refusal_number a → StartMeets n f before r before
  unfolding start_number
  refused_start a e q =
      record {
        answer = rw (e, ne_eqb (refusal_number a) 0 (refusal_some a)) q;
        untouched = λ k. refl;
        rig = λ z. absurd (refusal_some a (sym q ∙ z));
      }

  pub processors_refused : within 1 6 n ≡ false → {r : ℕ} → r ≡ refusal_number BadProcessors → StartMeets n f before r before
  unfolding start_answer
  processors_refused d q = refused_start BadProcessors (rw d refl) q

  module _ (d : within 1 6 n ≡ true) where
    pub file_refused : (a : Refusal) → file_answer f ≡ Err a → {r : ℕ} → r ≡ refusal_number a → StartMeets n f before r before
    unfolding start_answer
    file_refused a e q = refused_start a (rw d e) q

    module _ (a : file_answer f ≡ Ok tt) where
      number : start_number n f ≡ 0
      unfolding start_number start_answer
      number = rw (d, a) refl

      pub short_start : length before < rig_size → StartMeets n f before 20 before
      short_start h =
          record { answer = rw (number, lt-leb rig_size (length before) h) refl; untouched = λ k. refl; rig = λ z. absurd (omega (arith, z)) }

      pub start_shown : rig_size ≤ length before → {front after : List ℕ} → front ≡ image (started n (plan_read f).plan) → after ≡ front ++ drop rig_size before
          → StartMeets n f before 0 after
      start_shown h {front} e q =
          record {
            answer = rw (number, le-leb rig_size (length before) h) refl;
            untouched = λ k. absurd (k refl);
            rig =
                λ z.
                left (started n (plan_read f).plan) (start_imaged n f (within_low 1 6 n d) (within_high 1 6 n d) a)
                (q ∙ ap (λ (x : List ℕ). x ++ drop rig_size before) e);
          }
