-- What a step of bytes says and leaves, where 9 refuses them and where it does not; and the same with bytes behind them.
use mathlib.Core.Path.{◌≡◌, refl, sym, ap, ◌∙◌}
use mathlib.Core.Logic.{◌≢◌}
use mathlib.Core.Bool.{Bool, true, false, ◌&&◌}
use mathlib.Core.List.{List, ◌++◌}
use Prim.Native.Nat.{ℕ, ◌<◌, ◌≤◌}
use native.Mathlib.Omega.{arith}
use lib.Dec.{leb}
use lib.ListN.{length, take, drop, take-append-drop}
use lib.Seq.{take_at}
use borrow.Author.Tests.{le-leb, lt-leb}
use Rattle.std.specs.Prelude.{None, Err}
use Rattle.base.specs.Choice.{pick}
use Rattle.base.proofs.Tests.{and_left, tests_differ}
use Rattle.rules.specs.declared.step.Report.{Report}
use Rattle.rules.specs.declared.step.Step.{Step}
use Rattle.rules.specs.declared.step.Stepped.{Stepped}
use Rattle.rules.specs.declared.step.StepRefusal.TheVariants.{BadSystem}
use Rattle.rules.specs.declared.system.System.{System}
use Rattle.rules.specs.Answers.{is_accepted, step_number}
use Rattle.rules.specs.Logs.{log_record}
use Rattle.rules.specs.Sound.{system_ok}
use Rattle.rules.specs.Steps.{step, refused}
use Rattle.rules_laws.proofs.Shapes.{step_plan, step_processors}
use Rattle.rules_laws.proofs.Steps.{step_cases}
use Rattle.plan_write.specs.output.Output.{overlay}
use Rattle.plan_write.proofs.output.Overlay.{overlay_front}
use Rattle.board.specs.declared.act.Size.{Size}
use Rattle.board.specs.Lent.{Lent}
use Rattle.rig_step.proofs.Parts.{bad_system}
use Rattle.image.specs.Image.{image, rig_of, is_image, rig_size}
use Rattle.rig_write.specs.Mail.{mail_bytes}
use Rattle.rig_write.specs.Written.{lent_written}
use Rattle.rig_write.proofs.Loans.{mail_of, back_in}
use Rattle.image.specs.Live.{held, live_step, Left, word_record, StepMeets}
use Rattle.live_rig.specs.Open.{sound}
use Rattle.live_rig.specs.Turns.{Planned, Holds, step_in, SteppedIn, SteppedHeld}
use Rattle.live_rig.specs.Calls.{StepLeft}
use Rattle.live_rig.proofs.Left.{holds_left}
use Rattle.live_rig.proofs.Turns.{Small, written_holds}

abbrev nine : Report
nine = record { answer = Err BadSystem; received = None }

-- 9 refuses the bytes
refused_report : (r : System) (s : Step) (i o : Bool) → system_ok r ≡ o → i && o ≡ false → nine ≡ (pick i (step r s) (refused r (Err BadSystem))).report
refused_report r s false o e h = refl
refused_report r s true true e h = absurd (tests_differ {b = true} refl h)
refused_report r s true false e h = ap (λ (q : Stepped). q.report) (bad_system r s e)

pub bad_bytes : (b : List ℕ) (s : Step) → sound b ≡ false → SteppedIn b s nine b
bad_bytes b s h =
    record {
      report = refused_report (rig_of b) s (is_image b) (system_ok (rig_of b)) refl h;
      refused = λ n. refl;
      accepted = λ a. absurd (tests_differ a refl);
    }

-- it does not
module _ (b : List ℕ) (s : Step) (ok : sound b ≡ true) where
  pub image_here : is_image b ≡ true
  image_here = and_left (is_image b) (system_ok (rig_of b)) ok

  step_here : step_in b s ≡ step (rig_of b) s
  step_here = rw image_here refl

  pub step_refused : (q : Report) → q ≡ (step (rig_of b) s).report → is_accepted q.answer ≡ false → SteppedIn b s q b
  step_refused q e f =
      record {
        report = e ∙ ap (λ (x : Stepped). x.report) (sym step_here);
        refused = λ n. refl;
        accepted = λ a. absurd (tests_differ a f);
      }

  pub step_accepted : (q : Report) {b' : List ℕ} → q ≡ (step (rig_of b) s).report → is_accepted q.answer ≡ true → Holds (step (rig_of b) s).system b' → SteppedIn b s q b'
  step_accepted q e f h =
      record {
        report = e ∙ ap (λ (x : Stepped). x.report) (sym step_here);
        refused = λ n. absurd (n f);
        accepted = λ a. rw step_here h;
      }

-- the mail back as it was
back_same : (b : List ℕ) → back_in b (mail_of b) ≡ b
back_same b = ap (λ (z : List ℕ). take 30024 b ++ z) (take-append-drop 4096 (drop 30024 b)) ∙ take-append-drop 30024 b

-- a refused step leaves the rig
refused_same : (r : System) (s : Step) → is_accepted (step r s).report.answer ≡ false → (step r s).system ≡ r
refused_same r s = step_cases r s (λ (o : Stepped). is_accepted o.report.answer ≡ false → o.system ≡ r) (λ e f. refl) (λ e f. absurd (tests_differ {b = true} refl f))

-- a step on what is lent and on the mail's bytes, and the rig written
module _ (b lengths codes users : List ℕ) (tasks : ℕ) (p : Planned b lengths codes users tasks) (ok : sound b ≡ true) (s : Step) {n : Size} {l' : Lent} {mail last : List ℕ} {used : ℕ} (q : Report)
    (h : StepLeft lengths codes users n (rig_of b) s q used l' mail last) where
  pub turn_refused : mail_of b ≡ mail_bytes (rig_of b).network → is_accepted q.answer ≡ false → SteppedIn b s q (back_in b mail)
  turn_refused m f =
      let same = refused_same (rig_of b) s (sym (ap (λ (x : Report). is_accepted x.answer) h.report) ∙ f) in
      let back : mail ≡ mail_of b = h.on.mail_in_lem.bytes ∙ ap (λ (r : System). mail_bytes r.network) same ∙ sym m in
      rw (back, back_same b) (step_refused b s ok q h.report f)

  pub turn_written : is_accepted q.answer ≡ true → Small l' last → {after : List ℕ} → after ≡ lent_written (back_in b mail) l' used last → SteppedIn b s q after
  turn_written f z w =
      let r = rig_of b in
      step_accepted b s ok q h.report f
      (written_holds h.on z b lengths codes users tasks p (image_here b s ok) (step_processors r s) (step_plan r s) refl w)

-- bytes behind them
module _ (b : List ℕ) (s : Step) (q : Report) where
  pub short_stepped : SteppedIn (held b) s q (held b) → is_accepted q.answer ≡ false → SteppedHeld b s q b
  unfolding live_step
  short_stepped h f = record { report = h.report; refused = λ n. refl; accepted = λ a. absurd (tests_differ a f) }

  pub held_stepped : {b' : List ℕ} → SteppedIn (held b) s q b' → SteppedHeld b s q (b' ++ drop rig_size b)
  unfolding live_step
  held_stepped {b'} h =
      record {
        report = h.report;
        refused = λ n. ap (λ (z : List ℕ). z ++ drop rig_size b) (h.refused n) ∙ take-append-drop rig_size b;
        accepted = λ a. holds_left b (h.accepted a);
      }
