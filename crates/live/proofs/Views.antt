-- What the views answer and leave, by what was found.
use mathlib.Core.Path.{◌≡◌, refl, sym, ap, ◌∙◌}
use mathlib.Core.Logic.{◌≢◌}
use mathlib.Core.Bool.{Bool, true, false, ◌&&◌}
use mathlib.Core.List.{List, ◌++◌}
use Prim.Native.Nat.{ℕ, zero, suc, ◌+◌, ◌≤◌, ◌<◌}
use native.Mathlib.Omega.{arith}
use lib.ListN.{length, drop}
use borrow.Author.Tests.{le-leb, lt-leb}
use Rattle.std.specs.Prelude.{Ok, Err}
use Rattle.base.specs.Choice.{pick, unless}
use Rattle.base.specs.Sets.{member, size}
use Rattle.base.proofs.Choices.{pick_either}
use Rattle.plan.specs.declared.TaskId.{TaskId}
use Rattle.plan_write.specs.output.Output.{overlay}
use Rattle.plan_write.proofs.output.Overlay.{overlay_front}
use Rattle.rules.specs.declared.step.StepRefusal.{StepRefusal}
use Rattle.rules.specs.declared.step.StepRefusal.TheVariants.{BadSystem, NoTask}
use Rattle.rules.specs.Answers.{TabletAnswer, DriverAnswer}
use Rattle.rules.specs.declared.view.TabletView.{TabletView}
use Rattle.rules.specs.declared.view.DriverView.{DriverView}
use Rattle.rules.specs.declared.task.Task.{Task}
use Rattle.rules.specs.Numbers.{task_id, task_number_ok}
use Rattle.rules.specs.Sound.{system_ok}
use Rattle.rules.specs.Systems.{task_at}
use Rattle.rules.specs.Views.{tablet_view, driver_view, tablet_of, driver_of}
use Rattle.image.specs.Numbers.{number_bytes}
use Rattle.image.specs.Image.{rig_of, is_image}
use Rattle.live_rig.specs.declared.found.Found.{Found}
use Rattle.image.specs.Live.{held, byte_given, tablet_bytes, driver_bytes, tablet_number, tablet_output, driver_number, driver_output, live_tablet, live_driver, TabletMeets, DriverMeets}
use Rattle.live_rig.specs.Open.{sound}
use Rattle.live_rig.specs.Shows.{Finds}

-- at most n of 1 .. n are in a set
pub size_few : (n s : ℕ) → size n s ≤ n
unfolding size
size_few zero s = omega arith
size_few (suc n) s = pick_either (λ (k : ℕ). size n s + k ≤ suc n) (member (suc n) s) 1 0 (omega (arith, size_few n s)) (omega (arith, size_few n s))

-- the answer of a view: 9 by two tests, 10 by a third
abbrev answered : {A : Type 0} → (StepRefusal → A) → A → Bool → Bool → A
answered refused shown s k = unless s (refused BadSystem) (unless k (refused NoTask) shown)

by_two : {A : Type 0} (refused : StepRefusal → A) (shown : A) (i s k : Bool) → pick i (answered refused shown s k) (refused BadSystem) ≡ answered refused shown (i && s) k
by_two refused shown true s k = refl
by_two refused shown false s k = refl

-- its number and the output then, where something was found and where nothing was
module _ {A : Type 0} (refused : StepRefusal → A) (shown : A) (number : A → ℕ) (output : A → List ℕ) (out : List ℕ)
    (nine : number (refused BadSystem) ≡ 9) (ten : number (refused NoTask) ≡ 10) (none : number shown ≡ 0)
    (kept9 : output (refused BadSystem) ≡ out) (kept10 : output (refused NoTask) ≡ out) where
  outcome_refused : (s k : Bool) {f : ℕ} → f ≡ unless s 9 (unless k 10 0) → f ≢ 0 → (f ≡ number (answered refused shown s k)) × (out ≡ output (answered refused shown s k))
  outcome_refused false k e n = (e ∙ sym nine, sym kept9)
  outcome_refused true false e n = (e ∙ sym ten, sym kept10)
  outcome_refused true true e n = absurd (n e)

  outcome_shown : (s k : Bool) {f : ℕ} → f ≡ unless s 9 (unless k 10 0) → f ≡ 0 → (0 ≡ number (answered refused shown s k)) × (output shown ≡ output (answered refused shown s k))
  outcome_shown false k e z = absurd (omega arith)
  outcome_shown true false e z = absurd (omega arith)
  outcome_shown true true e z = (sym none, refl)

module _ (b : List ℕ) (t : ℕ) (out : List ℕ) where
  abbrev asked : TaskId
  asked = task_id (byte_given t)

  abbrev there : Bool
  there = task_number_ok (rig_of (held b)).plan.tasks asked

  abbrev tablet_there : TabletAnswer
  tablet_there = Ok (tablet_view asked (task_at (rig_of (held b)) asked))

  abbrev driver_there : DriverAnswer
  driver_there = Ok (driver_view asked (task_at (rig_of (held b)) asked))

  tablet_is : live_tablet b t ≡ answered Err tablet_there (sound (held b)) there
  unfolding live_tablet tablet_of
  tablet_is = by_two Err tablet_there (is_image (held b)) (system_ok (rig_of (held b))) there

  driver_is : live_driver b t ≡ answered Err driver_there (sound (held b)) there
  unfolding live_driver driver_of
  driver_is = by_two Err driver_there (is_image (held b)) (system_ok (rig_of (held b))) there

  pub tablet_short : length out < 4 → TabletMeets b t out 20 out
  tablet_short h = record { answer = rw (lt-leb 4 (length out) h) refl; output = rw (lt-leb 4 (length out) h) refl }

  pub driver_short : length out < 21 → DriverMeets b t out 20 out
  driver_short h = record { answer = rw (lt-leb 21 (length out) h) refl; output = rw (lt-leb 21 (length out) h) refl }

  module _ {f : Found} (g : Finds (held b) asked f) where
    pub tablet_refused : 4 ≤ length out → f.number ≢ 0 → TabletMeets b t out f.number out
    tablet_refused h n =
        let o = outcome_refused Err tablet_there tablet_number (λ a. tablet_output a out) out refl refl refl refl refl (sound (held b)) there g.number_is n in
        record { answer = rw (le-leb 4 (length out) h, tablet_is) o.0; output = rw (le-leb 4 (length out) h, tablet_is) o.1 }

    pub driver_refused : 21 ≤ length out → f.number ≢ 0 → DriverMeets b t out f.number out
    driver_refused h n =
        let o = outcome_refused Err driver_there driver_number (λ a. driver_output a out) out refl refl refl refl refl (sound (held b)) there g.number_is n in
        record { answer = rw (le-leb 21 (length out) h, driver_is) o.0; output = rw (le-leb 21 (length out) h, driver_is) o.1 }

    pub tablet_shown : 4 ≤ length out → f.number ≡ 0 → {after : List ℕ} → after ≡ tablet_bytes (tablet_view asked f.task) ++ drop 4 out → TabletMeets b t out 0 after
    tablet_shown h n e =
        let o = outcome_shown Err tablet_there tablet_number (λ a. tablet_output a out) out refl refl refl refl refl (sound (held b)) there g.number_is n in
        let x = g.task_is (sym g.number_is ∙ n) in
        record {
          answer = rw (le-leb 4 (length out) h, tablet_is) o.0;
          output = rw (le-leb 4 (length out) h, tablet_is) (e ∙ ap (λ (y : Task). tablet_bytes (tablet_view asked y) ++ drop 4 out) x ∙ o.1);
        }

    pub driver_shown : 21 ≤ length out → f.number ≡ 0 → {after : List ℕ} → after ≡ driver_bytes (driver_view asked f.task) ++ drop 21 out → DriverMeets b t out 0 after
    driver_shown h n e =
        let o = outcome_shown Err driver_there driver_number (λ a. driver_output a out) out refl refl refl refl refl (sound (held b)) there g.number_is n in
        let x = g.task_is (sym g.number_is ∙ n) in
        record {
          answer = rw (le-leb 21 (length out) h, driver_is) o.0;
          output = rw (le-leb 21 (length out) h, driver_is) (e ∙ ap (λ (y : Task). driver_bytes (driver_view asked y) ++ drop 21 out) x ∙ o.1);
        }

-- the bytes of a record were put
pub put_tablet : {bytes after : List ℕ} (out : List ℕ) (v : TabletView) → bytes ≡ tablet_bytes v → after ≡ overlay out 0 bytes → after ≡ tablet_bytes v ++ drop 4 out
put_tablet {bytes} out v e h = h ∙ overlay_front out bytes ∙ ap (λ (x : List ℕ). x ++ drop (length x) out) e

pub put_driver : {bytes after : List ℕ} (out : List ℕ) (v : DriverView) → bytes ≡ driver_bytes v → after ≡ overlay out 0 bytes → after ≡ driver_bytes v ++ drop 21 out
unfolding number_bytes
put_driver {bytes} out v e h = h ∙ overlay_front out bytes ∙ ap (λ (x : List ℕ). x ++ drop (length x) out) e
