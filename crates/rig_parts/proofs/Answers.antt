-- A verdict by an answer that is found test by test.
use mathlib.Core.Path.{◌≡◌, refl, sym, ◌∙◌}
use mathlib.Core.Bool.{Bool, true, false, true≢false}
use Rattle.std.specs.Prelude.{Ok, Err}
use Rattle.base.specs.Choice.{unless}
use Rattle.base.proofs.Answers.{err_not_ok}
use Rattle.rules.specs.Answers.{StepAnswer}
use Rattle.rules.specs.declared.step.StepRefusal.{StepRefusal}
use Rattle.rules.specs.declared.step.StepRefusal.TheVariants.{NetworkFull}
use Rattle.rules.specs.Answers.{is_accepted}
use Rattle.rules_laws.proofs.Steps.{accepted_is}
use Rattle.rig_parts.specs.declared.change.Change.{Change}
use Rattle.rig_parts.specs.Answers.{Verdict}
use Rattle.rig_parts.specs.Answers.{unless_refused, verdict_of}

-- a refusal is not accepted
pub not_accepted : (q : StepRefusal) → is_accepted (Err q) ≡ false
not_accepted q = go (is_accepted (Err q)) refl
  where
    go : (b : Bool) → is_accepted (Err q) ≡ b → is_accepted (Err q) ≡ false
    go true e = absurd (err_not_ok q tt (accepted_is (Err q) e))
    go false e = e

-- one test, whose refusal is a; behind it stand two answers
pub refused_unless : (v w : Verdict) (ok : Bool) (a b c : StepAnswer) → is_accepted a ≡ false → (ok ≡ true → unless_refused b v ≡ unless_refused c w)
    → unless_refused (unless ok a b) v ≡ unless_refused (unless ok a c) w
refused_unless v w true a b c z h = h refl
refused_unless v w false (Ok tt) b c z h = absurd (true≢false z)
refused_unless v w false (Err q) b c z h = refl

-- the last test of a run
pub fitting_answer : (k : Change) (ok : Bool) → unless ok (Err NetworkFull) (Ok k) ≡ verdict_of k (unless ok (Err NetworkFull) (Ok tt))
fitting_answer k true = refl
fitting_answer k false = refl

-- what is accepted behind a test has passed it
pub passed : (ok : Bool) (a b : StepAnswer) → is_accepted a ≡ false → is_accepted (unless ok a b) ≡ true → (ok ≡ true) × (is_accepted b ≡ true)
passed true a b z h = (refl, h)
passed false a b z h = absurd (true≢false (sym h ∙ z))
