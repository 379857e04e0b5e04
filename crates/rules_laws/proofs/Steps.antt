-- A step is refused or accepted; what an accepted step has passed; steps one list after the other, and what they receive.
use mathlib.Core.Path.{◌≡◌, refl, sym, ap}
use mathlib.Core.Bool.{Bool, true, false}
use mathlib.Core.List.{List, [], ◌∷◌, ◌++◌, append_assoc}
use Prim.Native.Nat.{ℕ}
use native.Mathlib.Omega.{arith}
use Rattle.std.specs.Prelude.{Ok, Err}
use Rattle.base.proofs.Answers.{err_not_ok}
use Rattle.base.proofs.Choices.{unless_not_refused}
use Rattle.plan.specs.declared.ChannelId.{ChannelId}
use Rattle.rules.specs.declared.step.Step.{Step}
use Rattle.rules.specs.Answers.{StepAnswer}
use Rattle.rules.specs.declared.step.StepRefusal.TheVariants.{BadSystem, NoTask, NotReady, FinishWithChildren, NetworkFull, NoMessage, NoProcessor, AlreadyThere, MoveWithChildren, MovesSpent, BadStep}
use Rattle.rules.specs.declared.step.Report.{Report}
use Rattle.rules.specs.declared.step.Stepped.{Stepped}
use Rattle.rules.specs.declared.system.System.{System}
use Rattle.rules.specs.Answers.{is_accepted}
use Rattle.rules.specs.Sound.{system_ok}
use Rattle.rules.specs.Steps.{well_formed, kind_answer, ruled_answer, step_answer, performed, refused, accepted, answered, step, ruled_step, steps_by, word_on, received_on}

-- only one answer has number 0
pub accepted_is : (a : StepAnswer) → is_accepted a ≡ true → a ≡ Ok tt
accepted_is (Ok tt) h = refl
accepted_is (Err BadSystem) h = cc
accepted_is (Err NoTask) h = cc
accepted_is (Err NotReady) h = cc
accepted_is (Err FinishWithChildren) h = cc
accepted_is (Err NetworkFull) h = cc
accepted_is (Err NoMessage) h = cc
accepted_is (Err NoProcessor) h = cc
accepted_is (Err AlreadyThere) h = cc
accepted_is (Err MoveWithChildren) h = cc
accepted_is (Err MovesSpent) h = cc
accepted_is (Err BadStep) h = cc

module _ (r : System) (s : Step) where
  pub step_refused : (a : StepAnswer) → step_answer r s ≡ a → is_accepted a ≡ false → step r s ≡ refused r a
  unfolding step answered
  step_refused a e h = rw (e, h) refl

  pub step_accepted : step_answer r s ≡ Ok tt → step r s ≡ accepted (performed r s)
  unfolding step answered
  step_accepted e = rw e refl

  -- what holds of each refusal and of the acceptance holds of the step
  pub step_cases : (P : Stepped → Type 0) → (is_accepted (step_answer r s) ≡ false → P (refused r (step_answer r s)))
      → (step_answer r s ≡ Ok tt → P (accepted (performed r s)))
      → P (step r s)
  step_cases P f g = go (is_accepted (step_answer r s)) refl
    where
      go : (b : Bool) → is_accepted (step_answer r s) ≡ b → P (step r s)
      go true e = let a = accepted_is (step_answer r s) e in rw (step_accepted a) (g a)
      go false e = rw (step_refused (step_answer r s) refl e) (f e)

-- where 9 does not refuse the rig, it need not be tested
pub ruled_step_lem : (r : System) (s : Step) → system_ok r ≡ true → ruled_step r s ≡ step r s
unfolding ruled_step step step_answer
ruled_step_lem r s h = rw h refl

-- what is reported
pub step_answer_lem : (r : System) (s : Step) → (step r s).report.answer ≡ step_answer r s
step_answer_lem r s = step_cases r s (λ o. o.report.answer ≡ step_answer r s) (λ e. refl) (λ e. sym e)

-- an accepted step has passed the tests of the rig, of the step and of its rule
pub record StepPassed (r : System) (s : Step) : Type 0 where
  pub system : system_ok r ≡ true
  pub form : well_formed s ≡ true
  pub rule : kind_answer r s ≡ Ok tt

pub step_passed : (r : System) (s : Step) → step_answer r s ≡ Ok tt → StepPassed r s
unfolding step_answer ruled_answer
step_passed r s h =
    let (o, h₁) = unless_not_refused (system_ok r) (Err BadSystem) _ (Ok tt) (err_not_ok _ _) h in
    let (f, a) = unless_not_refused (well_formed s) (Err BadStep) (kind_answer r s) (Ok tt) (err_not_ok _ _) h₁ in
    record { system = o; form = f; rule = a }

-- steps, then more steps, one by one in any way
module _ (one : System → Step → Stepped) where
  pub steps_by_system : (r : System) (xs ys : List Step) → (steps_by one r (xs ++ ys)).system ≡ (steps_by one (steps_by one r xs).system ys).system
  unfolding steps_by
  steps_by_system r [] ys = refl
  steps_by_system r (x ∷ xs) ys = steps_by_system (one r x).system xs ys

  pub steps_by_reports : (r : System) (xs ys : List Step)
      → (steps_by one r (xs ++ ys)).reports ≡ (steps_by one r xs).reports ++ (steps_by one (steps_by one r xs).system ys).reports
  unfolding steps_by
  steps_by_reports r [] ys = refl
  steps_by_reports r (x ∷ xs) ys = ap (λ (qs : List Report). (one r x).report ∷ qs) (steps_by_reports (one r x).system xs ys)

pub received_on_append : (c : ChannelId) (ps qs : List Report) → received_on c (ps ++ qs) ≡ received_on c ps ++ received_on c qs
unfolding received_on
received_on_append c [] qs = refl
received_on_append c (p ∷ ps) qs = rw (received_on_append c ps qs) (sym (append_assoc (word_on c p.received) (received_on c ps) (received_on c qs)))
