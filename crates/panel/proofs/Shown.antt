-- The outcome of a panel after a step file, in the order 1 to 6, 8.
use mathlib.Core.Path.{◌≡◌, refl, ◌∙◌}
use mathlib.Core.Bool.{true, false}
use mathlib.Core.List.{List}
use Prim.Native.Nat.{ℕ}
use native.Mathlib.Omega.{arith}
use Rattle.std.specs.Prelude.{Ok, Err}
use Rattle.base.specs.Choice.{within}
use Rattle.plan.specs.declared.Refusal.{Refusal}
use Rattle.plan.specs.declared.Refusal.TheVariants.{BadProcessors}
use Rattle.plan.specs.Files.{file_answer, start_answer}
use Rattle.rules.specs.Answers.{RunAnswer}
use Rattle.rules.specs.declared.step.RunRefusal.TheVariants.{Unstarted, BadSteps}
use Rattle.rules.specs.Panel.{panel}
use Rattle.rules.specs.StepFiles.{file_steps, start_of, steps_ok}
use Rattle.rules.specs.Steps.{steps}
use Rattle.panel.specs.Files.{PanelFile}

-- an accepted start
begun : (n : ℕ) (p : List ℕ) → within 1 6 n ≡ true → file_answer p ≡ Ok tt → start_answer n p ≡ Ok tt
unfolding start_answer
begun n p d a = rw d a

module _ (n : ℕ) (p b : List ℕ) {answer : RunAnswer} {counts : List ℕ} where
  -- refusals 1 to 6
  unstarted : (a : Refusal) → start_answer n p ≡ Err a → answer ≡ Err (Unstarted a) → PanelFile n p b answer counts
  unstarted a e h = record { answered = h ∙ rw e refl; counted = λ t. absurd (let z : ◌≡◌ {A = ℕ} 0 1 = cc in omega arith) }

  pub processors_refused : within 1 6 n ≡ false → answer ≡ Err (Unstarted BadProcessors) → PanelFile n p b answer counts
  unfolding start_answer
  processors_refused d h = unstarted BadProcessors (rw d refl) h

  pub file_refused : within 1 6 n ≡ true → (a : Refusal) → file_answer p ≡ Err a → answer ≡ Err (Unstarted a) → PanelFile n p b answer counts
  unfolding start_answer
  file_refused d a e h = unstarted a (rw d e) h

  -- refusal 8
  pub steps_refused : within 1 6 n ≡ true → file_answer p ≡ Ok tt → steps_ok b ≡ false → answer ≡ Err BadSteps → PanelFile n p b answer counts
  steps_refused d a e h = record { answered = h ∙ rw (begun n p d a, e) refl; counted = λ t. absurd (let z : ◌≡◌ {A = ℕ} 0 1 = cc in omega arith) }

  pub shown : within 1 6 n ≡ true → file_answer p ≡ Ok tt → steps_ok b ≡ true → counts ≡ panel (steps (start_of n p) (file_steps b)).system → answer ≡ Ok tt
      → PanelFile n p b answer counts
  shown d a e c h = record { answered = h ∙ rw (begun n p d a, e) refl; counted = λ t. c }
