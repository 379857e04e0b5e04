-- All counts of a list of steps together, and a list of which no step gets 0.
use mathlib.Core.Path.{◌≡◌, refl, sym, ◌∙◌}
use mathlib.Core.Bool.{Bool, true, false, not, ◌&&◌}
use mathlib.Core.List.{List, [], ◌∷◌}
use Prim.Native.Nat.{ℕ, ◌+◌}
use native.Mathlib.Omega.{arith}
use lib.Dec.{eqb}
use lib.ListN.{length, get_or}
use borrow.Author.Tests.{eq-eqb, ne_eqb}
use Rattle.base.specs.Choice.{pick}
use Rattle.base.specs.Range.{sum_below}
use Rattle.base.specs.Lists.{every, count}
use Rattle.base.proofs.Folds.{fold_same}
use Rattle.base.proofs.Sums.{sum_const, sum_changed}
use Rattle.rules.specs.declared.step.Step.{Step}
use Rattle.rules.specs.declared.system.System.{System}
use Rattle.rules.specs.Answers.{step_number}
use Rattle.rules.specs.Steps.{step_answer}
use Rattle.rules.specs.Panel.{answering}
use Rattle.panel_laws.specs.Tallies.{tallied}
use Rattle.panel_laws.proofs.Tallies.{number_few, get_d_tallied}

module _ (r : System) where
  -- each step is counted once
  pub all_answered : (ss : List Step) → sum_below 27 (λ a. answering r a ss) ≡ length ss
  unfolding answering count
  all_answered [] = sum_const 0 27
  all_answered (s ∷ ss) =
      let i = step_number (step_answer r s) in
      let f : ℕ → ℕ = λ a. answering r a ss in
      let g : ℕ → ℕ = λ a. answering r a (s ∷ ss) in
      let one : g i ≡ f i + 1 = rw (eq-eqb i i refl) (omega arith) in
      let all = sum_changed 27 i f g (number_few (step_answer r s)) (λ j l ne. rw (ne_eqb i j (λ e. ne (sym e))) (omega arith)) in
      omega (arith, all, one, all_answered ss)

  pub all_tallied : (ss : List Step) → sum_below 27 (λ a. get_or (tallied r ss) a 0) ≡ length ss
  all_tallied ss = fold_same ◌+◌ 0 27 (λ a. get_or (tallied r ss) a 0) (λ a. answering r a ss) (get_d_tallied r ss) ∙ all_answered ss

-- one element more
none_more : (b : Bool) (k : ℕ) (q : Bool) → eqb k 0 ≡ q → eqb (pick b 1 0 + k) 0 ≡ not b && q
none_more true k q e = ne_eqb (1 + k) 0 (λ z. omega arith)
none_more false k q e = let z : 0 + k ≡ k = omega arith in rw z e

-- no element passes a test
pub none_counted : {A : Type 0} (p : A → Bool) (xs : List A) → eqb (count p xs) 0 ≡ every (λ x. not (p x)) xs
unfolding count every
none_counted p [] = refl
none_counted p (x ∷ xs) = none_more (p x) (count p xs) (every (λ x. not (p x)) xs) (none_counted p xs)
