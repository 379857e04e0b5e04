-- Counts that grow: by one step, by one list of steps after another.
use mathlib.Core.Path.{◌≡◌, refl, sym, ap, ◌∙◌}
use mathlib.Core.List.{List, [], ◌∷◌, ◌++◌, append_assoc, append-nil}
use mathlib.Core.Logic.{by_cases}
use Prim.Native.Nat.{ℕ, zero, suc, ◌+◌, ◌<◌, ◌≤◌}
use native.Mathlib.Numerals.{add-one}
use native.Mathlib.Omega.{arith}
use native.Mathlib.Decide.{ℕ_discrete}
use lib.ListN.{get_or, replicate, length-set}
use lib.Seq.{get_or-set_same, get_or-set_other}
use Rattle.base.specs.Range.{fold, joined}
use Rattle.base.specs.Lists.{table}
use Rattle.base.proofs.Tables.{table_more}
use Rattle.rules.specs.declared.step.Step.{Step}
use Rattle.rules.specs.Answers.{StepAnswer}
use Rattle.rules.specs.declared.system.System.{System}
use Rattle.rules.specs.Answers.{step_number}
use Rattle.rules.specs.Steps.{step_answer}
use Rattle.panel_laws.specs.Tallies.{tallied}
use Rattle.panel_laws.proofs.Tallies.{tallied_more}
use Rattle.panel.specs.Counted.{Few, CountsMore}
use Rattle.panel.specs.Tally.{raised}

pub few_more : {limit : ℕ} {counts : List ℕ} → Few limit counts → (i : ℕ) → i < 27 → Few (limit + 1) (raised counts i)
few_more {limit} {counts} f i l =
    record {
      long = length-set counts i (get_or counts i 0 + 1) ∙ f.long;
      few =
          λ a.
          by_cases
          (ℕ_discrete a i)
          (λ (e : a ≡ i). rw (e, get_or-set_same counts i (get_or counts i 0 + 1) 0 (omega (arith, f.long))) (omega (arith, f.few i)))
          (λ ne. rw (get_or-set_other counts i a (get_or counts i 0 + 1) 0 ne) (omega (arith, f.few a)));
    }

zeros : (n a : ℕ) → ◌≡◌ {A = ℕ} (get_or (replicate n 0) a 0) 0
zeros zero a = refl
zeros (suc n) zero = refl
zeros (suc n) (suc a) = zeros n a

pub few_none : Few 0 (replicate 27 0)
few_none = record { long = refl; few = λ a. omega (arith, zeros 27 a) }

-- a limit that is not lower
pub few_below : {low high : ℕ} {counts : List ℕ} → low ≤ high → Few low counts → Few high counts
few_below h f = record { long = f.long; few = λ a. omega (arith, f.few a) }

module _ (r : System) where
  pub counted_none : (counts : List ℕ) → CountsMore r [] counts counts
  counted_none counts ss e = e ∙ ap (tallied r) (sym (append-nil ss))

  pub counted_then : (xs ys : List Step) {before between after : List ℕ} → CountsMore r xs before between → CountsMore r ys between after
      → CountsMore r (xs ++ ys) before after
  counted_then xs ys f g ss e = g (ss ++ xs) (f ss e) ∙ ap (tallied r) (append_assoc ss xs ys)

  -- one step, which is answered a
  counted_one : {before after : List ℕ} (a : StepAnswer) (s : Step) → a ≡ step_answer r s → after ≡ raised before (step_number a) → CountsMore r (s ∷ []) before after
  counted_one a s e f ss b = f ∙ rw (b, e) (tallied_more r ss s)

  -- a table that grows by one step, and lists joined
  pub counted_more : {before between after : List ℕ} (f : ℕ → Step) (k : ℕ) (a : StepAnswer) → CountsMore r (table k f) before between → a ≡ step_answer r (f k)
      → after ≡ raised between (step_number a) → CountsMore r (table (k + 1) f) before after
  counted_more f k a g e h = rw (table_more k f) (counted_then (table k f) (f k ∷ []) g (counted_one a (f k) e h))

  pub counted_joined : {before between after : List ℕ} (f : ℕ → List Step) (k : ℕ) → CountsMore r (joined k f) before between → CountsMore r (f k) between after
      → CountsMore r (joined (k + 1) f) before after
  unfolding fold
  counted_joined f k g h = rw (add-one k) (counted_then (joined k f) (f k) g h)
