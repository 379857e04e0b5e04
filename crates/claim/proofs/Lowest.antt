-- The lowest member of a set: of two sets with the same members, of one that has a member, and as a search finds it.
use mathlib.Core.Path.{◌≡◌, refl, sym, ◌∙◌}
use mathlib.Core.Bool.{true, false}
use mathlib.Core.Logic.{by_cases}
use Prim.Native.Nat.{ℕ, zero, suc, ◌+◌, ◌-◌, ◌≤◌, ◌<◌}
use native.Mathlib.Nat.{zero-add, suc-add}
use native.Mathlib.Numerals.{add-one}
use native.Mathlib.Decide.{ℕ_discrete}
use native.Mathlib.Omega.{arith}
use lib.Dec.{eqb}
use borrow.Author.Tests.{ne_eqb, eqb-false}
use Rattle.base.specs.Choice.{pick}
use Rattle.base.specs.Sets.{member}
use Rattle.base.proofs.Choices.{pick_cases, pick_either}
use Rattle.base.proofs.Tests.{tests_differ}
use Rattle.rules.specs.Finish.{lowest}

pub lowest_same : (n a b : ℕ) → ((u : ℕ) → 1 ≤ u → u ≤ n → member u a ≡ member u b) → lowest n a ≡ lowest n b
unfolding lowest
lowest_same zero a b same = refl
lowest_same (suc n) a b same =
    rw (lowest_same n a b (λ u l h. same u l (omega arith)), same (suc n) (omega arith) (omega arith)) refl

-- where there is a member, there is a lowest
pub lowest_some : (n s u : ℕ) → 1 ≤ u → u ≤ n → member u s ≡ true → 1 ≤ lowest n s
unfolding lowest
lowest_some zero s u low high is = absurd (omega arith)
lowest_some (suc n) s u low high is =
    pick_cases (λ (k : ℕ). 1 ≤ k) (eqb (lowest n s) 0) (pick (member (suc n) s) (suc n) 0) (lowest n s)
    (λ e.
    by_cases (ℕ_discrete u (suc n))
    (λ (h : u ≡ suc n). let z : member (suc n) s ≡ true = rw h at is in rw z (omega arith))
    (λ ne. absurd (not_zero (lowest_some n s u low (omega arith) is) e)))
    (λ e. omega (arith, eqb-false (lowest n s) 0 e))
  where
    not_zero : {k : ℕ} → 1 ≤ k → eqb k 0 ≡ true → ⊥
    not_zero {k} l e = tests_differ e (ne_eqb k 0 (λ h. omega arith))

-- one number more, as a search goes: none so far, this one is none, this one is the lowest of all
pub lowest_none : (s : ℕ) → lowest 0 s ≡ 0
unfolding lowest
lowest_none s = refl

pub lowest_more : (k s : ℕ) → lowest k s ≡ 0 → member (k + 1) s ≡ false → lowest (k + 1) s ≡ 0
unfolding lowest
lowest_more k s none e = rw (add-one k) (rw (none, rw (add-one k) at e) refl)

-- what is found stays the lowest
lowest_stays : (n k s : ℕ) → 1 ≤ lowest k s → lowest (n + k) s ≡ lowest k s
unfolding lowest
lowest_stays zero k s some = rw (zero-add k) refl
lowest_stays (suc n) k s some =
    let q = lowest_stays n k s some in
    rw (suc-add n k) (rw (q, ne_eqb (lowest k s) 0 (λ h. omega arith)) refl)

pub lowest_found : (n s k : ℕ) → k < n → lowest k s ≡ 0 → member (k + 1) s ≡ true → lowest n s ≡ k + 1
unfolding lowest
lowest_found n s k few none e =
    let here : lowest (suc k) s ≡ suc k = rw (none, rw (add-one k) at e) refl in
    let all : n - suc k + suc k ≡ n = omega arith in
    rw (← all) (lowest_stays (n - suc k) (suc k) s (omega (arith, here)) ∙ here ∙ sym (add-one k))

pub lowest_few : (n s : ℕ) → lowest n s ≤ n
unfolding lowest
lowest_few zero s = omega arith
lowest_few (suc n) s =
    pick_either (λ (k : ℕ). k ≤ suc n) (eqb (lowest n s) 0) (pick (member (suc n) s) (suc n) 0) (lowest n s)
    (pick_either (λ (k : ℕ). k ≤ suc n) (member (suc n) s) (suc n) 0 (omega arith) (omega arith))
    (omega (arith, lowest_few n s))
