-- Laws of tests: a conjunction's parts, a disjunction's cases, a test of each number below a bound and of each element of a list.
use mathlib.Core.Path.{◌≡◌, refl, sym, ◌∙◌}
use mathlib.Core.Bool.{Bool, true, false, ◌&&◌, ◌||◌, and_assoc, true≢false}
use mathlib.Core.Logic.{by_cases, ◌⊎◌, inl, inr}
use mathlib.Core.List.{List, [], ◌∷◌, ◌++◌}
use Prim.Native.Nat.{ℕ, zero, suc, ◌+◌, ◌<◌, ◌≤◌}
use native.Mathlib.Numerals.{add-one}
use native.Mathlib.Omega.{arith}
use native.Mathlib.Decide.{ℕ_discrete}
use lib.Dec.{leb}
use borrow.Author.Tests.{leb-true, le-leb}
use lib.ListN.{length, get_or}
use Rattle.base.specs.Choice.{within}
use Rattle.base.specs.Range.{fold, below, up_to}
use Rattle.base.specs.Lists.{every}

pub and_left : (a b : Bool) → a && b ≡ true → a ≡ true
and_left true b h = refl
and_left false b h = h

pub and_right : (a b : Bool) → a && b ≡ true → b ≡ true
and_right true b h = h
and_right false b h = cc

pub and_both : (a b : Bool) → a ≡ true → b ≡ true → a && b ≡ true
and_both a b p q = rw p q

pub and_false : (a : Bool) → a && false ≡ false
and_false true = refl
and_false false = refl

pub and_true : (a : Bool) → a && true ≡ a
and_true true = refl
and_true false = refl

-- one of two tests, and neither
pub or_cases : {C : Type 0} (a b : Bool) → a || b ≡ true → (a ≡ true → C) → (b ≡ true → C) → C
or_cases true b h p q = p refl
or_cases false b h p q = q h

pub or_neither : (a b : Bool) → a || b ≡ false → (a ≡ false) × (b ≡ false)
or_neither true b h = absurd (true≢false h)
or_neither false b h = (refl, h)

-- where the second of two tests follows from another
pub or_follows : (a b c : Bool) → (b ≡ true → c ≡ true) → a || b ≡ true → a || c ≡ true
or_follows true b c f h = refl
or_follows false b c f h = f h

-- one of two tests fails where both together do and the other holds
pub first_fails : (a b : Bool) → a && b ≡ false → b ≡ true → a ≡ false
first_fails true b h q = cc
first_fails false b h q = refl

pub second_fails : (a b : Bool) → a && b ≡ false → a ≡ true → b ≡ false
second_fails true b h q = h
second_fails false b h q = absurd (true≢false (sym q))

-- no test holds and fails; one that does not hold fails, and one that does not fail holds
pub tests_differ : {b : Bool} → b ≡ true → b ≡ false → ⊥
tests_differ p q = true≢false (sym p ∙ q)

pub is_false : (b : Bool) → (b ≡ true → ⊥) → b ≡ false
is_false true h = absurd (h refl)
is_false false h = refl

pub is_true : (b : Bool) → (b ≡ false → ⊥) → b ≡ true
is_true true h = refl
is_true false h = absurd (h refl)

-- a number that is within bounds is at least the lower and at most the upper
pub within_low : (low high n : ℕ) → within low high n ≡ true → low ≤ n
within_low low high n h = leb-true low n (and_left (leb low n) (leb n high) h)

pub within_high : (low high n : ℕ) → within low high n ≡ true → n ≤ high
within_high low high n h = leb-true n high (and_right (leb low n) (leb n high) h)

pub within_both : (low high n : ℕ) → low ≤ n → n ≤ high → within low high n ≡ true
within_both low high n p q = simp (le-leb low n p, le-leb n high q)

module _ (p : ℕ → Bool) where
  -- what holds of each number below n holds of one
  pub below_at : (n k : ℕ) → k < n → below n p ≡ true → p k ≡ true
  unfolding fold
  below_at zero k h e = absurd (omega arith)
  below_at (suc n) k h e =
      by_cases
      (ℕ_discrete k n)
      (λ (q : k ≡ n). rw q (and_right (below n p) (p n) e))
      (λ q. below_at n k (omega arith) (and_left (below n p) (p n) e))

  pub below_all : (n : ℕ) → ((k : ℕ) → k < n → p k ≡ true) → below n p ≡ true
  unfolding fold
  below_all zero h = refl
  below_all (suc n) h = and_both (below n p) (p n) (below_all n (λ k q. h k (omega arith))) (h n (omega arith))

  pub below_none : below 0 p ≡ true
  unfolding fold
  below_none = refl

  pub below_more : (n : ℕ) → below n p ≡ true → p n ≡ true → below (n + 1) p ≡ true
  unfolding fold
  below_more n h e = rw (add-one n, h) e

  -- one number that fails
  pub below_fails : (n k : ℕ) → k < n → p k ≡ false → below n p ≡ false
  unfolding fold
  below_fails zero k h e = absurd (omega arith)
  below_fails (suc n) k h e =
      by_cases
      (ℕ_discrete k n)
      (λ (q : k ≡ n). rw (← q, e) (and_false (below k p)))
      (λ q. rw (below_fails n k (omega arith) e) refl)

  -- all hold, or one fails
  pub below_cases : (n : ℕ) → (below n p ≡ true) ⊎ ((k : ℕ) × (k < n) × (p k ≡ false))
  below_cases zero = inl below_none
  below_cases (suc n) = go (below_cases n) (p n) refl
    where
      go : (below n p ≡ true) ⊎ ((k : ℕ) × (k < n) × (p k ≡ false)) → (b : Bool) → p n ≡ b
          → (below (suc n) p ≡ true) ⊎ ((k : ℕ) × (k < suc n) × (p k ≡ false))
      go (inr (k, l, e)) b q = inr (k, omega arith, e)
      go (inl h) true q = inl (rw (← add-one n) (below_more n h q))
      go (inl h) false q = inr (n, omega arith, q)

-- what holds of each of 1 .. n holds of one
pub up_to_at : (p : ℕ → Bool) (n k : ℕ) → 1 ≤ k → k ≤ n → up_to n p ≡ true → p k ≡ true
up_to_at p n zero l h e = absurd (omega arith)
up_to_at p n (suc k) l h e = below_at (λ k. p (suc k)) n k h e

module _ {A : Type 0} (p : A → Bool) where
  pub every_append : (xs ys : List A) → every p (xs ++ ys) ≡ every p xs && every p ys
  unfolding every
  every_append [] ys = refl
  every_append (x ∷ xs) ys = rw (every_append xs ys) (sym (and_assoc (p x) (every p xs) (every p ys)))

  -- what holds of each element holds of one
  pub every_at : (xs : List A) (i : ℕ) (d : A) → i < length xs → every p xs ≡ true → p (get_or xs i d) ≡ true
  unfolding every
  every_at [] i d h e = absurd (omega arith)
  every_at (x ∷ xs) zero d h e = and_left (p x) (every p xs) e
  every_at (x ∷ xs) (suc i) d h e = every_at xs i d (omega arith) (and_right (p x) (every p xs) e)

  -- one element that fails
  pub every_fails : (xs : List A) (d : A) → every p xs ≡ false → (i : ℕ) × (i < length xs) × (p (get_or xs i d) ≡ false)
  unfolding every
  every_fails [] d h = absurd (true≢false h)
  every_fails (x ∷ xs) d h = go (p x) refl (every_fails xs d)
    where
      go : (b : Bool) → p x ≡ b → (every p xs ≡ false → (i : ℕ) × (i < length xs) × (p (get_or xs i d) ≡ false))
          → (i : ℕ) × (i < length (x ∷ xs)) × (p (get_or (x ∷ xs) i d) ≡ false)
      go false e later = (0, omega arith, e)
      go true e later = let (i, l, q) = later (rw e at h) in (suc i, omega arith, q)
