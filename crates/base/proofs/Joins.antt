-- Laws of sums and of lists joined: a part of a sum; a join's length, what stands where, and tests of its elements.
use mathlib.Core.Path.{◌≡◌, refl, ◌∙◌}
use mathlib.Core.Bool.{Bool, true, ◌||◌, or_assoc}
use mathlib.Core.List.{List, [], ◌∷◌, ◌++◌}
use mathlib.Core.Logic.{by_cases}
use Prim.Native.Nat.{ℕ, zero, suc, ◌+◌, ◌<◌, ◌≤◌}
use native.Mathlib.Omega.{arith, by_contra}
use native.Mathlib.Decide.{ℕ_discrete}
use lib.ListN.{length, length-append, get_or, get_or-append}
use lib.Seq.{get_or-append-add}
use Rattle.base.specs.Range.{fold, joined, sum_below}
use Rattle.base.specs.Lists.{every, any}
use Rattle.base.proofs.Tests.{and_left, and_right, and_both, or_cases, every_append}

-- a number below n adds its part
pub part_of_sum : (n : ℕ) (f : ℕ → ℕ) (k : ℕ) → k < n → sum_below k f + f k ≤ sum_below n f
unfolding fold
part_of_sum zero f k h = absurd (omega arith)
part_of_sum (suc n) f k h =
    by_cases (ℕ_discrete k n) (λ (e : k ≡ n). rw e (omega arith)) (λ e. let r = part_of_sum n f k (omega arith) in omega arith)

-- what adds to a sum of at most one is one number
pub one_adds : (n : ℕ) (f : ℕ → ℕ) → sum_below n f ≤ 1 → (i j : ℕ) → i < n → j < n → 1 ≤ f i → 1 ≤ f j → i ≡ j
one_adds n f few i j p q a b = omega (arith, no_lower i j q a b, no_lower j i p b a)
  where
    no_lower : (i j : ℕ) → j < n → 1 ≤ f i → 1 ≤ f j → j ≤ i
    no_lower i j q a b = by_contra j i (λ (l : i < j). omega (arith, part_of_sum n f j q, part_of_sum j f i l))

module _ {A : Type 0} where
  pub length_joined : (n : ℕ) (f : ℕ → List A) → length (joined n f) ≡ sum_below n (λ k. length (f k))
  unfolding fold
  length_joined zero f = refl
  length_joined (suc n) f = rw (length-append (joined n f) (f n), length_joined n f) refl

  -- what stands j behind the first k of n lists
  pub get_d_joined : (n : ℕ) (f : ℕ → List A) (k j : ℕ) (d : A) → k < n → j < length (f k)
      → get_or (joined n f) (sum_below k (λ i. length (f i)) + j) d ≡ get_or (f k) j d
  unfolding fold
  get_d_joined zero f k j d h q = absurd (omega arith)
  get_d_joined (suc n) f k j d h q =
      by_cases
      (ℕ_discrete k n)
      (λ (e : k ≡ n). rw (e, ← length_joined n f) (get_or-append-add (joined n f) (f n) j d))
      (λ e. get_or-append (joined n f) (f n) d (sum_below k (λ i. length (f i)) + j) (rw (length_joined n f) (let r = part_of_sum n (λ i. length (f i)) k (omega arith) in omega arith)) ∙ get_d_joined n f k j d (omega arith) q)

module _ {A : Type 0} (p : A → Bool) where
  -- each element of lists that are joined passes a test if each element of each does
  pub every_joined : (n : ℕ) (f : ℕ → List A) → ((k : ℕ) → k < n → every p (f k) ≡ true) → every p (joined n f) ≡ true
  unfolding fold every
  every_joined zero f h = refl
  every_joined (suc n) f h =
      rw (every_append p (joined n f) (f n)) (and_both (every p (joined n f)) (every p (f n)) (every_joined n f (λ k q. h k (omega arith))) (h n (omega arith)))

  -- .. and only if
  pub every_part : (n : ℕ) (f : ℕ → List A) (k : ℕ) → k < n → every p (joined n f) ≡ true → every p (f k) ≡ true
  unfolding fold
  every_part zero f k h e = absurd (omega arith)
  every_part (suc n) f k h e =
      let r = rw (every_append p (joined n f) (f n)) at e in
      by_cases
      (ℕ_discrete k n)
      (λ (q : k ≡ n). rw q (and_right (every p (joined n f)) (every p (f n)) r))
      (λ q. every_part n f k (omega arith) (and_left (every p (joined n f)) (every p (f n)) r))

  -- an element that passes a test is in one of them
  pub any_append : (xs ys : List A) → any p (xs ++ ys) ≡ any p xs || any p ys
  unfolding any
  any_append [] ys = refl
  any_append (x ∷ xs) ys = rw (any_append xs ys, or_assoc (p x) (any p xs) (any p ys)) refl

  pub any_part : (n : ℕ) (f : ℕ → List A) → any p (joined n f) ≡ true → (k : ℕ) × (k < n) × (any p (f k) ≡ true)
  unfolding fold any
  any_part zero f e = let z : ◌≡◌ {A = ℕ} 0 1 = cc in absurd (omega arith)
  any_part (suc n) f e =
      or_cases (any p (joined n f)) (any p (f n)) (rw (any_append (joined n f) (f n)) at e)
      (λ q. let (k, h, r) = any_part n f q in (k, omega arith, r))
      (λ q. (n, omega arith, q))
