-- Laws of a test of each element and of each pair of elements: what it says of one place, that it follows from all places, and that a store
-- and a part keep it.
use mathlib.Core.Path.{◌≡◌, refl}
use mathlib.Core.Bool.{Bool, true}
use mathlib.Core.List.{List, [], ◌∷◌}
use Prim.Native.Nat.{ℕ, zero, suc, ◌<◌}
use native.Mathlib.Omega.{arith}
use lib.ListN.{length, get_or, set, take, drop}
use Rattle.base.specs.Lists.{every, every_pair}
use Rattle.base.proofs.Tests.{and_left, and_right, and_both}

module _ {A : Type 0} (p : A → Bool) where
  pub every_all : (xs : List A) (d : A) → ((i : ℕ) → i < length xs → p (get_or xs i d) ≡ true) → every p xs ≡ true
  unfolding every
  every_all [] d h = refl
  every_all (x ∷ xs) d h = and_both (p x) (every p xs) (h 0 (omega arith)) (every_all xs d (λ i l. h (suc i) (omega arith)))

  pub every_set : (xs : List A) (i : ℕ) (y : A) → every p xs ≡ true → p y ≡ true → every p (set xs i y) ≡ true
  unfolding every
  every_set [] i y h q = refl
  every_set (x ∷ xs) zero y h q = and_both (p y) (every p xs) q (and_right (p x) (every p xs) h)
  every_set (x ∷ xs) (suc i) y h q = and_both (p x) _ (and_left (p x) (every p xs) h) (every_set xs i y (and_right (p x) (every p xs) h) q)

  -- any place, where the default passes too
  pub every_any : (xs : List A) (i : ℕ) (d : A) → p d ≡ true → every p xs ≡ true → p (get_or xs i d) ≡ true
  unfolding every
  every_any [] i d z h = z
  every_any (x ∷ xs) zero d z h = and_left (p x) (every p xs) h
  every_any (x ∷ xs) (suc i) d z h = every_any xs i d z (and_right (p x) (every p xs) h)

  -- a part
  pub every_take : (n : ℕ) (xs : List A) → every p xs ≡ true → every p (take n xs) ≡ true
  unfolding every
  every_take zero xs h = refl
  every_take (suc n) [] h = refl
  every_take (suc n) (x ∷ xs) h = and_both (p x) _ (and_left (p x) (every p xs) h) (every_take n xs (and_right (p x) (every p xs) h))

  pub every_drop : (n : ℕ) (xs : List A) → every p xs ≡ true → every p (drop n xs) ≡ true
  unfolding every
  every_drop zero xs h = h
  every_drop (suc n) [] h = refl
  every_drop (suc n) (x ∷ xs) h = every_drop n xs (and_right (p x) (every p xs) h)

module _ {A : Type 0} {B : Type 0} (p : A → B → Bool) where
  pub every_pair_at : (xs : List A) (ys : List B) (i : ℕ) (a : A) (b : B) → i < length xs → i < length ys → every_pair p xs ys ≡ true
      → p (get_or xs i a) (get_or ys i b) ≡ true
  unfolding every_pair
  every_pair_at [] ys i a b k l h = absurd (omega arith)
  every_pair_at (x ∷ xs) [] i a b k l h = absurd (omega arith)
  every_pair_at (x ∷ xs) (y ∷ ys) zero a b k l h = and_left (p x y) (every_pair p xs ys) h
  every_pair_at (x ∷ xs) (y ∷ ys) (suc i) a b k l h = every_pair_at xs ys i a b (omega arith) (omega arith) (and_right (p x y) (every_pair p xs ys) h)

  pub every_pair_all : (xs : List A) (ys : List B) (a : A) (b : B)
      → ((i : ℕ) → i < length xs → i < length ys → p (get_or xs i a) (get_or ys i b) ≡ true)
      → every_pair p xs ys ≡ true
  unfolding every_pair
  every_pair_all [] ys a b h = refl
  every_pair_all (x ∷ xs) [] a b h = refl
  every_pair_all (x ∷ xs) (y ∷ ys) a b h =
      and_both (p x y) (every_pair p xs ys) (h 0 (omega arith) (omega arith)) (every_pair_all xs ys a b (λ i k l. h (suc i) (omega arith) (omega arith)))

  pub every_pair_set : (xs : List A) (ys : List B) (i : ℕ) (v : A) (w : B) → every_pair p xs ys ≡ true → p v w ≡ true
      → every_pair p (set xs i v) (set ys i w) ≡ true
  unfolding every_pair
  every_pair_set [] ys i v w h q = refl
  every_pair_set (x ∷ xs) [] zero v w h q = refl
  every_pair_set (x ∷ xs) [] (suc i) v w h q = refl
  every_pair_set (x ∷ xs) (y ∷ ys) zero v w h q = and_both (p v w) (every_pair p xs ys) q (and_right (p x y) (every_pair p xs ys) h)
  every_pair_set (x ∷ xs) (y ∷ ys) (suc i) v w h q =
      and_both (p x y) _ (and_left (p x y) (every_pair p xs ys) h) (every_pair_set xs ys i v w (and_right (p x y) (every_pair p xs ys) h) q)
