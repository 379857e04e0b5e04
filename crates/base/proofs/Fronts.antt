-- Laws of a test of some element, in a list and in its front: where the element is, and the front with one element more.
use mathlib.Core.Path.{◌≡◌, refl}
use mathlib.Core.Bool.{Bool, true, ◌||◌, or-false, or-true}
use mathlib.Core.List.{List, [], ◌∷◌}
use Prim.Native.Nat.{ℕ, zero, suc, ◌<◌}
use native.Mathlib.Omega.{arith}
use lib.ListN.{length, get_or, take, length-take}
use lib.Seq.{take-suc, get_or-take}
use Rattle.base.specs.Lists.{any}
use Rattle.base.proofs.Tests.{or_cases}
use Rattle.base.proofs.Joins.{any_append}

module _ {A : Type 0} (p : A → Bool) (d : A) where
  pub any_at : (xs : List A) → any p xs ≡ true → (i : ℕ) × (i < length xs) × (p (get_or xs i d) ≡ true)
  unfolding any
  any_at [] h = let z : ◌≡◌ {A = ℕ} 0 1 = cc in absurd (omega arith)
  any_at (x ∷ xs) h = or_cases (p x) (any p xs) h (λ e. (0, omega arith, e)) (λ e. let (i, l, q) = any_at xs e in (suc i, omega arith, q))

  pub any_here : (xs : List A) (i : ℕ) → i < length xs → p (get_or xs i d) ≡ true → any p xs ≡ true
  unfolding any
  any_here [] i l h = absurd (omega arith)
  any_here (x ∷ xs) zero l h = rw h refl
  any_here (x ∷ xs) (suc i) l h = rw (any_here xs i (omega arith) h) (or-true (p x))

  module _ (xs : List A) (n : ℕ) where
    -- an element of the front
    pub any_front_at : any p (take n xs) ≡ true → (i : ℕ) × (i < n) × (i < length xs) × (p (get_or xs i d) ≡ true)
    any_front_at h =
        let (i, l, e) = any_at (take n xs) h in
        let f = length-take n xs in
        let k : i < n = omega arith in
        (i, k, omega arith, rw (get_or-take n xs i d k) at e)

    pub any_front_here : (i : ℕ) → i < n → i < length xs → p (get_or xs i d) ≡ true → any p (take n xs) ≡ true
    any_front_here i k l h = any_here (take n xs) i (omega (arith, length-take n xs)) (rw (get_or-take n xs i d k) h)

    pub any_front_more : n < length xs → any p (take (suc n) xs) ≡ any p (take n xs) || p (get_or xs n d)
    unfolding any
    any_front_more l = rw (take-suc xs n d l, any_append p (take n xs) (get_or xs n d ∷ []), or-false (p (get_or xs n d))) refl
