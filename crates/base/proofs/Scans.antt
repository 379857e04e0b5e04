-- A loop that tests each element of a list, or of two lists, place by place: its answer is `false` where one place fails, and `true` where
-- every place passed. Tests of some numbers are a test of each place below their count.
use mathlib.Core.Path.{◌≡◌, sym}
use mathlib.Core.Bool.{Bool, true, false}
use mathlib.Core.List.{List}
use Prim.Native.Nat.{ℕ, ◌<◌}
use native.Mathlib.Omega.{arith}
use lib.ListN.{length, get_or}
use Rattle.base.specs.Range.{below}
use Rattle.base.specs.Lists.{every, every_pair}
use Rattle.base.proofs.Tests.{below_at, every_at, tests_differ, is_false}
use Rattle.base.proofs.Pairs.{every_all, every_pair_at, every_pair_all}

module _ {A : Type 0} (p : A → Bool) (xs : List A) (d : A) where
  pub every_stops : (i : ℕ) → i < length xs → p (get_or xs i d) ≡ false → false ≡ every p xs
  every_stops i l q = sym (is_false (every p xs) (λ h. tests_differ (every_at p xs i d l h) q))

  pub every_ends : below (length xs) (λ i. p (get_or xs i d)) ≡ true → true ≡ every p xs
  every_ends h = sym (every_all p xs d (λ i l. below_at (λ i. p (get_or xs i d)) (length xs) i l h))

module _ {A : Type 0} {B : Type 0} (p : A → B → Bool) (xs : List A) (ys : List B) (a : A) (b : B) (same : length xs ≡ length ys) where
  pub pairs_stop : (i : ℕ) → i < length xs → p (get_or xs i a) (get_or ys i b) ≡ false → false ≡ every_pair p xs ys
  pairs_stop i l q = sym (is_false (every_pair p xs ys) (λ h. tests_differ (every_pair_at p xs ys i a b l (omega arith) h) q))

  pub pairs_end : below (length xs) (λ i. p (get_or xs i a) (get_or ys i b)) ≡ true → true ≡ every_pair p xs ys
  pairs_end h = sym (every_pair_all p xs ys a b (λ i k l. below_at (λ i. p (get_or xs i a) (get_or ys i b)) (length xs) i k h))
