-- Laws of how many elements of a list pass a test.
use mathlib.Core.Path.{◌≡◌, refl}
use mathlib.Core.Bool.{Bool, true}
use mathlib.Core.List.{List, [], ◌∷◌, ◌++◌}
use Prim.Native.Nat.{◌+◌}
use native.Mathlib.Omega.{arith}
use lib.ListN.{length}
use Rattle.base.specs.Lists.{count}

module _ {A : Type 0} where
  pub count_append : (p : A → Bool) (xs ys : List A) → count p (xs ++ ys) ≡ count p xs + count p ys
  unfolding count
  count_append p [] ys = omega arith
  count_append p (x ∷ xs) ys = let e = count_append p xs ys in omega arith

  -- all pass a test that holds of everything
  pub count_all : (xs : List A) → count (λ x. true) xs ≡ length xs
  unfolding count
  count_all [] = refl
  count_all (x ∷ xs) = let e = count_all xs in omega arith
