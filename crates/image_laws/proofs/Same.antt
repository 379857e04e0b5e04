-- Lists of bytes that are the same are equal.
use mathlib.Core.Path.{◌≡◌, refl}
use mathlib.Core.Bool.{true}
use mathlib.Core.List.{List, [], ◌∷◌}
use Prim.Native.Nat.{ℕ}
use lib.Dec.{eqb}
use borrow.Author.Tests.{eqb-true, eq-eqb}
use Rattle.base.proofs.Tests.{and_left, and_right, and_both}
use Rattle.image.specs.Numbers.{same_bytes}

pub same_bytes_true : (xs ys : List ℕ) → same_bytes xs ys ≡ true → xs ≡ ys
unfolding same_bytes
same_bytes_true [] [] h = refl
same_bytes_true [] (y ∷ ys) h = cc
same_bytes_true (x ∷ xs) [] h = cc
same_bytes_true (x ∷ xs) (y ∷ ys) h =
    rw (eqb-true x y (and_left (eqb x y) (same_bytes xs ys) h), same_bytes_true xs ys (and_right (eqb x y) (same_bytes xs ys) h)) refl

pub same_bytes_refl : (xs : List ℕ) → same_bytes xs xs ≡ true
unfolding same_bytes
same_bytes_refl [] = refl
same_bytes_refl (x ∷ xs) = and_both (eqb x x) (same_bytes xs xs) (eq-eqb x x refl) (same_bytes_refl xs)
