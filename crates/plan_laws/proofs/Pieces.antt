-- Laws of lists: a list is the table of its elements, and its pieces joined; what a list holds from a place on.
use mathlib.Core.Path.{◌≡◌, refl, ◌∙◌}
use mathlib.Core.List.{List, [], ◌∷◌, ◌++◌}
use Prim.Native.Nat.{ℕ, zero, suc, ◌+◌, ◌<◌, ◌≤◌}
use native.Mathlib.Numerals.{add-one, add-two, add-three}
use native.Mathlib.Omega.{arith}
use lib.ListN.{length, get_or, take, drop}
use lib.Seq.{drop-cons, take-add, take_all, drop-drop}
use Rattle.base.specs.Range.{fold, joined, sum_below}
use Rattle.base.specs.Lists.{table}
use Rattle.base.proofs.Tables.{table_same, as_table}

module _ {A : Type 0} where
  -- a rule that gives a list's elements gives the list
  pub whole : (l : List A) (d : A) (n : ℕ) → length l ≡ n → (f : ℕ → A) → ((i : ℕ) → i < n → f i ≡ get_or l i d) → table n f ≡ l
  whole l d n e f same = table_same n f (λ i. get_or l i d) same ∙ rw (← e) (as_table l d)

  -- pieces that follow each other without gaps
  pub joined_pieces : (l : List A) (at : ℕ) (w : ℕ → ℕ) (n : ℕ) → joined n (λ k. take (w k) (drop (at + sum_below k w) l)) ≡ take (sum_below n w) (drop at l)
  unfolding fold
  joined_pieces l at w zero = refl
  joined_pieces l at w (suc n) = rw (joined_pieces l at w n, take-add (sum_below n w) (w n) (drop at l), drop-drop (sum_below n w) at l) refl

  pub three_pieces : (l : List A) (x y z : ℕ) → length l ≡ x + y + z → take x l ++ (take y (drop x l) ++ take z (drop (x + y) l)) ≡ l
  three_pieces l x y z h =
      rw (← drop-drop y x l, ← take-add y z (drop x l), ← take-add x (y + z) l) (take_all (x + (y + z)) l (omega arith))

  -- a piece of four
  pub four : (l : List A) (at : ℕ) (d : A) → at + 4 ≤ length l
      → take 4 (drop at l) ≡ get_or l at d ∷ get_or l (at + 1) d ∷ get_or l (at + 2) d ∷ get_or l (at + 3) d ∷ []
  four l at d h =
      rw (
        add-one at,
        add-two at,
        add-three at,
        drop-cons l at d (omega arith),
        drop-cons l (suc at) d (omega arith),
        drop-cons l (suc (suc at)) d (omega arith),
        drop-cons l (suc (suc (suc at))) d (omega arith),
      )
      refl
