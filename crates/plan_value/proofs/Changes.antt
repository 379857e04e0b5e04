-- Tests of each number below n: where one of them changes, and two together; of a list, place by place.
use mathlib.Core.Path.{◌≡◌, refl, sym, ◌∙◌, ap}
use mathlib.Core.Bool.{Bool, true, false, not, ◌&&◌, ◌||◌, and_assoc}
use mathlib.Core.List.{List}
use mathlib.Core.Logic.{◌≢◌, by_cases}
use Prim.Native.Nat.{ℕ, zero, suc, ◌+◌, ◌<◌, ◌≤◌}
use native.Mathlib.Decide.{ℕ_discrete}
use native.Mathlib.Numerals.{add-one}
use native.Mathlib.Omega.{arith}
use lib.Dec.{eqb}
use lib.ListN.{length, get_or, take, drop}
use borrow.Author.Tests.{lt-leb}
use Rattle.std.specs.List.{list_all}
use Rattle.std.proofs.Common.{length-drop, get_or-drop}
use Rattle.std.proofs.lemmas.List.Folds.{list_all_more}
use Rattle.base.specs.Range.{fold, below, joined}
use Rattle.base.specs.Lists.{every}
use Rattle.base.proofs.Folds.{fold_same}
use Rattle.base.proofs.Tables.{as_table, every_table}
use Rattle.base.proofs.Tests.{and_true, and_false, below_fails, every_append}
use Rattle.plan_value.specs.Firsts.{has_parent, all_created}

pub or_true : (b : Bool) → b || true ≡ true
or_true true = refl
or_true false = refl

-- q is p but at i, where a mark is added
pub below_mark : (n i : ℕ) (p q : ℕ → Bool) (mark : Bool) → i < n → ((j : ℕ) → j < n → j ≢ i → q j ≡ p j) → q i ≡ p i && mark
    → below n q ≡ below n p && mark
below_mark n i p q false l same e = below_fails q n i l (e ∙ and_false (p i)) ∙ sym (and_false (below n p))
below_mark n i p q true l same e =
    fold_same ◌&&◌ true n q p (λ j h. by_cases (ℕ_discrete j i) (λ (z : j ≡ i). rw z (e ∙ and_true (p i))) (same j h)) ∙ sym (and_true (below n p))

pub below_both : (n : ℕ) (p q : ℕ → Bool) → below n (λ k. p k && q k) ≡ below n p && below n q
unfolding fold
below_both zero p q = refl
below_both (suc n) p q = ap (λ (b : Bool). b && (p n && q n)) (below_both n p q) ∙ go (below n p) (p n) (below n q) (q n)
  where
    go : (a b c d : Bool) → (a && c) && (b && d) ≡ (a && b) && (c && d)
    go false b c d = refl
    go true true true d = refl
    go true true false d = refl
    go true false true d = refl
    go true false false d = refl

module _ {A : Type 0} (p : A → Bool) where
  pub every_below : (l : List A) (d : A) → every p l ≡ below (length l) (λ i. p (get_or l i d))
  every_below l d = ap (every p) (sym (as_table l d)) ∙ every_table p (length l) (λ i. get_or l i d)

  pub every_joins : (n : ℕ) (f : ℕ → List A) → every p (joined n f) ≡ below n (λ k. every p (f k))
  unfolding fold every
  every_joins zero f = refl
  every_joins (suc n) f = every_append p (joined n f) (f n) ∙ ap (λ (b : Bool). b && every p (f n)) (every_joins n f)

-- a test of each element of a beginning, of a list and of the rest behind its first two
pub list_all_below : (p : ℕ → Bool) (xs : List ℕ) (n : ℕ) → n ≤ length xs → list_all p (take n xs) ≡ below n (λ k. p (get_or xs k 0))
unfolding fold
list_all_below p xs zero h = refl
list_all_below p xs (suc n) h =
    ap (λ (m : ℕ). list_all p (take m xs)) (sym (add-one n))
    ∙ list_all_more p xs n 0 (omega arith)
    ∙ ap (λ (b : Bool). b && p (get_or xs n 0)) (list_all_below p xs n (omega arith))

below_first : (n : ℕ) (p : ℕ → Bool) → below (suc n) p ≡ p 0 && below n (λ k. p (suc k))
unfolding fold
below_first zero p = sym (and_true (p 0))
below_first (suc n) p = ap (λ (b : Bool). b && p (suc n)) (below_first n p) ∙ and_assoc (p 0) (below n (λ k. p (suc k))) (p (suc n))

pub all_have_parents : (n : ℕ) (parents : List ℕ) → n + 1 < length parents
    → list_all (λ x. not (eqb x 0)) (take n (drop 2 parents)) ≡ all_created (suc n) parents
all_have_parents n parents l =
    list_all_below (λ x. not (eqb x 0)) (drop 2 parents) n (omega (arith, length-drop 2 parents))
    ∙ fold_same ◌&&◌ true n _ (λ k. has_parent parents (suc k)) (λ k q. rw (get_or-drop 2 parents k 0, lt-leb (suc k + 1) 1 (omega arith), place k) refl)
    ∙ sym (below_first n (has_parent parents))
  where
    place : (k : ℕ) → 2 + k ≡ suc k + 1
    place k = omega arith
