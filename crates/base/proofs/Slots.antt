-- Rows of 64 slots, of which row k uses the first `count k`: what is taken together over the used slots, slot by slot, is what is taken
-- together row by row.
use mathlib.Core.Path.{◌≡◌, refl, ◌∙◌}
use mathlib.Core.Bool.{Bool, true, false, ◌&&◌, and_assoc, and-true}
use mathlib.Core.List.{List, [], ◌++◌, append_assoc, append-nil}
use Prim.Native.Nat.{ℕ, ◌+◌, ◌*◌, ◌/◌, ◌%◌, ◌<◌, ◌≤◌}
use native.Mathlib.Omega.{arith}
use lib.Dec.{ltb}
use Rattle.base.specs.Choice.{pick}
use Rattle.base.specs.Range.{fold, below, joined}
use borrow.Author.Tests.{le-ltb}
use Rattle.base.proofs.Folds.{fold_same, fold_grid, fold_skip, fold_front}

pub row_of : (k i : ℕ) → i < 64 → (64 * k + i) / 64 ≡ k
row_of k i h = omega arith

pub place_of : (k i : ℕ) → i < 64 → (64 * k + i) % 64 ≡ i
place_of k i h = omega arith

-- the slot behind a row
abbrev pub next_row : ℕ → ℕ
next_row s = 64 * (s / 64 + 1)

-- behind an unused slot the rest of the row is unused
pub rest_unused : (count : ℕ → ℕ) (s i : ℕ) → count (s / 64) ≤ s % 64 → s ≤ i → i < next_row s → ltb (i % 64) (count (i / 64)) ≡ false
rest_unused count s i h p q =
    let e : i / 64 ≡ s / 64 = omega arith in
    rw e (le-ltb (i % 64) (count (s / 64)) (omega arith))

module _ {A : Type 0} (op : A → A → A) (e : A) (assoc : (a b c : A) → op (op a b) c ≡ op a (op b c)) (unit : (a : A) → op a e ≡ a) where
  fold_slots : (n : ℕ) (count : ℕ → ℕ) (f : ℕ → ℕ → ℕ → A) → ((k : ℕ) → k < n → count k ≤ 64)
      → fold op e (64 * n) (λ j. pick (ltb (j % 64) (count (j / 64))) (f j (count (j / 64)) (j % 64)) e)
      ≡ fold op e n (λ k. fold op e (count k) (λ i. f (64 * k + i) (count k) i))
  fold_slots n count f few =
      let g : ℕ → A = λ j. pick (ltb (j % 64) (count (j / 64))) (f j (count (j / 64)) (j % 64)) e in
      fold_grid op e assoc unit 64 n g
      ∙ fold_same op e n (λ k. fold op e 64 (λ i. g (64 * k + i))) (λ k. fold op e (count k) (λ i. f (64 * k + i) (count k) i))
      (λ k h.
      fold_same op e 64 (λ i. g (64 * k + i)) (λ i. pick (ltb i (count k)) (f (64 * k + i) (count k) i) e) (λ i q. rw (row_of k i q, place_of k i q) refl)
      ∙ fold_front op e assoc unit (count k) 64 (λ i. f (64 * k + i) (count k) i) (few k h))

  skip_row : (s : ℕ) (count : ℕ → ℕ) (f : ℕ → ℕ → ℕ → A) → count (s / 64) ≤ s % 64
      → fold op e s (λ j. pick (ltb (j % 64) (count (j / 64))) (f j (count (j / 64)) (j % 64)) e)
      ≡ fold op e (next_row s) (λ j. pick (ltb (j % 64) (count (j / 64))) (f j (count (j / 64)) (j % 64)) e)
  skip_row s count f h =
      fold_skip op e assoc unit s (next_row s) (λ j. pick (ltb (j % 64) (count (j / 64))) (f j (count (j / 64)) (j % 64)) e) (omega arith)
      (λ i p q. simp (rest_unused count s i h p q))

-- a test of each used slot
pub below_slots : (n : ℕ) (count : ℕ → ℕ) (p : ℕ → ℕ → ℕ → Bool) → ((k : ℕ) → k < n → count k ≤ 64)
    → below (64 * n) (λ j. pick (ltb (j % 64) (count (j / 64))) (p j (count (j / 64)) (j % 64)) true)
    ≡ below n (λ k. below (count k) (λ i. p (64 * k + i) (count k) i))
below_slots = fold_slots ◌&&◌ true and_assoc and-true

pub below_skip : (s : ℕ) (count : ℕ → ℕ) (p : ℕ → ℕ → ℕ → Bool) → count (s / 64) ≤ s % 64
    → below s (λ j. pick (ltb (j % 64) (count (j / 64))) (p j (count (j / 64)) (j % 64)) true)
    ≡ below (next_row s) (λ j. pick (ltb (j % 64) (count (j / 64))) (p j (count (j / 64)) (j % 64)) true)
below_skip = skip_row ◌&&◌ true and_assoc and-true

-- the lists of the used slots, joined
pub joined_slots : {A : Type 0} (n : ℕ) (count : ℕ → ℕ) (f : ℕ → ℕ → ℕ → List A) → ((k : ℕ) → k < n → count k ≤ 64)
    → joined (64 * n) (λ j. pick (ltb (j % 64) (count (j / 64))) (f j (count (j / 64)) (j % 64)) [])
    ≡ joined n (λ k. joined (count k) (λ i. f (64 * k + i) (count k) i))
joined_slots = fold_slots ◌++◌ [] append_assoc append-nil

pub joined_skip : {A : Type 0} (s : ℕ) (count : ℕ → ℕ) (f : ℕ → ℕ → ℕ → List A) → count (s / 64) ≤ s % 64
    → joined s (λ j. pick (ltb (j % 64) (count (j / 64))) (f j (count (j / 64)) (j % 64)) [])
    ≡ joined (next_row s) (λ j. pick (ltb (j % 64) (count (j / 64))) (f j (count (j / 64)) (j % 64)) [])
joined_skip = skip_row ◌++◌ [] append_assoc append-nil
