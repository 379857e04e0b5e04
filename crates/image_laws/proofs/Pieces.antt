-- Pieces of a list: one behind the other, given by a rule, and of two entries each; entries below a bound.
use mathlib.Core.Path.{◌≡◌, refl, sym, ◌∙◌, ap}
use mathlib.Core.List.{List, [], ◌∷◌, ◌++◌}
use Prim.Native.Nat.{ℕ, zero, suc, ◌+◌, ◌*◌, ◌<◌, ◌≤◌}
use native.Mathlib.Numerals.{add-one}
use native.Mathlib.Omega.{arith}
use lib.ListN.{length, get_or, take, drop, replicate, length-take, length-drop}
use lib.Seq.{drop-cons, take-add, take_all, drop-drop, get_or-take, get_or-drop}
use Rattle.base.specs.Range.{fold, joined, sum_below}
use Rattle.base.specs.Lists.{table, table_before}
use Rattle.base.proofs.Folds.{fold_same}
use Rattle.base.proofs.Sums.{sum_const}
use Rattle.base.proofs.Joins.{length_joined}
use Rattle.base.proofs.Tables.{length_table, get_d_table, table_more}
use Rattle.plan_laws.proofs.Pieces.{whole, joined_pieces}
use Rattle.plan_laws.proofs.Held.{Held, held_right, held_joined}
use Rattle.image_laws.specs.Held.{AllBelow}

-- n entries of b from a place on
unfoldable pub piece : List ℕ → ℕ → ℕ → List ℕ
piece b at n = take n (drop at b)

pub piece_is : (b : List ℕ) (at n : ℕ) → take n (drop at b) ≡ piece b at n
unfolding piece
piece_is b at n = refl

module _ (b : List ℕ) where
  pub length_piece : (at n : ℕ) → at + n ≤ length b → length (piece b at n) ≡ n
  unfolding piece
  length_piece at n l = omega (arith, length-take n (drop at b), length-drop at b)

  pub get_d_piece : (at n i : ℕ) → i < n → get_or (piece b at n) i 0 ≡ get_or b (at + i) 0
  unfolding piece
  get_d_piece at n i l = get_or-take n (drop at b) i 0 l ∙ get_or-drop at b i 0

  piece_join : (at n m : ℕ) → piece b at n ++ piece b (at + n) m ≡ piece b at (n + m)
  unfolding piece
  piece_join at n m = rw (take-add n m (drop at b), drop-drop n at b) refl

  -- a piece and the next
  pub piece_next : (at n m : ℕ) (xs ys : List ℕ) → xs ≡ piece b at n → ys ≡ piece b (at + n) m → xs ++ ys ≡ piece b at (n + m)
  piece_next at n m xs ys p q = rw (p, q) (piece_join at n m)

  pub piece_all : (n : ℕ) → length b ≡ n → piece b 0 n ≡ b
  unfolding piece
  piece_all n h = take_all n b (omega arith)

  pub two : (at : ℕ) → at + 2 ≤ length b → get_or b at 0 ∷ get_or b (at + 1) 0 ∷ [] ≡ piece b at 2
  unfolding piece
  two at l = rw (add-one at, drop-cons b at 0 (omega arith), drop-cons b (suc at) 0 (omega arith)) refl

  -- a rule that gives the entries of a piece
  pub table_piece : (at n : ℕ) (f : ℕ → ℕ) → at + n ≤ length b → ((k : ℕ) → k < n → f k ≡ get_or b (at + k) 0) → table n f ≡ piece b at n
  table_piece at n f l h = whole (piece b at n) 0 n (length_piece at n l) f (λ k q. h k q ∙ sym (get_d_piece at n k q))

  -- rows of two
  pub rows_piece : (at n : ℕ) (f : ℕ → List ℕ) → ((k : ℕ) → k < n → f k ≡ piece b (at + 2 * k) 2) → joined n f ≡ piece b at (2 * n)
  unfolding piece
  rows_piece at n f h =
      fold_same ◌++◌ [] n f (λ k. take 2 (drop (at + sum_below k (λ i. 2)) b)) (λ k l. rw (sum_const 2 k) (h k l))
      ∙ joined_pieces b at (λ i. 2) n
      ∙ ap (λ (m : ℕ). take m (drop at b)) (sum_const 2 n)

  -- what is held behind n entries
  pub held_next : (at n : ℕ) (xs ys : List ℕ) → length xs ≡ n → Held b at (xs ++ ys) → Held b (at + n) ys
  held_next at n xs ys e h = rw e at (held_right b at xs ys h)

  pub held_table : (at n : ℕ) (f : ℕ → ℕ) (k : ℕ) → Held b at (table n f) → k < n → get_or b (at + k) 0 ≡ f k
  held_table at n f k h l = h k (rw (length_table n f) l) ∙ get_d_table n f k 0 l

  -- rows of two, held
  pub held_rows : (at n : ℕ) (f : ℕ → List ℕ) (k : ℕ) → ((i : ℕ) → length (f i) ≡ 2) → Held b at (joined n f) → k < n → Held b (at + 2 * k) (f k)
  held_rows at n f k each h l =
      let s : sum_below k (λ i. length (f i)) ≡ 2 * k =
      fold_same ◌+◌ 0 k (λ i. length (f i)) (λ i. 2) (λ i q. each i) ∙ sum_const 2 k in
      rw s at (held_joined b at n f k l h)

pub length_rows : (n : ℕ) (f : ℕ → List ℕ) → ((i : ℕ) → length (f i) ≡ 2) → length (joined n f) ≡ 2 * n
length_rows n f each = length_joined n f ∙ fold_same ◌+◌ 0 n (λ i. length (f i)) (λ i. 2) (λ i q. each i) ∙ sum_const 2 n

-- entries below a bound
module _ (m : ℕ) (some : 0 < m) where
  pub none_below : AllBelow m []
  none_below i = some

  pub cons_below : (x : ℕ) (xs : List ℕ) → x < m → AllBelow m xs → AllBelow m (x ∷ xs)
  cons_below x xs h hs zero = h
  cons_below x xs h hs (suc i) = hs i

  pub append_below : (xs ys : List ℕ) → AllBelow m xs → AllBelow m ys → AllBelow m (xs ++ ys)
  append_below [] ys h q i = q i
  append_below (x ∷ xs) ys h q zero = h 0
  append_below (x ∷ xs) ys h q (suc i) = append_below xs ys (λ j. h (suc j)) q i

  pub joined_below : (n : ℕ) (f : ℕ → List ℕ) → ((k : ℕ) → k < n → AllBelow m (f k)) → AllBelow m (joined n f)
  unfolding fold
  joined_below zero f h = none_below
  joined_below (suc n) f h = append_below (joined n f) (f n) (joined_below n f (λ k l. h k (omega arith))) (h n (omega arith))

  pub table_below : (n : ℕ) (f : ℕ → ℕ) → ((k : ℕ) → k < n → f k < m) → AllBelow m (table n f)
  table_below zero f h = unfold table table_before in none_below
  table_below (suc n) f h =
      rw (← add-one n, table_more n f)
      (append_below (table n f) (f n ∷ []) (table_below n f (λ k l. h k (omega arith))) (cons_below (f n) [] (h n (omega arith)) none_below))

  pub replicate_below : (n : ℕ) → AllBelow m (replicate n 0)
  replicate_below zero i = some
  replicate_below (suc n) zero = some
  replicate_below (suc n) (suc i) = replicate_below n i
