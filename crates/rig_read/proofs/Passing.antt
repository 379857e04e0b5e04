-- The tests of refusal 9 and those of an image, of a board number by number: both together are what is tested of each number.
use mathlib.Core.Path.{◌≡◌, refl, sym, ap, ◌∙◌}
use mathlib.Core.Bool.{Bool, true, false, ◌&&◌}
use mathlib.Core.List.{List}
use mathlib.Core.Logic.{◌⊎◌, inl, inr}
use Prim.Native.Nat.{ℕ, zero, suc, ◌+◌, ◌*◌, ◌<◌, ◌^◌}
use lib.Dec.{eqb, leb, ltb}
use lib.ListN.{length, get_or}
use Rattle.base.specs.Range.{fold, below}
use Rattle.base.specs.Lists.{table, every, every_pair}
use Rattle.base.proofs.Tests.{below_all, below_at, below_fails, below_cases}
use Rattle.base.proofs.Scans.{pairs_stop, pairs_end}
use Rattle.base.proofs.Tables.{length_table, get_d_table, every_table, as_table}
use Rattle.rules.specs.Numbers.{processor_id}
use Rattle.rules.specs.Cells.{hint, offer}
use Rattle.rules.specs.Sound.{hint_ok, offer_ok, channel_entries_ok, parents_ok}
use Rattle.board.specs.packing.Packed.{low16, byte2, byte3, byte4, byte5, hint_of, hint_word, channel_of, channel_word}
use Rattle.board.specs.Lent.{channel_column, channels_on, parent_column, parents_on}
use Rattle.rig_read.specs.Passing.{channels_pass, parents_pass}

crossed : (a b p q : Bool) → (a && b) && (p && q) ≡ (a && p) && (b && q)
crossed true true p q = refl
crossed true false true q = refl
crossed true false false q = refl
crossed false b p q = refl

-- two tests of each number
pub below_and : (n : ℕ) (p q : ℕ → Bool) → below n (λ k. p k && q k) ≡ below n p && below n q
unfolding fold
below_and zero p q = refl
below_and (suc n) p q = rw (below_and n p q) (crossed (below n p) (below n q) (p n) (q n))

-- a test of each pair of two tables
pub pairs_tables : {A : Type 0} {B : Type 0} (p : A → B → Bool) (n : ℕ) (f : ℕ → A) (g : ℕ → B)
    → every_pair p (table n f) (table n g) ≡ below n (λ k. p (f k) (g k))
pairs_tables {A} {B} p n f g = go (below_cases (λ k. p (f k) (g k)) n)
  where
    same : length (table n f) ≡ length (table n g)
    same = length_table n f ∙ sym (length_table n g)

    entry : (k : ℕ) → k < n → p (get_or (table n f) k (f 0)) (get_or (table n g) k (g 0)) ≡ p (f k) (g k)
    entry k l = rw (get_d_table n f k (f 0) l, get_d_table n g k (g 0) l) refl

    go : (below n (λ k. p (f k) (g k)) ≡ true) ⊎ ((k : ℕ) × (k < n) × (p (f k) (g k) ≡ false))
        → every_pair p (table n f) (table n g) ≡ below n (λ k. p (f k) (g k))
    go (inl h) =
        sym
        (pairs_end p (table n f) (table n g) (f 0) (g 0) same
        (below_all _ (length (table n f))
        (λ k l. let b : k < n = rw (length_table n f) at l in entry k b ∙ below_at (λ k. p (f k) (g k)) n k b h)))
        ∙ sym h
    go (inr (k, l, e)) =
        sym (pairs_stop p (table n f) (table n g) (f 0) (g 0) same k (rw (length_table n f) l) (entry k l ∙ e))
        ∙ sym (below_fails (λ k. p (f k) (g k)) n k l e)

-- a test of each element of a list, or of two
entries_of_lem : {A : Type 0} (n : ℕ) (xs : List A) (a : A) → length xs ≡ n → xs ≡ table n (λ k. get_or xs k a)
entries_of_lem n xs a h = rw (← h) (sym (as_table xs a))

pub every_entry : {A : Type 0} (p : A → Bool) (n : ℕ) (xs : List A) (a : A) → length xs ≡ n → every p xs ≡ below n (λ k. p (get_or xs k a))
every_entry {A} p n xs a h = ap (every p) (entries_of_lem n xs a h) ∙ every_table p n (λ k. get_or xs k a)

pub every_entries : {A : Type 0} {B : Type 0} (p : A → B → Bool) (n : ℕ) (xs : List A) (ys : List B) (a : A) (b : B) → length xs ≡ n → length ys ≡ n
    → every_pair p xs ys ≡ below n (λ k. p (get_or xs k a) (get_or ys k b))
every_entries {A} {B} p n xs ys a b h g =
    ap (λ (zs : List A). every_pair p zs ys) (entries_of_lem n xs a h)
    ∙ ap (every_pair p (table n (λ k. get_or xs k a))) (entries_of_lem n ys b g)
    ∙ pairs_tables p n (λ k. get_or xs k a) (λ k. get_or ys k b)

module _ (n : ℕ) (x : List ℕ) where
  -- each channel's number is that of what it holds
  abbrev pub channels_tidy : Bool
  channels_tidy = below 128 (λ k. eqb (channel_word (channel_of (get_or x k 0))) (get_or x k 0))

  entries : channel_entries_ok n (channels_on x)
      ≡ below 128 (λ k. leb (byte5 (get_or x k 0)) 64)
      && (below 128 (λ k. offer_ok n (offer (processor_id (byte3 (get_or x k 0))) (byte4 (get_or x k 0))))
      && below 128 (λ k. hint_ok n (hint (processor_id (byte2 (get_or x k 0))) (low16 (get_or x k 0)))))
  unfolding channel_entries_ok channels_on channel_column
  entries =
      rw (
        every_table (λ w. leb w 64) 128 (λ k. byte5 (get_or x k 0)),
        pairs_tables (λ d w. offer_ok n (offer (processor_id d) w)) 128 (λ k. byte3 (get_or x k 0)) (λ k. byte4 (get_or x k 0)),
        pairs_tables (λ d k. hint_ok n (hint (processor_id d) k)) 128 (λ k. byte2 (get_or x k 0)) (λ k. low16 (get_or x k 0)),
      )
      refl

  pub channels_pass_lem : channels_pass n x ≡ channels_tidy && channel_entries_ok n (channels_on x)
  unfolding channels_pass
  channels_pass_lem =
      let p : ℕ → Bool = λ k. eqb (channel_word (channel_of (get_or x k 0))) (get_or x k 0) in
      let q : ℕ → Bool = λ k. leb (byte5 (get_or x k 0)) 64 in
      let r : ℕ → Bool = λ k. offer_ok n (offer (processor_id (byte3 (get_or x k 0))) (byte4 (get_or x k 0))) in
      let s : ℕ → Bool = λ k. hint_ok n (hint_of (get_or x k 0)) in
      below_and 128 p (λ k. q k && (r k && s k))
      ∙ ap (λ (b : Bool). below 128 p && b)
      (below_and 128 q (λ k. r k && s k) ∙ ap (λ (b : Bool). below 128 q && b) (below_and 128 r s) ∙ sym entries)

module _ (n m : ℕ) (x : List ℕ) where
  -- each pointer's number is that of what it holds
  abbrev pub parents_tidy : Bool
  parents_tidy = below 384 (λ k. eqb (hint_word (hint_of (get_or x (320 + 2 * k) 0))) (get_or x (320 + 2 * k) 0))

  family : parents_ok n m (parents_on x)
      ≡ below 384 (λ k. hint_ok n (hint (processor_id (byte2 (get_or x (320 + 2 * k) 0))) (low16 (get_or x (320 + 2 * k) 0))))
      && below 384 (λ k. ltb (get_or x (321 + 2 * k) 0) (2 ^ m))
  unfolding parents_ok parents_on parent_column
  family =
      rw (
        every_table (λ s. ltb s (2 ^ m)) 384 (λ k. get_or x (321 + 2 * k) 0),
        pairs_tables (λ d k. hint_ok n (hint (processor_id d) k)) 384 (λ k. byte2 (get_or x (320 + 2 * k) 0)) (λ k. low16 (get_or x (320 + 2 * k) 0)),
      )
      refl

  pub parents_pass_lem : parents_pass n m x ≡ parents_tidy && parents_ok n m (parents_on x)
  unfolding parents_pass
  parents_pass_lem =
      let p : ℕ → Bool = λ k. eqb (hint_word (hint_of (get_or x (320 + 2 * k) 0))) (get_or x (320 + 2 * k) 0) in
      let q : ℕ → Bool = λ k. hint_ok n (hint_of (get_or x (320 + 2 * k) 0)) in
      let r : ℕ → Bool = λ k. ltb (get_or x (321 + 2 * k) 0) (2 ^ m) in
      below_and 384 p (λ k. q k && r k) ∙ ap (λ (b : Bool). below 384 p && b) (below_and 384 q r ∙ sym family)
