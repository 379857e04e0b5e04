-- Laws of lists that are given by a rule.
use mathlib.Core.Path.{◌≡◌, refl, sym, ◌∙◌, ap}
use mathlib.Core.Bool.{Bool, ◌&&◌}
use mathlib.Core.List.{List, [], ◌∷◌, ◌++◌, append_assoc, append-nil}
use mathlib.Core.Logic.{◌≢◌, by_cases}
use Prim.Native.Nat.{ℕ, zero, suc, ◌+◌, ◌<◌}
use native.Mathlib.Nat.{add-zero, add-suc}
use native.Mathlib.Numerals.{add-one}
use native.Mathlib.Omega.{arith}
use native.Mathlib.Decide.{ℕ_discrete}
use lib.ListN.{length, length-append, get_or, set, replicate, length-set, length-replicate, get_or-replicate, get_or-append}
use lib.Seq.{ext_get_or, get_or-append-add, get_or-set_same, get_or-set_other}
use Rattle.base.specs.Range.{fold, below}
use Rattle.base.specs.Lists.{every, table, table_before}
use Rattle.base.proofs.Tests.{and_true, every_append}

module _ {A : Type 0} where
  table_before_lem : (n : ℕ) (f : ℕ → A) (xs : List A) → table_before n f xs ≡ table n f ++ xs
  unfolding table table_before
  table_before_lem zero f xs = refl
  table_before_lem (suc n) f xs =
      table_before_lem n f (f n ∷ xs) ∙ sym (append_assoc (table n f) (f n ∷ []) xs) ∙ ap (λ (l : List A). l ++ xs) (sym (table_before_lem n f (f n ∷ [])))

  table_suc : (n : ℕ) (f : ℕ → A) → table (suc n) f ≡ table n f ++ (f n ∷ [])
  unfolding table table_before
  table_suc n f = table_before_lem n f (f n ∷ [])

  pub table_more : (n : ℕ) (f : ℕ → A) → table (n + 1) f ≡ table n f ++ (f n ∷ [])
  table_more n f = rw (add-one n) (table_suc n f)

  pub length_table : (n : ℕ) (f : ℕ → A) → length (table n f) ≡ n
  length_table zero f = unfold table table_before in refl
  length_table (suc n) f = rw (table_suc n f, length-append, length_table n f) (omega arith)

  pub get_d_table : (n : ℕ) (f : ℕ → A) (i : ℕ) (d : A) → i < n → get_or (table n f) i d ≡ f i
  get_d_table zero f i d h = absurd (omega arith)
  get_d_table (suc n) f i d h =
      by_cases
      (ℕ_discrete i n)
      (λ (q : i ≡ n). rw (table_suc n f, q) (last n f d))
      (λ q. rw (table_suc n f, get_or-append (table n f) (f n ∷ []) d i (rw (length_table n f) (omega arith))) (get_d_table n f i d (omega arith)))
    where
      last : (n : ℕ) (f : ℕ → A) (d : A) → get_or (table n f ++ (f n ∷ [])) n d ≡ f n
      last n f d =
          ap (λ (k : ℕ). get_or (table n f ++ (f n ∷ [])) k d) (sym (length_table n f) ∙ sym (add_0 (length (table n f))))
          ∙ get_or-append-add (table n f) (f n ∷ []) 0 d
        where
          add_0 : (k : ℕ) → k + 0 ≡ k
          add_0 k = omega arith

  pub table_same : (n : ℕ) (f g : ℕ → A) → ((i : ℕ) → i < n → f i ≡ g i) → table n f ≡ table n g
  table_same zero f g h = unfold table table_before in refl
  table_same (suc n) f g h = rw (table_suc n f, table_suc n g, table_same n f g (λ i q. h i (omega arith)), h n (omega arith)) refl

  -- a table is two tables, one after the other
  pub table_split : (n k : ℕ) (f g h : ℕ → A) → ((i : ℕ) → i < n → f i ≡ g i) → ((i : ℕ) → i < k → f (n + i) ≡ h i)
      → table (n + k) f ≡ table n g ++ table k h
  table_split n zero f g h p q =
      rw (add-zero n, table_same n f g p) (sym (append-nil (table n g)) ∙ ap (λ (l : List A). table n g ++ l) (unfold table table_before in refl))
  table_split n (suc k) f g h p q =
      rw (add-suc n k, table_suc (n + k) f, table_split n k f g h p (λ i l. q i (omega arith)), table_suc k h, q k (omega arith))
      (append_assoc (table n g) (table k h) (h k ∷ []))

  -- a list is the table of its elements
  pub as_table : (l : List A) (d : A) → table (length l) (λ i. get_or l i d) ≡ l
  as_table l d =
      ext_get_or d (table (length l) (λ i. get_or l i d)) l
      (length_table (length l) (λ i. get_or l i d))
      (λ i h. get_d_table (length l) (λ i. get_or l i d) i d (rw (length_table (length l) (λ i. get_or l i d)) at h))

  -- one value throughout
  pub all_same : (n : ℕ) (f : ℕ → A) (d : A) → ((i : ℕ) → i < n → f i ≡ d) → replicate n d ≡ table n f
  all_same n f d h =
      ext_get_or d (replicate n d) (table n f)
      (length-replicate n d ∙ sym (length_table n f))
      (λ i q.
      let l : i < n = rw (length-replicate n d) at q in
      get_or-replicate n i d d l ∙ sym (h i l) ∙ sym (get_d_table n f i d l))

  -- a store changes one entry
  pub set_table : (n : ℕ) (f g : ℕ → A) (i : ℕ) (d : A) → i < n → ((j : ℕ) → j < n → j ≢ i → f j ≡ g j) → set (table n f) i (g i) ≡ table n g
  set_table n f g i d h same =
      ext_get_or d (set (table n f) i (g i)) (table n g)
      (simp (length-set, length_table))
      (λ j q.
      let b : j < n = simp (length-set, length_table) at q in
      by_cases
      (ℕ_discrete j i)
      (λ (e : j ≡ i). rw e (get_or-set_same (table n f) i (g i) d (rw (length_table n f) h) ∙ sym (get_d_table n g i d h)))
      (λ e. get_or-set_other (table n f) i j (g i) d e ∙ get_d_table n f j d b ∙ same j b e ∙ sym (get_d_table n g j d b)))

  -- a test of each element of a table is a test of each number
  pub every_table : (p : A → Bool) (n : ℕ) (f : ℕ → A) → every p (table n f) ≡ below n (λ i. p (f i))
  unfolding fold
  every_table p zero f = unfold table table_before every in refl
  every_table p (suc n) f =
      rw (table_suc n f, every_append p (table n f) (f n ∷ []), every_table p n f) (unfold every in ap (λ (b : Bool). below n (λ i. p (f i)) && b) (and_true (p (f n))))
