-- Laws of a list from which any element may be taken: sums over it, what is in it, and both with one element more or less.
use mathlib.Core.Path.{◌≡◌, refl, sym, ◌∙◌}
use mathlib.Core.Logic.{by_cases, ◌⊎◌, inl, inr, ⊎_elim}
use mathlib.Core.Option.{some}
use mathlib.Core.List.Memᴰ
use mathlib.Core.List.{List, [], ◌∷◌, ◌++◌}
use Prim.Native.Nat.{ℕ, zero, suc, ◌+◌, ◌≤◌}
use native.Mathlib.Omega.{arith}
use native.Mathlib.Decide.{dec_le}
use lib.ListN.{get_elem?, length}
use Rattle.channel.specs.Bags.{In, one, without, total}

module _ {A : Type 0} where
  -- what a place that holds something holds
  held : {x a : A} → some x ≡ some a → x ≡ a
  held e = cc

  module _ (f : A → ℕ) where
    pub total_append : (xs ys : List A) → total f (xs ++ ys) ≡ total f xs + total f ys
    unfolding total
    total_append [] ys = omega arith
    total_append (x ∷ xs) ys = omega (arith, total_append xs ys)

    -- one more at the end
    pub total_post : (xs : List A) (a : A) → total f (xs ++ one a) ≡ total f xs + f a
    unfolding total
    total_post xs a = omega (arith, total_append xs (one a))

    -- one less
    pub total_without : (xs : List A) (i : ℕ) (a : A) → get_elem? xs i ≡ some a → f a + total f (without xs i) ≡ total f xs
    unfolding total without
    total_without [] i a e = let z : ◌≡◌ {A = ℕ} 0 1 = cc in absurd (omega arith)
    total_without (x ∷ xs) zero a e = rw (held e)
    total_without (x ∷ xs) (suc i) a e = omega (arith, total_without xs i a e)

    -- an element is a part of the sum, and a sum that is not 0 has a part that is not
    pub in_total : (xs : List A) (a : A) → In a xs → f a ≤ total f xs
    unfolding total
    in_total [] a h = absurd (Memᴰ.not-nil h)
    in_total (x ∷ xs) a (Memᴰ.head e) = rw e (omega arith)
    in_total (x ∷ xs) a (Memᴰ.tail h) = omega (arith, in_total xs a h)

    pub some_total : (xs : List A) → 1 ≤ total f xs → (a : A) × In a xs × (1 ≤ f a)
    unfolding total
    some_total [] l = absurd (omega arith)
    some_total (x ∷ xs) l =
        by_cases (dec_le 1 (f x)) (λ u. (x, Memᴰ.head refl, u)) (λ u. let (a, h, k) = some_total xs (omega arith) in (a, Memᴰ.tail h, k))

  -- what agrees on each element has one sum
  pub total_same : (f g : A → ℕ) (xs : List A) → ((a : A) → In a xs → f a ≡ g a) → total f xs ≡ total g xs
  unfolding total
  total_same f g [] h = refl
  total_same f g (x ∷ xs) h = omega (arith, h x (Memᴰ.head refl), total_same f g xs (λ a k. h a (Memᴰ.tail k)))

  -- what stands at a place is there
  pub in_at : (xs : List A) (i : ℕ) {a : A} → get_elem? xs i ≡ some a → In a xs
  in_at [] i e = let z : ◌≡◌ {A = ℕ} 0 1 = cc in absurd (omega arith)
  in_at (x ∷ xs) zero e = Memᴰ.head (sym (held e))
  in_at (x ∷ xs) (suc i) e = Memᴰ.tail (in_at xs i e)

  -- what is left was there
  pub in_without : (xs : List A) (i : ℕ) {a : A} → In a (without xs i) → In a xs
  unfolding without
  in_without [] i h = h
  in_without (x ∷ xs) zero h = Memᴰ.tail h
  in_without (x ∷ xs) (suc i) h = ⊎_elim (λ e. Memᴰ.head e) (λ k. Memᴰ.tail (in_without xs i k)) (Memᴰ.cases_cons h)

  -- what was there is left, or is what was taken
  pub in_or_taken : (xs : List A) (i : ℕ) {x a : A} → get_elem? xs i ≡ some x → In a xs → (a ≡ x) ⊎ In a (without xs i)
  unfolding without
  in_or_taken [] i e h = absurd (Memᴰ.not-nil h)
  in_or_taken (y ∷ xs) zero e (Memᴰ.head q) = inl (q ∙ held e)
  in_or_taken (y ∷ xs) zero e (Memᴰ.tail h) = inr h
  in_or_taken (y ∷ xs) (suc i) e (Memᴰ.head q) = inr (Memᴰ.head q)
  in_or_taken (y ∷ xs) (suc i) e (Memᴰ.tail h) = ⊎_elim inl (λ k. inr (Memᴰ.tail k)) (in_or_taken xs i e h)

  -- one more at the end: it, or one that was there
  pub in_post : (xs : List A) {a x : A} → In a (xs ++ one x) → (a ≡ x) ⊎ In a xs
  in_post xs h = ⊎_elim inr (λ q. inl (Memᴰ.eq_of_singleton q)) (Memᴰ.append_cases xs h)

  pub in_new : (xs : List A) (x : A) → In x (xs ++ one x)
  in_new xs x = Memᴰ.append_right xs (Memᴰ.head refl)

  pub in_front : (ys : List A) {xs : List A} {a : A} → In a xs → In a (xs ++ ys)
  in_front ys h = Memᴰ.append_left ys h

  pub length_without : (xs : List A) (i : ℕ) {a : A} → get_elem? xs i ≡ some a → suc (length (without xs i)) ≡ length xs
  unfolding without
  length_without [] i e = let z : ◌≡◌ {A = ℕ} 0 1 = cc in absurd (omega arith)
  length_without (x ∷ xs) zero e = refl
  length_without (x ∷ xs) (suc i) e = omega (arith, length_without xs i e)
