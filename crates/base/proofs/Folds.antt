-- Laws of what is taken together over the numbers below n, for any operation: one number more, and, where the operation is
-- associative, two ranges one after the other, a grid row by row, and the front of a range.
use mathlib.Core.Path.{◌≡◌, refl, sym, ◌∙◌, ap}
use Prim.Native.Nat.{ℕ, zero, suc, ◌+◌, ◌*◌, ◌-◌, ◌<◌, ◌≤◌}
use native.Mathlib.Nat.{add-zero, add-suc, mul-zero, mul-suc}
use native.Mathlib.Numerals.{add-one}
use native.Mathlib.Omega.{arith}
use lib.Dec.{ltb}
use borrow.Author.Tests.{lt-ltb, le-ltb}
use Rattle.base.specs.Choice.{pick}
use Rattle.base.specs.Range.{fold}

module _ {A : Type 0} (op : A → A → A) (e : A) where
  pub fold_none : (f : ℕ → A) → fold op e 0 f ≡ e
  unfolding fold
  fold_none f = refl

  pub fold_more : (n : ℕ) (f : ℕ → A) → fold op e (n + 1) f ≡ op (fold op e n f) (f n)
  unfolding fold
  fold_more n f = rw (add-one n) refl

  pub fold_same : (n : ℕ) (f g : ℕ → A) → ((i : ℕ) → i < n → f i ≡ g i) → fold op e n f ≡ fold op e n g
  unfolding fold
  fold_same zero f g h = refl
  fold_same (suc n) f g h = rw (fold_same n f g (λ i q. h i (omega arith)), h n (omega arith)) refl

module _ {A : Type 0} (op : A → A → A) (e : A) (assoc : (a b c : A) → op (op a b) c ≡ op a (op b c)) (unit : (a : A) → op a e ≡ a) where
  pub fold_add : (n m : ℕ) (f : ℕ → A) → fold op e (n + m) f ≡ op (fold op e n f) (fold op e m (λ i. f (n + i)))
  unfolding fold
  fold_add n zero f = rw (add-zero n, unit (fold op e n f)) refl
  fold_add n (suc m) f = rw (add-suc n m, fold_add n m f, assoc) refl

  -- n rows of w
  pub fold_grid : (w n : ℕ) (f : ℕ → A) → fold op e (w * n) f ≡ fold op e n (λ k. fold op e w (λ i. f (w * k + i)))
  unfolding fold
  fold_grid w zero f = rw (mul-zero w) refl
  fold_grid w (suc n) f = rw (mul-suc w n, fold_add (w * n) w f, fold_grid w n f) refl

  -- nothing in a range
  none_between : (n m : ℕ) (f : ℕ → A) → ((i : ℕ) → n ≤ i → i < n + m → f i ≡ e) → fold op e (n + m) f ≡ fold op e n f
  unfolding fold
  none_between n zero f h = rw (add-zero n) refl
  none_between n (suc m) f h =
      rw (add-suc n m, h (n + m) (omega arith) (omega arith), unit) (none_between n m f (λ i p q. h i p (omega arith)))

  pub fold_skip : (n k : ℕ) (f : ℕ → A) → n ≤ k → ((i : ℕ) → n ≤ i → i < k → f i ≡ e) → fold op e n f ≡ fold op e k f
  fold_skip n k f h none =
      let s : n + (k - n) ≡ k = omega arith in
      sym (none_between n (k - n) f (λ i p q. none i p (omega arith))) ∙ ap (λ (m : ℕ). fold op e m f) s

  -- the first n of w
  pub fold_front : (n w : ℕ) (f : ℕ → A) → n ≤ w → fold op e w (λ i. pick (ltb i n) (f i) e) ≡ fold op e n f
  fold_front n w f h =
      let g : ℕ → A = λ i. pick (ltb i n) (f i) e in
      sym (fold_skip n w g h (λ i p q. simp (le-ltb i n p))) ∙ fold_same op e n g f (λ i q. simp (lt-ltb i n q))
