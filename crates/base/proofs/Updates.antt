-- Laws of a function with one of its values changed: read at the same and at another place, and two changes in either order.
use mathlib.Core.Path.{◌≡◌, refl, sym, ◌∙◌, fun_ext}
use mathlib.Core.Logic.{◌≢◌}
use Prim.Native.Nat.{ℕ}
use native.Mathlib.Decide.{ℕ_discrete}
use borrow.Author.Tests.{eq-eqb, ne_eqb}
use Rattle.base.specs.Updates.{updated}

module _ {K : Type 0} {A : Type 0} (key : K → ℕ) (f : K → A) where
  pub updated_at : (k j : K) (a : A) → key j ≡ key k → updated key f k a j ≡ a
  unfolding updated
  updated_at k j a e = rw (eq-eqb (key j) (key k) e) refl

  pub updated_same : (k : K) (a : A) → updated key f k a k ≡ a
  updated_same k a = updated_at k k a refl

  pub updated_other : (k j : K) (a : A) → key j ≢ key k → updated key f k a j ≡ f j
  unfolding updated
  updated_other k j a ne = rw (ne_eqb (key j) (key k) ne) refl

module _ {K : Type 0} {A : Type 0} (key : K → ℕ) (f : K → A) (i j : K) (a b : A) where
  -- two changes that do not contradict each other
  pub updated_swap : (key i ≡ key j → a ≡ b) → updated key (updated key f i a) j b ≡ updated key (updated key f j b) i a
  updated_swap same = fun_ext λ k. go k (ℕ_discrete (key k) (key i)) (ℕ_discrete (key k) (key j))
    where
      go : (k : K) → Dec (key k ≡ key i) → Dec (key k ≡ key j) → updated key (updated key f i a) j b k ≡ updated key (updated key f j b) i a k
      go k (yes p) (yes q) = simp (updated_at) (sym (same (sym p ∙ q)))
      go k (yes p) (no q) = simp (updated_at, updated_other)
      go k (no p) (yes q) = simp (updated_at, updated_other)
      go k (no p) (no q) = simp (updated_other)

  pub updated_comm : key i ≢ key j → updated key (updated key f i a) j b ≡ updated key (updated key f j b) i a
  updated_comm ne = updated_swap (λ e. absurd (ne e))
