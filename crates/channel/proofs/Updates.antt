-- Laws of a function of numbers with one of its values changed: what holds of each value, and a change that changes nothing.
use mathlib.Core.Path.{◌≡◌, sym, ap, fun_ext, ◌∙◌}
use mathlib.Core.Logic.{◌≢◌, by_cases}
use Prim.Native.Nat.{ℕ}
use native.Mathlib.Decide.{ℕ_discrete}
use Rattle.base.proofs.Updates.{updated_at, updated_other}
use Rattle.channel.specs.Updates.{at_number}

module _ {A : Type 0} (f : ℕ → A) (i : ℕ) (a : A) where
  -- from where the value at j comes
  pub at_cases : {C : Type 0} (j : ℕ) → (j ≡ i → at_number f i a j ≡ a → C) → (j ≢ i → at_number f i a j ≡ f j → C) → C
  at_cases j new old = by_cases (ℕ_discrete j i) (λ e. new e (updated_at (λ k. k) f i j a e)) (λ ne. old ne (updated_other (λ k. k) f i j a ne))

-- to prove something of every value: of the new one, and of each old one
pub at_elim : {A : Type 0} (Q : ℕ → A → Type 0) (f : ℕ → A) (i : ℕ) (a : A) → Q i a → ((j : ℕ) → j ≢ i → Q j (f j)) → (j : ℕ) → Q j (at_number f i a j)
at_elim Q f i a new old j = at_cases f i a j (λ (e : j ≡ i) q. rw (q, e) new) (λ ne q. rw q (old j ne))

-- the value already there
pub at_self : {A : Type 0} (f : ℕ → A) (i : ℕ) → at_number f i (f i) ≡ f
at_self f i = fun_ext λ k. at_cases f i (f i) k (λ e q. q ∙ ap f (sym e)) (λ ne q. q)
