-- The numbers below n, taken together in their order: a test of all, a sum, lists joined.
use Rattle.std.specs.Prelude.{Bool, true, ◌&&◌, List, [], ◌++◌, ℕ, zero, suc, ◌+◌}

-- ((e ∘ f 0) ∘ f 1) ∘ .. ∘ f (n - 1)
unfoldable pub fold : {A : Type 0} → (A → A → A) → A → ℕ → (ℕ → A) → A
fold op e zero f = e
fold op e (suc n) f = op (fold op e n f) (f n)

-- p holds of each number below n
abbrev pub below : ℕ → (ℕ → Bool) → Bool
below n p = fold ◌&&◌ true n p

-- p holds of 1 .. n
abbrev pub up_to : ℕ → (ℕ → Bool) → Bool
up_to n p = below n (λ k. p (suc k))

-- f 0 + .. + f (n - 1)
abbrev pub sum_below : ℕ → (ℕ → ℕ) → ℕ
sum_below n f = fold ◌+◌ 0 n f

-- f 0 ++ .. ++ f (n - 1)
abbrev pub joined : {A : Type 0} → ℕ → (ℕ → List A) → List A
joined n f = fold ◌++◌ [] n f
