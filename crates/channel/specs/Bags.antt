-- Letters as a list from which any one may be taken, whatever they are.
use mathlib.Core.List.{List, [], ◌∷◌, Memᴰ}
use Rattle.std.specs.Prelude.{ℕ, zero, suc, ◌+◌}

abbrev pub In : {A : Type 0} → A → List A → Type 0
In a xs = Memᴰ a xs

abbrev pub one : {A : Type 0} → A → List A
one a = a ∷ []

-- the list without what stands at place i, from 0
unfoldable pub without : {A : Type 0} → List A → ℕ → List A
without [] i = []
without (x ∷ xs) zero = xs
without (x ∷ xs) (suc i) = x ∷ without xs i

-- the sum of f over it
unfoldable pub total : {A : Type 0} → (A → ℕ) → List A → ℕ
total f [] = 0
total f (x ∷ xs) = f x + total f xs
