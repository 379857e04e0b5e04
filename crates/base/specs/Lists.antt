-- Lists: tests of their elements, how many pass one, and a list given by a rule.
use Rattle.std.specs.Prelude.{Bool, true, false, ◌&&◌, ◌||◌, List, [], ◌∷◌, ℕ, zero, suc, ◌+◌}
use Rattle.base.specs.Choice.{pick}

-- p holds of each element
unfoldable pub every : {A : Type 0} → (A → Bool) → List A → Bool
every p [] = true
every p (x ∷ xs) = p x && every p xs

-- p holds of the two elements at each place of both lists
unfoldable pub every_pair : {A : Type 0} {B : Type 0} → (A → B → Bool) → List A → List B → Bool
every_pair p [] ys = true
every_pair p (x ∷ xs) [] = true
every_pair p (x ∷ xs) (y ∷ ys) = p x y && every_pair p xs ys

-- p holds of some element
unfoldable pub any : {A : Type 0} → (A → Bool) → List A → Bool
any p [] = false
any p (x ∷ xs) = p x || any p xs

-- how many elements p holds of
unfoldable pub count : {A : Type 0} → (A → Bool) → List A → ℕ
count p [] = 0
count p (x ∷ xs) = pick (p x) 1 0 + count p xs

-- f 0, .. f (n - 1), and then xs
unfoldable pub table_before : {A : Type 0} → ℕ → (ℕ → A) → List A → List A
table_before zero f xs = xs
table_before (suc n) f xs = table_before n f (f n ∷ xs)

-- f 0, .. f (n - 1)
unfoldable pub table : {A : Type 0} → ℕ → (ℕ → A) → List A
table n f = table_before n f []
