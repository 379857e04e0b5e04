-- A function with one of its values changed. What it is a function of is told apart by a number.
use Rattle.std.specs.Prelude.{ℕ, eqb}
use Rattle.base.specs.Choice.{pick}

-- f, but a at k
unfoldable pub updated : {K A : Type 0} → (K → ℕ) → (K → A) → K → A → K → A
updated key f k a j = pick (eqb (key j) (key k)) a (f j)
