-- A beginning of a list.
use Rattle.std.specs.Prelude.{◌≡◌, List, ◌++◌}

-- "a beginning may be empty or whole": xs is a beginning of ys
pub record Beginning {A : Type 0} (xs ys : List A) : Type 0 where
  pub rest : List A
  pub whole : ys ≡ xs ++ rest
