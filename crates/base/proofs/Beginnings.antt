-- Laws of beginnings: a list is one of itself and of itself with more behind it, and a beginning of a beginning is one.
use mathlib.Core.Path.{refl, sym}
use mathlib.Core.List.{List, [], ◌++◌, append_assoc, append-nil}
use Rattle.base.specs.Beginnings.{Beginning}

module _ {A : Type 0} where
  pub beginning_more : (xs ys : List A) → Beginning xs (xs ++ ys)
  beginning_more xs ys = record { rest = ys; whole = refl }

  pub beginning_whole : (xs : List A) → Beginning xs xs
  beginning_whole xs = record { rest = []; whole = sym (append-nil xs) }

  pub beginning_trans : (xs ys zs : List A) → Beginning xs ys → Beginning ys zs → Beginning xs zs
  beginning_trans xs ys zs p q = record { rest = p.rest ++ q.rest; whole = rw (q.whole, p.whole) (append_assoc xs p.rest q.rest) }
