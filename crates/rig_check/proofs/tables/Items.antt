-- A test of each item is std's test of a list; of pairs, of each pair of a zip.
use mathlib.Core.Path.{◌≡◌, refl}
use mathlib.Core.Bool.{Bool}
use mathlib.Core.List.{List, [], ◌∷◌, map}
use Rattle.std.specs.List.{list_all, zip}
use Rattle.base.specs.Lists.{every, every_pair}

pub every_item : {A : Type 0} (p : A → Bool) (xs : List A) → list_all p xs ≡ every p xs
unfolding every
every_item p [] = refl
every_item p (x ∷ xs) = rw (every_item p xs) refl

pub every_mapped : {A B : Type 0} (f : A → B) (p : B → Bool) (xs : List A) → list_all (λ x. p (f x)) xs ≡ every p (map f xs)
unfolding every
every_mapped f p [] = refl
every_mapped f p (x ∷ xs) = rw (every_mapped f p xs) refl

pub every_zipped : {A B : Type 0} (p : A → B → Bool) (xs : List A) (ys : List B) → list_all (λ q. p q.0 q.1) (zip xs ys) ≡ every_pair p xs ys
unfolding every_pair
every_zipped p [] ys = refl
every_zipped p (x ∷ xs) [] = refl
every_zipped p (x ∷ xs) (y ∷ ys) = rw (every_zipped p xs ys) refl
