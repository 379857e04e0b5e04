-- A function of a choice, branch by branch, and of each element of a list that is written, joined or tested.
use mathlib.Core.Path.{◌≡◌, refl, ap, ◌∙◌}
use mathlib.Core.Bool.{Bool, true, false}
use mathlib.Core.List.{List, [], ◌∷◌, ◌++◌, map}
use Prim.Native.Nat.{ℕ, zero, suc}
use lib.ListN.{set}
use Rattle.base.specs.Choice.{pick}
use Rattle.base.specs.Range.{fold, joined}
use Rattle.base.specs.Lists.{every}
use Rattle.base.proofs.Tests.{and_left, and_right, and_both}

module _ {A B : Type 0} (f : A → B) where
  -- the branches may know how the test came out
  pub pick_map : (t : Bool) {a b : A} {x y : B} → (t ≡ true → x ≡ f a) → (t ≡ false → y ≡ f b) → pick t x y ≡ f (pick t a b)
  pick_map true p q = p refl
  pick_map false p q = q refl

  -- one of five; where the test before them is `true`, the last ones do not count
  pub choice_map : (t u v w : Bool) (a b c d e : A)
      → pick t (f a) (pick u (f b) (pick v (f c) (pick w (f d) (f e)))) ≡ f (pick t a (pick u b (pick v c (pick w d e))))
  choice_map t u v w a b c d e =
      pick_map t (λ z. refl) (λ z. pick_map u (λ z. refl) (λ z. pick_map v (λ z. refl) (λ z. pick_map w (λ z. refl) (λ z. refl))))

  pub map_set : (l : List A) (i : ℕ) (v : A) → set (map f l) i (f v) ≡ map f (set l i v)
  map_set [] i v = refl
  map_set (x ∷ xs) zero v = refl
  map_set (x ∷ xs) (suc i) v = ap (λ (t : List B). f x ∷ t) (map_set xs i v)

  pub map_append : (l k : List A) → map f (l ++ k) ≡ map f l ++ map f k
  map_append [] k = refl
  map_append (x ∷ xs) k = ap (λ (t : List B). f x ∷ t) (map_append xs k)

  pub map_joined : (n : ℕ) (g : ℕ → List A) → map f (joined n g) ≡ joined n (λ k. map f (g k))
  unfolding fold
  map_joined zero g = refl
  map_joined (suc n) g = map_append (joined n g) (g n) ∙ ap (λ (t : List B). t ++ map f (g n)) (map_joined n g)

  -- a test of each, where it is the same test of what it is made of
  pub every_map : (p : A → Bool) (q : B → Bool) (l : List A) → ((x : A) → q (f x) ≡ p x) → every q (map f l) ≡ every p l
  unfolding every
  every_map p q [] h = refl
  every_map p q (x ∷ xs) h = rw (h x, every_map p q xs h) refl

-- a choice of tests that follow from others
pub pick_follows : (t a b x y : Bool) → (a ≡ true → x ≡ true) → (b ≡ true → y ≡ true) → pick t a b ≡ true → pick t x y ≡ true
pick_follows true a b x y p q h = p h
pick_follows false a b x y p q h = q h

-- a test that follows from another, of each element, and of what is made of it
pub every_follows : {A : Type 0} (p q : A → Bool) (l : List A) → ((x : A) → p x ≡ true → q x ≡ true) → every p l ≡ true → every q l ≡ true
unfolding every
every_follows p q [] h e = refl
every_follows p q (x ∷ xs) h e = and_both (q x) _ (h x (and_left (p x) _ e)) (every_follows p q xs h (and_right (p x) _ e))

pub every_map_follows : {A B : Type 0} (f : A → B) (p : A → Bool) (q : B → Bool) (l : List A) → ((x : A) → p x ≡ true → q (f x) ≡ true) → every p l ≡ true
    → every q (map f l) ≡ true
every_map_follows f p q l h e = every_map f (λ x. q (f x)) q l (λ x. refl) ∙ every_follows p (λ x. q (f x)) l h e
