-- Laws of a choice: what holds of the one where the test holds and of the other where it fails, a function of the choice, and what stands
-- behind a refusal.
use mathlib.Core.Path.{◌≡◌, refl}
use mathlib.Core.Bool.{Bool, true, false}
use mathlib.Core.Logic.{◌≢◌}
use Rattle.base.specs.Choice.{pick, unless}

module _ {A : Type 0} where
  pub pick_cases : (P : A → Type 0) (t : Bool) (a b : A) → (t ≡ true → P a) → (t ≡ false → P b) → P (pick t a b)
  pick_cases P true a b p q = p refl
  pick_cases P false a b p q = q refl

  pub pick_either : (P : A → Type 0) (t : Bool) (a b : A) → P a → P b → P (pick t a b)
  pick_either P t a b p q = pick_cases P t a b (λ e. p) (λ e. q)

  pub pick_under : {B : Type 0} (f : A → B) (t : Bool) (a b : A) → f (pick t a b) ≡ pick t (f a) (f b)
  pick_under f true a b = refl
  pick_under f false a b = refl

  pub unless_under : {B : Type 0} (f : A → B) (ok : Bool) (refusal rest : A) → unless ok (f refusal) (f rest) ≡ f (unless ok refusal rest)
  unless_under f true refusal rest = refl
  unless_under f false refusal rest = refl

  -- what is not the refusal has passed the test
  pub unless_not_refused : (ok : Bool) (refusal rest x : A) → refusal ≢ x → unless ok refusal rest ≡ x → (ok ≡ true) × (rest ≡ x)
  unless_not_refused true refusal rest x ne h = (refl, h)
  unless_not_refused false refusal rest x ne h = absurd (ne h)
