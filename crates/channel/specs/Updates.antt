-- A function of numbers with one of its values changed.
use Rattle.std.specs.Prelude.{ℕ}
use Rattle.base.specs.Updates.{updated}

abbrev pub at_number : {A : Type 0} → (ℕ → A) → ℕ → A → ℕ → A
at_number f i a = updated (λ (k : ℕ). k) f i a
