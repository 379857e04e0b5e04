-- Bytes that are put together bit by bit: the result is 0 where each of them is.
use mathlib.Core.Path.{◌≡◌, refl, ◌∙◌}
use mathlib.Core.Bool.{Bool, true, ◌&&◌}
use mathlib.Core.Logic.{by_cases}
use Prim.Native.Nat.{ℕ, ◌+◌}
use native.Mathlib.Numerals.{add-one}
use native.Mathlib.Omega.{arith}
use native.Mathlib.Decide.{ℕ_discrete}
use lib.Bits.{bit_or, or_add_and, and_le_r}
use lib.Dec.{eqb}
use borrow.Author.Tests.{ne_eqb}
use Rattle.base.specs.Range.{fold, below}

-- `any` is 0 where the first k of f are
abbrev pub AllZero : (ℕ → ℕ) → ℕ → ℕ → Type 0
AllZero f k any = eqb any 0 ≡ below k (λ i. eqb (f i) 0)

both_zero : (a b : ℕ) → eqb (bit_or a b) 0 ≡ eqb a 0 && eqb b 0
both_zero a b =
    by_cases
    (ℕ_discrete a 0)
    (λ (e : a ≡ 0). rw e refl)
    (λ ne. rw (ne_eqb a 0 ne) (ne_eqb (bit_or a b) 0 (λ z. ne (omega (arith, or_add_and a b, and_le_r a b)))))

pub zeros_none : (f : ℕ → ℕ) → AllZero f 0 0
unfolding fold
zeros_none f = refl

pub zeros_more : (f : ℕ → ℕ) (k any : ℕ) → AllZero f k any → AllZero f (k + 1) (bit_or any (f k))
unfolding fold
zeros_more f k any h = both_zero any (f k) ∙ rw (add-one k, h) refl

-- each of the tests passes
pub tests_none : (p : ℕ → Bool) → true ≡ below 0 p
unfolding fold
tests_none p = refl

pub tests_more : (p : ℕ → Bool) (k : ℕ) {all b : Bool} → all ≡ below k p → b ≡ p k → all && b ≡ below (k + 1) p
unfolding fold
tests_more p k h e = rw (h, e, add-one k) refl
