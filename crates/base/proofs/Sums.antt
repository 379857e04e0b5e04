-- Laws of sums over the numbers below n: of one number again and again, of a multiple, a bound; where each part is at most another, and where
-- one is less; where one part is changed; where all parts are 0.
use mathlib.Core.Path.{◌≡◌, refl, sym}
use mathlib.Core.Logic.{◌≢◌, by_cases}
use Prim.Native.Nat.{ℕ, zero, suc, ◌+◌, ◌*◌, ◌<◌, ◌≤◌}
use native.Mathlib.Decide.{ℕ_discrete}
use native.Mathlib.Nat.{mul-zero, mul-suc, mul-add}
use native.Mathlib.Omega.{arith}
use lib.Dec.{eqb}
use borrow.Author.Tests.{ne_eqb}
use Rattle.base.specs.Range.{fold, below, sum_below}
use Rattle.base.proofs.Folds.{fold_same}
use Rattle.base.proofs.Tests.{and_true, and_false}

pub sum_const : (w n : ℕ) → sum_below n (λ k. w) ≡ w * n
unfolding fold
sum_const w zero = rw (mul-zero w) refl
sum_const w (suc n) = rw (mul-suc w n, sum_const w n) refl

pub sum_scaled : (w n : ℕ) (f : ℕ → ℕ) → sum_below n (λ k. w * f k) ≡ w * sum_below n f
unfolding fold
sum_scaled w zero f = rw (mul-zero w) refl
sum_scaled w (suc n) f = rw (mul-add w (sum_below n f) (f n), sum_scaled w n f) refl

pub sum_at_most : (w n : ℕ) (f : ℕ → ℕ) → ((k : ℕ) → k < n → f k ≤ w) → sum_below n f ≤ w * n
unfolding fold
sum_at_most w zero f h = rw (mul-zero w) (omega arith)
sum_at_most w (suc n) f h = rw (mul-suc w n) (omega (arith, sum_at_most w n f (λ k l. h k (omega arith)), h n (omega arith)))

pub sum_le : (n : ℕ) (f g : ℕ → ℕ) → ((k : ℕ) → k < n → f k ≤ g k) → sum_below n f ≤ sum_below n g
unfolding fold
sum_le zero f g h = omega arith
sum_le (suc n) f g h = omega (arith, h n (omega arith), sum_le n f g (λ k l. h k (omega arith)))

pub sum_less : (n : ℕ) (f g : ℕ → ℕ) → ((k : ℕ) → k < n → f k ≤ g k) → (j : ℕ) → j < n → f j < g j → sum_below n f < sum_below n g
unfolding fold
sum_less zero f g h j l s = absurd (omega arith)
sum_less (suc n) f g h j l s =
    by_cases
    (ℕ_discrete j n)
    (λ (e : j ≡ n). let s' : f n < g n = rw e at s in omega (arith, sum_le n f g (λ k l. h k (omega arith))))
    (λ ne. omega (arith, h n (omega arith), sum_less n f g (λ k l. h k (omega arith)) j (omega arith) s))

-- g is f but at i
pub sum_changed : (n i : ℕ) (f g : ℕ → ℕ) → i < n → ((j : ℕ) → j < n → j ≢ i → g j ≡ f j) → sum_below n g + f i ≡ sum_below n f + g i
unfolding fold
sum_changed zero i f g l same = absurd (omega arith)
sum_changed (suc n) i f g l same =
    by_cases
    (ℕ_discrete i n)
    (λ (e : i ≡ n). let before : sum_below n g ≡ sum_below n f = fold_same ◌+◌ 0 n g f (λ j h. same j (omega arith) (λ z. omega arith)) in rw (e, before) (omega arith))
    (λ ne. let last = same n (omega arith) (λ z. ne (sym z)) in let rest = sum_changed n i f g (omega arith) (λ j h. same j (omega arith)) in omega arith)

pub sum_none : (n : ℕ) (f : ℕ → ℕ) → eqb (sum_below n f) 0 ≡ below n (λ k. eqb (f k) 0)
unfolding fold
sum_none zero f = refl
sum_none (suc n) f =
    by_cases
    (ℕ_discrete (f n) 0)
    (λ (e : f n ≡ 0). let same : sum_below n f + f n ≡ sum_below n f = omega arith in rw (same, e, sum_none n f) (sym (and_true (below n (λ k. eqb (f k) 0)))))
    (λ ne. rw (ne_eqb (sum_below n f + f n) 0 (λ z. ne (omega arith)), ne_eqb (f n) 0 ne) (sym (and_false (below n (λ k. eqb (f k) 0)))))
