-- Numbers in decimal: how much fuel does not matter, one digit more, and how many there are.
use mathlib.Core.Path.{◌≡◌, refl}
use mathlib.Core.Logic.{by_cases}
use mathlib.Core.List.{[], ◌∷◌, ◌++◌}
use Prim.Native.Nat.{ℕ, zero, suc, ◌+◌, ◌^◌, ◌/◌, ◌%◌, ◌≤◌, ◌<◌}
use native.Mathlib.Nat.{pow-succ'}
use native.Mathlib.Decide.{dec_lt}
use native.Mathlib.Omega.{arith}
use lib.ListN.{length, length-append}
use borrow.Author.Tests.{lt-ltb, le-ltb}
use Rattle.rules.specs.Trace.{digits, decimal}

-- fuel beyond the number is enough
pub same_digits : (k j n : ℕ) → n < k → n < j → digits k n ≡ digits j n
unfolding digits
same_digits zero j n h i = absurd (omega arith)
same_digits (suc k) zero n h i = absurd (omega arith)
same_digits (suc k) (suc j) n h i =
    by_cases (dec_lt n 10) (λ (l : n < 10). rw (lt-ltb n 10 l) refl)
    (λ g. rw (le-ltb n 10 (omega arith), same_digits k j (n / 10) (omega arith) (omega arith)) refl)

pub decimal_one : (n : ℕ) → n < 10 → decimal n ≡ (48 + n) ∷ []
unfolding digits
decimal_one n h = rw (lt-ltb n 10 h) refl

-- the last digit behind the others
pub decimal_more : (n : ℕ) → 10 ≤ n → decimal n ≡ decimal (n / 10) ++ ((48 + n % 10) ∷ [])
unfolding digits
decimal_more n h = rw (le-ltb n 10 h, same_digits n (suc (n / 10)) (n / 10) (omega arith) (omega arith)) refl

pub length_more : (n : ℕ) → 10 ≤ n → length (decimal n) ≡ length (decimal (n / 10)) + 1
length_more n h = rw (decimal_more n h) (length-append (decimal (n / 10)) ((48 + n % 10) ∷ []))

pub some_digit : (n : ℕ) → 1 ≤ length (decimal n)
some_digit n =
    by_cases (dec_lt n 10) (λ (l : n < 10). rw (decimal_one n l) (omega arith)) (λ g. rw (length_more n (omega arith)) (omega arith))

-- a number below 10 ^ k has at most k digits
pub few_digits : (k n : ℕ) → n < 10 ^ suc k → length (decimal n) ≤ suc k
few_digits zero n h = rw (decimal_one n h) (omega arith)
few_digits (suc k) n h =
    by_cases (dec_lt n 10) (λ (l : n < 10). rw (decimal_one n l) (omega arith))
    (λ g. rw (length_more n (omega arith)) (omega (arith, few_digits k (n / 10) (omega (arith, h, pow-succ' 10 (suc k))))))

pub five_digits : (n : ℕ) → n < 100000 → length (decimal n) ≤ 5
five_digits n h = few_digits 4 n h
