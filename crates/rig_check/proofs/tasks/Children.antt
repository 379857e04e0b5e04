-- A set of tasks, one bit each, that a shift empties: it has no task above the shift.
use mathlib.Core.Path.{◌≡◌, refl}
use mathlib.Core.Bool.{Bool, true, false}
use Prim.Native.Nat.{ℕ, ◌*◌, ◌/◌, ◌^◌, ◌<◌, ◌≤◌}
use native.Mathlib.Nat.{div-eq_of_lt, le-div_iff_mul-le, pow-le-pow_right}
use native.Mathlib.Omega.{arith}
use lib.Dec.{eqb, ltb}
use lib.Pow.{pow_pos}
use borrow.Author.Tests.{ltb-true, ltb-false, lt-ltb, eq-eqb, ne_eqb}

pub shifted_out : (x k : ℕ) → eqb (x / 2 ^ k) 0 ≡ ltb x (2 ^ k)
shifted_out x k = go (ltb x (2 ^ k)) refl
  where
    go : (b : Bool) → ltb x (2 ^ k) ≡ b → eqb (x / 2 ^ k) 0 ≡ b
    go true h = eq-eqb (x / 2 ^ k) 0 (div-eq_of_lt (ltb-true x (2 ^ k) h))
    go false h =
        let l : 2 ^ k ≤ x = ltb-false x (2 ^ k) h in
        let o : 1 * 2 ^ k ≤ x = omega arith in
        let q : 1 ≤ x / 2 ^ k = (le-div_iff_mul-le {x = 1} {y = x} (pow_pos k)).1 o in
        ne_eqb (x / 2 ^ k) 0 (λ (e : x / 2 ^ k ≡ 0). omega arith)

-- 64 bits are no more than 64 tasks
pub word_fits_lem : (x m : ℕ) → x < 18446744073709551616 → 64 ≤ m → ltb x (2 ^ m) ≡ true
word_fits_lem x m h l =
    let p : 18446744073709551616 ≤ 2 ^ m = pow-le-pow_right {n = 2} (omega arith) {i = 64} l in
    lt-ltb x (2 ^ m) (omega arith)
