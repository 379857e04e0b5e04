-- The first member of a set in the order of numbers stands behind the set's trailing zeros.
use mathlib.Core.Path.{◌≡◌, refl, sym, ◌∙◌}
use mathlib.Core.Logic.{by_cases}
use Prim.Native.Nat.{ℕ, zero, suc, ◌+◌, ◌*◌, ◌-◌, ◌/◌, ◌%◌, ◌^◌, ◌<◌, ◌≤◌}
use native.Mathlib.Nat.{mod-lt, mul-one}
use native.Mathlib.Omega.{arith}
use native.Mathlib.Decide.{dec_lt}
use lib.Bits.{shifted_half, shifted_even}
use lib.Count.{count_trailing_zeros, under}
use lib.Dec.{eqb, ltb}
use lib.Pow.{shr-shr}
use borrow.Author.Tests.{lt-ltb, le-ltb, ne_eqb}
use Rattle.base.specs.Choice.{pick}
use Rattle.base.specs.Sets.{member}
use Rattle.rules.specs.Dispatch.{first_from, next_ready}

both_more : (a b : ℕ) → ltb (suc a) (suc b) ≡ ltb a b
both_more a b =
    by_cases (dec_lt a b) (λ l. lt-ltb (suc a) (suc b) (omega arith) ∙ sym (lt-ltb a b l)) (λ l. le-ltb (suc a) (suc b) (omega arith) ∙ sym (le-ltb a b (omega arith)))

-- one digit, and those above it
module _ (k j a s : ℕ) (later : first_from k (suc (suc a)) s ≡ pick (ltb (count_trailing_zeros j (s / 2 ^ a / 2)) k) (suc (suc a) + count_trailing_zeros j (s / 2 ^ a / 2)) 0) where
  abbrev z : ℕ
  z = count_trailing_zeros j (s / 2 ^ a / 2)

  one_more_lem : (b : ℕ) → b < 2 → pick (eqb b 1) (suc a) (first_from k (suc (suc a)) s) ≡ pick (ltb (under b z) (suc k)) (suc a + under b z) 0
  one_more_lem zero l =
      let e : suc (suc a) + z ≡ suc a + suc z = omega arith in
      rw (later, e, both_more z k) refl
  one_more_lem (suc zero) l = let e : suc a + 0 ≡ suc a = omega arith in rw (lt-ltb 0 (suc k) (omega arith), e) refl
  one_more_lem (suc (suc b)) l = absurd (omega arith)

-- of k numbers from a + 1 on, by the j digits above the lowest a
first_from_lem : (k j a s : ℕ) → k ≤ j → first_from k (suc a) s ≡ pick (ltb (count_trailing_zeros j (s / 2 ^ a)) k) (suc a + count_trailing_zeros j (s / 2 ^ a)) 0
unfolding first_from count_trailing_zeros member
first_from_lem zero j a s l = rw (le-ltb (count_trailing_zeros j (s / 2 ^ a)) 0 (omega arith)) refl
first_from_lem (suc k) zero a s l = absurd (omega arith)
first_from_lem (suc k) (suc j) a s l =
    let e : suc a - 1 ≡ a = omega arith in
    let f : suc a ≡ a + 1 = omega arith in
    let h : s / 2 ^ suc a ≡ s / 2 ^ a / 2 = rw f (sym (shr-shr s a 1)) in
    let later = first_from_lem k j (suc a) s (omega arith) in
    rw e (one_more_lem k j a s (rw h at later) (s / 2 ^ a % 2) (mod-lt (s / 2 ^ a) (omega arith)))

-- a set whose lowest a digits are cleared
cleared : (a k x : ℕ) → count_trailing_zeros (a + k) (x * 2 ^ a) ≡ a + count_trailing_zeros k x
unfolding count_trailing_zeros
cleared zero k x = let e : 0 + k ≡ k = omega arith in rw (mul-one x, e) (omega arith)
cleared (suc a) k x =
    let e : suc a + k ≡ suc (a + k) = omega arith in
    rw (e, shifted_even x a, shifted_half x a, cleared a k x) (omega arith)

-- the next of tasks 1 .. m, where the trailing zeros of the masked set and of the whole set are y and z
module _ (m a s : ℕ) {y z : ℕ} (few : m ≤ 64) (last : a ≤ 64) (ye : y ≡ count_trailing_zeros 64 (s / 2 ^ a * 2 ^ a)) (ze : z ≡ count_trailing_zeros 64 s) where
  abbrev u : ℕ
  u = count_trailing_zeros (64 - a) (s / 2 ^ a)

  split : y ≡ a + u
  split = let e : a + (64 - a) ≡ 64 = omega arith in ye ∙ (rw e at (cleared a (64 - a) (s / 2 ^ a)))

  later : first_from (m - a) (suc a) s ≡ pick (ltb u (m - a)) (suc a + u) 0
  later = first_from_lem (m - a) (64 - a) a s (omega arith)

  round : first_from a 1 s ≡ pick (ltb z a) (1 + z) 0
  round =
      let e : s / 1 ≡ s = omega arith in
      let f = first_from_lem a 64 0 s last in
      rw ze (rw e at f)

  pub next_later : y < m → next_ready m a s ≡ y + 1
  unfolding next_ready
  next_later h =
      let p = split in
      let q : suc a + u ≡ y + 1 = omega arith in
      rw (later, lt-ltb u (m - a) (omega arith), q, ne_eqb (y + 1) 0 (λ w. omega arith)) refl

  pub next_round : m ≤ y → z < a → next_ready m a s ≡ z + 1
  unfolding next_ready
  next_round h i =
      let p = split in
      let q : 1 + z ≡ z + 1 = omega arith in
      rw (later, le-ltb u (m - a) (omega arith), round, lt-ltb z a i, q) refl

  pub next_none : m ≤ y → a ≤ z → next_ready m a s ≡ 0
  unfolding next_ready
  next_none h i = let p = split in rw (later, le-ltb u (m - a) (omega arith), round, le-ltb z a i) refl
