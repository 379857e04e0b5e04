-- The numbers of a board with their fields alone: what the code computes is what the definitions say.
use mathlib.Core.Path.{◌≡◌, refl, sym, ◌∙◌}
use Prim.Native.Nat.{ℕ, zero, suc, ◌+◌, ◌*◌, ◌-◌, ◌/◌, ◌%◌, ◌<◌, ◌≤◌}
use native.Mathlib.Omega.{arith}
use lib.Dec.{eqb}
use borrow.Author.Tests.{ne_eqb}
use Rattle.board.specs.packing.Packed.{channel_of, task_of, state_of, state_number, bit}
use Rattle.rig_write.specs.Sections.{channel_tidy, task_tidy, hint_tidy}

-- one bit
bit_same : (n : ℕ) → n < 2 → bit (eqb n 1) ≡ n
bit_same zero h = refl
bit_same (suc zero) h = refl
bit_same (suc (suc n)) h = absurd (omega arith)

module _ (v : ℕ) where
  pub hint_tidy_lem : v % 16777216 ≡ hint_tidy v
  unfolding hint_tidy
  hint_tidy_lem = omega arith

  c24 : v % 16777216 ≡ v % 65536 + 65536 * (v / 65536 % 256)
  c24 = omega arith

  c32 : v % 4294967296 ≡ v % 16777216 + 16777216 * (v / 16777216 % 256)
  c32 = omega arith

  c40 : v % 1099511627776 ≡ v % 4294967296 + 4294967296 * (v / 4294967296 % 256)
  c40 = omega arith

  c48 : v % 281474976710656 ≡ v % 1099511627776 + 1099511627776 * (v / 1099511627776 % 256)
  c48 = omega arith

  c49 : v % 562949953421312 ≡ v % 281474976710656 + 281474976710656 * (v / 281474976710656 % 2)
  c49 = omega arith

  pub channel_tidy_lem : v % 562949953421312 ≡ channel_tidy v
  unfolding channel_tidy channel_of
  channel_tidy_lem = rw (bit_same (v / 281474976710656 % 2) (omega arith), c49, c48, c40, c32, c24) refl

  t8 : v % 256 ≡ v % 128 + 128 * (v / 128 % 2)
  t8 = omega arith

  t16 : v % 65536 ≡ v % 256 + 256 * (v / 256 % 256)
  t16 = omega arith

  t48 : v % 281474976710656 ≡ v % 4294967296 + 4294967296 * (v / 4294967296 % 65536)
  t48 = omega arith

  t64 : v < 18446744073709551616 → v ≡ v % 281474976710656 + 281474976710656 * (v / 281474976710656 % 65536)
  t64 h = omega arith

-- one of seven states is its own number, any other number is the last's
state_same : (n : ℕ) → n < 7 → state_number (state_of n) ≡ n
state_same zero h = refl
state_same (suc zero) h = refl
state_same (suc (suc zero)) h = refl
state_same (suc (suc (suc zero))) h = refl
state_same (suc (suc (suc (suc zero)))) h = refl
state_same (suc (suc (suc (suc (suc zero))))) h = refl
state_same (suc (suc (suc (suc (suc (suc zero)))))) h = refl
state_same (suc (suc (suc (suc (suc (suc (suc n))))))) h = absurd (omega arith)

state_last : (n : ℕ) → 7 ≤ n → state_number (state_of n) ≡ 6
state_last n h =
    rw (
      ne_eqb n 0 (λ (e : n ≡ 0). omega arith),
      ne_eqb n 1 (λ (e : n ≡ 1). omega arith),
      ne_eqb n 2 (λ (e : n ≡ 2). omega arith),
      ne_eqb n 3 (λ (e : n ≡ 3). omega arith),
      ne_eqb n 4 (λ (e : n ≡ 4). omega arith),
      ne_eqb n 5 (λ (e : n ≡ 5). omega arith),
    )
    refl

-- a sum with another first term
first_term : (v s m a b c d e f : ℕ) → v ≡ m + a + b + c + d + e + f → v - m + s ≡ s + a + b + c + d + e + f
first_term v s m a b c d e f h = omega arith

module _ (v s : ℕ) (h : v < 18446744073709551616) where
  task_tidy_lem : state_number (state_of (v % 128)) ≡ s → v - v % 128 + s ≡ task_tidy v
  unfolding task_tidy task_of
  task_tidy_lem e =
      let all : v ≡ v % 128 + 128 * (v / 128 % 2) + 256 * (v / 256 % 256) + 65536 * (v / 65536 % 256) + 16777216 * (v / 16777216 % 256) + 4294967296 * (v / 4294967296 % 65536) + 281474976710656 * (v / 281474976710656 % 65536) =
      t64 v h ∙ rw (t48 v, c32 v, c24 v, t16 v, t8 v) refl in
      rw (e, bit_same (v / 128 % 2) (omega arith))
      (first_term v s (v % 128) (128 * (v / 128 % 2)) (256 * (v / 256 % 256)) (65536 * (v / 65536 % 256)) (16777216 * (v / 16777216 % 256)) (4294967296 * (v / 4294967296 % 65536)) (281474976710656 * (v / 281474976710656 % 65536)) all)

pub task_kept : (v : ℕ) → v < 18446744073709551616 → v % 128 < 7 → v ≡ task_tidy v
task_kept v h l =
    let same : v - v % 128 + v % 128 ≡ v = omega arith in
    sym same ∙ task_tidy_lem v (v % 128) h (state_same (v % 128) l)

pub task_last : (v : ℕ) → v < 18446744073709551616 → 7 ≤ v % 128 → v - v % 128 + 6 ≡ task_tidy v
task_last v h l = task_tidy_lem v 6 h (state_last (v % 128) l)
