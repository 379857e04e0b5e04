-- The first number of a task's record: it is that of what it holds where its state is one of seven.
use mathlib.Core.Path.{◌≡◌, refl, sym}
use mathlib.Core.Bool.{Bool, true, false}
use mathlib.Core.List.{List}
use Prim.Native.Nat.{ℕ, zero, suc, ◌+◌, ◌*◌, ◌/◌, ◌%◌, ◌<◌, ◌≤◌}
use native.Mathlib.Omega.{arith}
use lib.Dec.{eqb, ltb}
use lib.ListN.{get_or}
use borrow.Author.Tests.{eq-eqb, ne_eqb, ltb-true, ltb-false}
use Rattle.board.specs.packing.Packed.{task_of, task_word, state_of, state_number, bit}
use Rattle.board.specs.Lent.{task_on}
use Rattle.rig_read.proofs.Fields.{fields}
use Rattle.rig_read.specs.Passing.{task_tidy}

-- one bit
bit_same : (n : ℕ) → n < 2 → bit (eqb n 1) ≡ n
bit_same zero h = refl
bit_same (suc zero) h = refl
bit_same (suc (suc n)) h = absurd (omega arith)

-- the lowest byte, of seven bits and one
low_byte : (v : ℕ) → v % 256 ≡ v % 128 + 128 * (v / 128 % 2)
low_byte v = omega arith

-- one of seven states is its own number, any other number is the last's
state_same : (n : ℕ) → n < 7 → state_number (state_of n) ≡ n
state_same zero h = refl
state_same (suc zero) h = refl
state_same (suc (suc zero)) h = refl
state_same (suc (suc (suc zero))) h = refl
state_same (suc (suc (suc (suc zero)))) h = refl
state_same (suc (suc (suc (suc (suc zero))))) h = refl
state_same (suc (suc (suc (suc (suc (suc zero)))))) h = refl
state_same (suc (suc (suc (suc (suc (suc (suc n))))))) h = absurd (omega arith)

state_last : (n : ℕ) → 7 ≤ n → state_number (state_of n) ≡ 6
state_last n h =
    rw (
      ne_eqb n 0 (λ (e : n ≡ 0). omega arith),
      ne_eqb n 1 (λ (e : n ≡ 1). omega arith),
      ne_eqb n 2 (λ (e : n ≡ 2). omega arith),
      ne_eqb n 3 (λ (e : n ≡ 3). omega arith),
      ne_eqb n 4 (λ (e : n ≡ 4). omega arith),
      ne_eqb n 5 (λ (e : n ≡ 5). omega arith),
    )
    refl

-- sums with the same terms but the first
same_first : (v w m s a b c d e f : ℕ) → v ≡ m + a + b + c + d + e + f → w ≡ s + a + b + c + d + e + f → s ≡ m → w ≡ v
same_first v w m s a b c d e f p q h = omega arith

other_first : (v w m s a b c d e f : ℕ) → v ≡ m + a + b + c + d + e + f → w ≡ s + a + b + c + d + e + f → s < m → w ≡ v → ⊥
other_first v w m s a b c d e f p q h z = omega arith

same_test : (t b : Bool) → (t ≡ true → b ≡ true) → (t ≡ false → b ≡ false) → t ≡ b
same_test true b h k = sym (h refl)
same_test false b h k = sym (k refl)

module _ (v : ℕ) (h : v < 18446744073709551616) where
  whole : v ≡ v % 128 + 128 * (v / 128 % 2) + 256 * (v / 256 % 256) + 65536 * (v / 65536 % 256) + 16777216 * (v / 16777216 % 256) + 4294967296 * (v / 4294967296 % 65536) + 281474976710656 * (v / 281474976710656 % 65536)
  whole = sym (rw (low_byte v) at (fields v h))

  again : task_word (task_of v 0 0)
      ≡ state_number (state_of (v % 128)) + 128 * (v / 128 % 2) + 256 * (v / 256 % 256) + 65536 * (v / 65536 % 256) + 16777216 * (v / 16777216 % 256) + 4294967296 * (v / 4294967296 % 65536) + 281474976710656 * (v / 281474976710656 % 65536)
  unfolding task_of
  again = rw (bit_same (v / 128 % 2) (omega arith)) refl

  tidy_kept : v % 128 < 7 → task_tidy v ≡ true
  unfolding task_tidy
  tidy_kept l =
      eq-eqb (task_word (task_of v 0 0)) v (same_first v (task_word (task_of v 0 0)) (v % 128) (state_number (state_of (v % 128))) (128 * (v / 128 % 2)) (256 * (v / 256 % 256)) (65536 * (v / 65536 % 256)) (16777216 * (v / 16777216 % 256)) (4294967296 * (v / 4294967296 % 65536)) (281474976710656 * (v / 281474976710656 % 65536)) whole again (state_same (v % 128) l))

  tidy_last : 7 ≤ v % 128 → task_tidy v ≡ false
  unfolding task_tidy
  tidy_last l =
      ne_eqb (task_word (task_of v 0 0)) v
      (other_first v (task_word (task_of v 0 0)) (v % 128) (state_number (state_of (v % 128))) (128 * (v / 128 % 2)) (256 * (v / 256 % 256)) (65536 * (v / 65536 % 256)) (16777216 * (v / 16777216 % 256)) (4294967296 * (v / 4294967296 % 65536)) (281474976710656 * (v / 281474976710656 % 65536)) whole again (rw (state_last (v % 128) l) (omega arith)))

  pub tidy_tested : ltb (v % 128) 7 ≡ task_tidy v
  tidy_tested =
      same_test (ltb (v % 128) 7) (task_tidy v) (λ e. tidy_kept (ltb-true (v % 128) 7 e)) (λ e. tidy_last (ltb-false (v % 128) 7 e))

-- of task k + 1
pub tidy_on : (x : List ℕ) (k : ℕ) → task_tidy (get_or x (128 + 2 * k) 0) ≡ eqb (task_word (task_on x k)) (get_or x (128 + 2 * k) 0)
unfolding task_tidy task_of
tidy_on x k = refl
