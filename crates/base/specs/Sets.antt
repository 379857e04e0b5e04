-- A set of numbers from 1 on, in the bits of one number: t is in it where bit t - 1 is one.
use Rattle.std.specs.Prelude.{Bool, ℕ, zero, suc, ◌+◌, ◌-◌, ◌/◌, ◌%◌, ◌^◌, eqb}
use Rattle.base.specs.Choice.{pick}

unfoldable pub member : ℕ → ℕ → Bool
member t s = eqb (s / 2 ^ (t - 1) % 2) 1

-- the set with t, and without it
unfoldable pub inserted : ℕ → ℕ → ℕ
inserted t s = pick (member t s) s (s + 2 ^ (t - 1))

unfoldable pub removed : ℕ → ℕ → ℕ
removed t s = pick (member t s) (s - 2 ^ (t - 1)) s

-- how many of 1 .. n are in the set
unfoldable pub size : ℕ → ℕ → ℕ
size zero s = 0
size (suc n) s = size n s + pick (member (suc n) s) 1 0

-- those of 1 .. n that p holds of
unfoldable pub set_of : ℕ → (ℕ → Bool) → ℕ
set_of zero p = 0
set_of (suc n) p = pick (p (suc n)) (inserted (suc n) (set_of n p)) (set_of n p)

-- the set s without those of 1 .. n that are in the set h
unfoldable pub removed_all : ℕ → ℕ → ℕ → ℕ
removed_all zero h s = s
removed_all (suc n) h s =
    let q = removed_all n h s in
    pick (member (suc n) h) (removed (suc n) q) q
