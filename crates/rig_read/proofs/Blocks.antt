-- What desks keep for parents, in blocks of sixteen: a block of zeros passes.
use mathlib.Core.Path.{◌≡◌, refl}
use mathlib.Core.Bool.{Bool, true, ◌&&◌, and_assoc}
use mathlib.Core.List.{List}
use Prim.Native.Nat.{ℕ, ◌+◌, ◌*◌, ◌<◌, ◌^◌}
use native.Mathlib.Omega.{arith}
use lib.Dec.{eqb}
use lib.ListN.{get_or}
use lib.Pow.{pow_pos}
use borrow.Author.Tests.{eqb-true, lt-ltb}
use Rattle.base.specs.Range.{below}
use Rattle.base.proofs.Tests.{and_true, below_all, below_at}
use Rattle.base.proofs.Folds.{fold_grid}
use Rattle.rig_read.specs.Passing.{parent_passes, block_zero, block_passes, parents_pass}

module _ (n m : ℕ) (x : List ℕ) where
  abbrev parent : ℕ → Bool
  parent k = parent_passes n m (get_or x (320 + 2 * k) 0) (get_or x (321 + 2 * k) 0)

  -- the parent after i others of a block
  abbrev pub in_block : ℕ → ℕ → Bool
  in_block b i = parent (16 * b + i)

  pub blocks : parents_pass n m x ≡ below 24 (block_passes n m x)
  unfolding parents_pass
  blocks = fold_grid ◌&&◌ true and_assoc and_true 16 24 parent

  zero_at : (b : ℕ) → block_zero x b ≡ true → (k i : ℕ) → k < 32 → i ≡ 320 + 32 * b + k → get_or x i 0 ≡ 0
  zero_at b h k i l e =
      rw e (eqb-true (get_or x (320 + 32 * b + k) 0) 0 (below_at (λ i. eqb (get_or x (320 + 32 * b + i) 0) 0) 32 k l h))

  pub zeros_pass : (b : ℕ) → block_zero x b ≡ true → block_passes n m x b ≡ true
  zeros_pass b h =
      below_all (in_block b) 16
      (λ i l.
      rw (
        zero_at b h (2 * i) (320 + 2 * (16 * b + i)) (omega arith) (omega arith),
        zero_at b h (2 * i + 1) (321 + 2 * (16 * b + i)) (omega arith) (omega arith),
        lt-ltb 0 (2 ^ m) (pow_pos m),
      )
      refl)
