-- `step_at` reads the four bytes of a step.
use mathlib.Core.Path.{◌≡◌, refl}
use Prim.Native.Nat.{ℕ, ◌+◌, ◌*◌}
use native.Mathlib.Omega.{arith}
use borrow.Author.Rules.{rules}
use Rattle.run.proofs.all_steps.decode.step_at.Goals as goal

pub overflow_cast-low : goal.overflow_cast-low
overflow_cast-low c = omega (arith, c.shared_slice_known-1.given (4 * c.args.k + 2))

pub overflow_cast-high : goal.overflow_cast-high
overflow_cast-high c = omega (arith, c.shared_slice_known-1.given (4 * c.args.k + 3))

pub overflow_mul-result : goal.overflow_mul-result
overflow_mul-result c = omega (arith, c.shared_slice_known-1.given (4 * c.args.k + 3))

pub overflow_add-result-2 : goal.overflow_add-result-2
overflow_add-result-2 c = omega (arith, c.shared_slice_known-1.given (4 * c.args.k + 2), c.shared_slice_known-1.given (4 * c.args.k + 3))

pub returns : goal.returns
returns c = let behind : (k : ℕ) → 4 * k + 2 + 1 ≡ 4 * k + 3 = λ k. omega arith in rw (behind c.args.k) refl
