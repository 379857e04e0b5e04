-- The tasks 1 .. T, of which 2 .. T have a parent: a task of a lower number.
use mathlib.Core.Path.{◌≡◌}
use mathlib.Core.Bool.{true}
use mathlib.Core.Logic.{◌≢◌}
use Prim.Native.Nat.{ℕ, ◌≤◌, ◌<◌}
use native.Mathlib.Omega.{arith, by_contra}
use lib.ListN.{length}
use Rattle.std.specs.Prelude.{Ok}
use Rattle.base.specs.Choice.{within}
use Rattle.base.proofs.Tests.{within_low, within_high, within_both}
use Rattle.plan.specs.declared.TaskId.{TaskId}
use Rattle.plan.specs.Programs.{Programs}
use Rattle.plan.specs.Refusals.{plan_answer}
use Rattle.plan.specs.Users.{parent_of}
use Rattle.plan_laws.proofs.Parents.{has_parent_lem}

-- one of 1 .. n that is not the first, and one of 2 .. n
pub child_number : (n k : ℕ) → within 1 n k ≡ true → k ≢ 1 → within 2 n k ≡ true
child_number n k w ne =
    let low = within_low 1 n k w in
    within_both 2 n k (by_contra 2 k (λ q. ne (omega arith))) (within_high 1 n k w)

pub task_number_lem : (n k : ℕ) → within 2 n k ≡ true → within 1 n k ≡ true
task_number_lem n k w = within_both 1 n k (omega (arith, within_low 2 n k w)) (within_high 2 n k w)

module _ (m : Programs) (accepted : plan_answer m ≡ Ok tt) (u : TaskId) (number : within 2 (length m) u.0 ≡ true) where
  parent_lower : (1 ≤ (parent_of m u).0) × ((parent_of m u).0 < u.0)
  parent_lower = has_parent_lem m accepted u.0 (within_low 2 (length m) u.0 number) (within_high 2 (length m) u.0 number)

  pub parent_number : within 1 (length m) (parent_of m u).0 ≡ true
  parent_number =
      let (low, less) = parent_lower in
      let high = within_high 2 (length m) u.0 number in
      within_both 1 (length m) (parent_of m u).0 low (omega arith)

  pub parent_other : (parent_of m u).0 ≢ u.0
  parent_other e = let (low, less) = parent_lower in omega arith
