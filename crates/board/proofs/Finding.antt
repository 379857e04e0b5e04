-- What a list has for a task's last executed instruction, by case.
use mathlib.Core.Path.{◌≡◌, refl}
use mathlib.Core.List.{List}
use Prim.Native.Nat.{ℕ, ◌+◌, ◌-◌, ◌*◌, ◌<◌, ◌≤◌}
use native.Mathlib.Omega.{arith}
use lib.ListN.{get_or}
use borrow.Author.Tests.{ne_eqb, lt-ltb, le-ltb}
use Rattle.plan.specs.declared.TaskId.{TaskId}
use Rattle.rig_parts.specs.Fetches.{last_of}

module _ (xs : List ℕ) (t : TaskId) (pc : ℕ) where
  pub last_no_task : t.0 ≡ 0 → last_of xs t pc ≡ 0
  unfolding last_of
  last_no_task e = rw e refl

  pub last_at_start : 1 ≤ t.0 → pc < 2 → last_of xs t pc ≡ 0
  unfolding last_of
  last_at_start p q = rw (ne_eqb t.0 0 (λ e. omega arith), le-ltb 1 pc (omega arith)) refl

  pub last_at : (i j : ℕ) → i ≡ t.0 → j ≡ pc → 1 ≤ t.0 → 2 ≤ pc → get_or xs (64 * (i - 1) + (j - 2)) 0 ≡ last_of xs t pc
  unfolding last_of
  last_at i j e f p q = rw (e, f, ne_eqb t.0 0 (λ e. omega arith), lt-ltb 1 pc q) refl
