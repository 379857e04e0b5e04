-- A task that is stored as it is stays; so storing it is storing nothing.
use mathlib.Core.Path.{◌≡◌, sym, ap, ◌∙◌}
use mathlib.Core.Logic.{by_cases, ◌≢◌}
use Prim.Native.Nat.{◌≤◌}
use native.Mathlib.Omega.{arith}
use native.Mathlib.Decide.{ℕ_discrete}
use Rattle.plan.specs.declared.TaskId.{TaskId}
use Rattle.rules.specs.declared.task.Task.{Task}
use Rattle.rules.specs.declared.system.TaskTable.{TaskTable}
use Rattle.rules.specs.Systems.{task_in, task_stored}
use Rattle.rules_laws.proofs.TaskAt.{task_stored_none, task_in_other, task_stored_own}

module _ (ts : TaskTable) (s u : TaskId) where
  -- the sender stays
  pub sender_own : (b : Task) → task_stored (task_stored ts s (task_in ts s)) u b ≡ task_stored ts u b
  sender_own b = ap (λ (z : TaskTable). task_stored z u b) (task_stored_own ts s)

  -- both stay
  pub both_own : task_stored (task_stored ts s (task_in ts s)) u (task_in ts u) ≡ ts
  both_own = sender_own (task_in ts u) ∙ task_stored_own ts u

  -- the receiver stays beside a sender that is another task
  pub receiver_own : (a : Task) → (1 ≤ s.0 → s.0 ≢ u.0) → task_stored (task_stored ts s a) u (task_in ts u) ≡ task_stored ts s a
  receiver_own a apart =
      by_cases (ℕ_discrete s.0 0)
      (λ (z : s.0 ≡ 0). rw (task_stored_none ts s a z) (task_stored_own ts u))
      (λ z. ap (task_stored (task_stored ts s a) u) (sym (task_in_other ts s a u (apart (omega arith)))) ∙ task_stored_own (task_stored ts s a) u)
