-- Places of tasks after a change, and how many instructions are then not executed.
use mathlib.Core.Path.{◌≡◌, refl, sym, ap, ◌∙◌}
use mathlib.Core.Logic.{◌≢◌, by_cases}
use mathlib.Core.Bool.{true}
use Prim.Native.Nat.{ℕ, zero, suc, ◌+◌, ◌-◌, ◌<◌, ◌≤◌}
use native.Mathlib.Decide.{ℕ_discrete}
use native.Mathlib.Omega.{arith}
use lib.ListN.{length}
use Rattle.base.specs.Choice.{within}
use Rattle.base.specs.Range.{fold, sum_below}
use Rattle.base.proofs.Folds.{fold_same}
use Rattle.base.proofs.Tests.{within_low, within_high, within_both}
use Rattle.plan.specs.declared.TaskId.{TaskId}
use Rattle.plan.specs.Numbers.{task_id}
use Rattle.plan.specs.Programs.{Programs}
use Rattle.rules.specs.declared.task.Task.{Task}
use Rattle.net.specs.States.{at_task}
use Rattle.transitions.specs.Progress.{program_of, unexecuted_of, unexecuted}
use Rattle.transitions.proofs.Updates.{at_task_lem, at_other, task_cases}

-- two sums that differ in one part
pub sum_change : (n : ℕ) (f g : ℕ → ℕ) (j : ℕ) → j < n → ((k : ℕ) → k < n → k ≢ j → f k ≡ g k) → sum_below n f + g j ≡ sum_below n g + f j
unfolding fold
sum_change zero f g j l same = absurd (omega arith)
sum_change (suc n) f g j l same =
    by_cases
    (ℕ_discrete j n)
    (λ (e : j ≡ n). let q = fold_same ◌+◌ 0 n f g (λ k u. same k (omega arith) (omega arith)) in rw e (omega (arith, q)))
    (λ ne. omega (arith, sum_change n f g j (omega arith) (λ k u d. same k (omega arith) d), same n (omega arith) (λ e. ne (sym e))))

-- .. over the tasks 1 .. n, in the part of task t
pub tasks_change : (n : ℕ) (f g : TaskId → ℕ) (t : TaskId) → within 1 n t.0 ≡ true
    → ((u : TaskId) → within 1 n u.0 ≡ true → u.0 ≢ t.0 → f u ≡ g u)
    → sum_below n (λ k. f (task_id (suc k))) + g t ≡ sum_below n (λ k. g (task_id (suc k))) + f t
tasks_change n f g t is same =
    let low = within_low 1 n t.0 is in
    let high = within_high 1 n t.0 is in
    let here : task_id (suc (t.0 - 1)) ≡ t = ap task_id (let e : suc (t.0 - 1) ≡ t.0 = omega arith in e) in
    let q =
    sum_change n (λ k. f (task_id (suc k))) (λ k. g (task_id (suc k))) (t.0 - 1) (omega arith)
    (λ k l d. same (task_id (suc k)) (within_both 1 n (suc k) (omega arith) (omega arith)) (omega arith)) in
    omega (arith, q, ap f here, ap g here)

-- the tasks y are the tasks x with task t changed to k: its place, and that of another
module _ (x y : TaskId → Task) (t : TaskId) (k : Task) (is : y ≡ at_task x t k) where
  pub place_at : (y t).pc ≡ k.pc
  place_at = ap (λ (f : TaskId → Task). (f t).pc) is ∙ ap (λ (z : Task). z.pc) (at_task_lem x t k)

  pub place_other : (u : TaskId) → u.0 ≢ t.0 → (y u).pc ≡ (x u).pc
  place_other u ne = ap (λ (f : TaskId → Task). (f u).pc) is ∙ ap (λ (z : Task). z.pc) (at_other x t u k ne)

  pub places_same : k.pc ≡ (x t).pc → (u : TaskId) → (y u).pc ≡ (x u).pc
  places_same e = task_cases (λ u. (y u).pc ≡ (x u).pc) t (place_at ∙ e) place_other

module _ (m : Programs) (x y : TaskId → Task) where
  -- every place stays
  work_same : ((t : TaskId) → within 1 (length m) t.0 ≡ true → (y t).pc ≡ (x t).pc) → unexecuted m y ≡ unexecuted m x
  unfolding unexecuted
  work_same same =
      fold_same ◌+◌ 0 (length m) (λ k. unexecuted_of m y (task_id (suc k))) (λ k. unexecuted_of m x (task_id (suc k)))
      (λ k l. rw (same (task_id (suc k)) (within_both 1 (length m) (suc k) (omega arith) (omega arith))) refl)

  -- one goes on
  work_one : (t : TaskId) → within 1 (length m) t.0 ≡ true → (x t).pc ≤ length (program_of m t) → (y t).pc ≡ suc (x t).pc
      → ((u : TaskId) → within 1 (length m) u.0 ≡ true → u.0 ≢ t.0 → (y u).pc ≡ (x u).pc) → unexecuted m x ≡ suc (unexecuted m y)
  unfolding unexecuted
  work_one t is more goes same =
      let q = tasks_change (length m) (unexecuted_of m x) (unexecuted_of m y) t is (λ u w ne. rw (same u w ne) refl) in
      let less : unexecuted_of m x t ≡ suc (unexecuted_of m y t) = rw goes (omega arith) in
      omega (arith, q, less)

-- whose places go on: one task's, by one, or nobody's
pub data Went (m : Programs) (x y : TaskId → Task) : ℕ → Type 0 where
  one_goes : (t : TaskId) → within 1 (length m) t.0 ≡ true → (x t).pc ≤ length (program_of m t) → (y t).pc ≡ suc (x t).pc
      → ((u : TaskId) → within 1 (length m) u.0 ≡ true → u.0 ≢ t.0 → (y u).pc ≡ (x u).pc) → Went m x y 1
  nobody : ((u : TaskId) → within 1 (length m) u.0 ≡ true → (y u).pc ≡ (x u).pc) → Went m x y 0

-- as many instructions are executed
pub work_went : {m : Programs} {x y : TaskId → Task} {n : ℕ} → Went m x y n → unexecuted m x ≡ n + unexecuted m y
work_went {m} {x} {y} (one_goes t is more goes same) = omega (arith, work_one m x y t is more goes same)
work_went {m} {x} {y} (nobody same) = omega (arith, work_same m x y same)
