-- The sets of ready tasks: what it says of a rig's tasks that they don't differ from it, and that a task that is stored keeps this.
use mathlib.Core.Path.{◌≡◌, refl, sym, ◌∙◌, ap}
use mathlib.Core.Bool.{Bool, true, false}
use mathlib.Core.Logic.{◌≢◌, by_cases}
use Prim.Native.Nat.{ℕ, suc, ◌+◌, ◌<◌, ◌≤◌}
use native.Mathlib.Omega.{arith}
use native.Mathlib.Decide.{ℕ_discrete}
use lib.ListN.{length, get_or}
use borrow.Author.Tests.{eqb-true, eq-eqb}
use Rattle.base.specs.Choice.{pick}
use Rattle.base.specs.Sets.{member, inserted, removed, set_of}
use Rattle.base.proofs.Tests.{below_at, below_all}
use Rattle.base.proofs.SetsOf.{member_set, set_same, set_inserted, set_removed}
use Rattle.plan.specs.declared.TaskId.{TaskId}
use Rattle.rules.specs.declared.task.Task.{Task}
use Rattle.rules.specs.declared.system.TaskTable.{TaskTable}
use Rattle.rules.specs.Numbers.{task_id, processor_id}
use Rattle.rules.specs.Systems.{task_in, is_ready_at, ready_then, task_stored}
use Rattle.rules.specs.Sound.{ready_ok}
use Rattle.rules_laws.proofs.TaskAt.{ready_sets_at, task_in_same, task_in_other, task_stored_none, task_stored_some}

-- task t is ready at the desk after k others
abbrev pub is_ready_in : TaskTable → ℕ → ℕ → Bool
is_ready_in ts k t = is_ready_at (processor_id (suc k)) (task_in ts (task_id t))

module _ (m : ℕ) (ts : TaskTable) where
  -- each desk's set is that of the tasks ready there
  pub ready_set : ready_ok m ts ≡ true → (k : ℕ) → k < 6 → get_or ts.ready k 0 ≡ set_of m (is_ready_in ts k)
  unfolding ready_ok
  ready_set h k l = eqb-true _ _ (below_at _ 6 k l h)

  pub ready_all : ((k : ℕ) → k < 6 → get_or ts.ready k 0 ≡ set_of m (is_ready_in ts k)) → ready_ok m ts ≡ true
  unfolding ready_ok
  ready_all f = below_all _ 6 (λ k l. eq-eqb _ _ (f k l))

  -- a task is in it where it is ready there
  pub ready_member : ready_ok m ts ≡ true → (k t : ℕ) → k < 6 → 1 ≤ t → t ≤ m → member t (get_or ts.ready k 0) ≡ is_ready_in ts k t
  ready_member h k t l some few = rw (ready_set h k l) (member_set (is_ready_in ts k) m t some few)

-- the set of those that p holds of becomes that of q, which differs at most at t
module _ (p q : ℕ → Bool) (m t : ℕ) (some : 1 ≤ t) (few : t ≤ m) (same : (u : ℕ) → t ≢ u → p u ≡ q u) where
  changed : set_of m q ≡ pick (p t) (pick (q t) (set_of m p) (removed t (set_of m p))) (pick (q t) (inserted t (set_of m p)) (set_of m p))
  changed = go (p t) refl (q t) refl
    where
      kept : p t ≡ q t → set_of m q ≡ set_of m p
      kept e = set_same q p m (λ u low high. by_cases (ℕ_discrete t u) (λ (z : t ≡ u). rw (← z) (sym e)) (λ ne. sym (same u ne)))

      go : (b : Bool) → p t ≡ b → (c : Bool) → q t ≡ c
          → set_of m q ≡ pick b (pick c (set_of m p) (removed t (set_of m p))) (pick c (inserted t (set_of m p)) (set_of m p))
      go true e true f = kept (e ∙ sym f)
      go true e false f = sym (set_removed p q m t some few same f)
      go false e true f = sym (set_inserted p q m t some few same f)
      go false e false f = kept (e ∙ sym f)

-- a task of the rig is stored, or none
module _ (m : ℕ) (ts : TaskTable) (t : TaskId) (x : Task) (records : length ts.records ≡ 64) (six : length ts.ready ≡ 6) (few : t.0 ≤ m) (most : m ≤ 64) where
  ready_kept : ready_ok m ts ≡ true → 1 ≤ t.0 → ready_ok m (task_stored ts t x) ≡ true
  unfolding ready_then
  ready_kept h some =
      let us : TaskTable = task_stored ts t x in
      let own : task_in us (task_id t.0) ≡ x = task_in_same ts t x records some (omega arith) in
      ready_all m us
      (λ k l.
      let p : ℕ → Bool = is_ready_in ts k in
      let q : ℕ → Bool = is_ready_in us k in
      let e : set_of m q ≡ ready_then t (task_in ts t) x (processor_id (suc k)) (set_of m p) =
      changed p q m t.0 some few (λ u ne. ap (is_ready_at (processor_id (suc k))) (sym (task_in_other ts t x (task_id u) ne)))
      ∙ ap (λ (y : Task). ready_then t (task_in ts t) y (processor_id (suc k)) (set_of m p)) own in
      let one : 1 + k ≡ suc k = omega arith in
      ap (λ (y : TaskTable). get_or y.ready k 0) (task_stored_some ts t x some)
      ∙ ready_sets_at 1 t (task_in ts t) x ts.ready k (omega arith)
      ∙ ap (λ (n : ℕ). ready_then t (task_in ts t) x (processor_id n) (get_or ts.ready k 0)) one
      ∙ rw (ready_set m ts h k l) (sym e))

  pub ready_stored : ready_ok m ts ≡ true → ready_ok m (task_stored ts t x) ≡ true
  ready_stored h = by_cases (ℕ_discrete t.0 0) (λ (z : t.0 ≡ 0). rw (task_stored_none ts t x z) h) (λ ne. ready_kept h (omega arith))
