-- A task read and written, in the tasks and in the rig: a task that was written is read back, and nothing else has changed.
use mathlib.Core.Path.{◌≡◌, refl, ap}
use mathlib.Core.Bool.{Bool, true, false}
use mathlib.Core.List.{List, [], ◌∷◌}
use mathlib.Core.Logic.{◌≢◌}
use Prim.Native.Nat.{ℕ, zero, suc, ◌+◌, ◌-◌, ◌<◌, ◌≤◌}
use native.Mathlib.Nat.{add-zero}
use native.Mathlib.Omega.{arith}
use lib.Dec.{eqb}
use lib.ListN.{length, get_or, set, length-set}
use lib.Seq.{get_or-set_same, get_or-set_other, set-get_or}
use borrow.Author.Tests.{eqb-false, eq-eqb, ne_eqb}
use Rattle.base.specs.Choice.{pick}
use Rattle.base.specs.Sets.{inserted, removed}
use Rattle.base.proofs.Choices.{pick_either, pick_cases}
use Rattle.plan.specs.declared.TaskId.{TaskId}
use Rattle.plan.specs.declared.ProcessorId.{ProcessorId}
use Rattle.plan.specs.declared.ChannelId.{ChannelId}
use Rattle.rules.specs.declared.task.Task.{Task}
use Rattle.rules.specs.declared.system.TaskTable.{TaskTable}
use Rattle.rules.specs.declared.system.System.{System}
use Rattle.rules.specs.Numbers.{task_id, processor_id}
use Rattle.rules.specs.Tasks.{no_task}
use Rattle.rules.specs.Systems.{with_tasks, task_in, is_ready_at, ready_then, ready_sets, task_stored, task_at, with_task, entry_at, channel_at}
use Rattle.rules_laws.specs.Shapes.{Shaped}

-- the sets of ready tasks: six stay six, desk d + k's by itself, and a task written as it was leaves them
pub length_ready_sets : (d : ℕ) (t : TaskId) (x y : Task) (ss : List ℕ) → length (ready_sets d t x y ss) ≡ length ss
unfolding ready_sets
length_ready_sets d t x y [] = refl
length_ready_sets d t x y (s ∷ ss) = ap suc (length_ready_sets (suc d) t x y ss)

pub ready_sets_at : (d : ℕ) (t : TaskId) (x y : Task) (ss : List ℕ) (k : ℕ) → k < length ss
    → get_or (ready_sets d t x y ss) k 0 ≡ ready_then t x y (processor_id (d + k)) (get_or ss k 0)
unfolding ready_sets
ready_sets_at d t x y [] k l = absurd (omega arith)
ready_sets_at d t x y (s ∷ ss) zero l = rw (add-zero d) refl
ready_sets_at d t x y (s ∷ ss) (suc k) l =
    let e : suc d + k ≡ d + suc k = omega arith in
    rw e at (ready_sets_at (suc d) t x y ss k (omega arith))

ready_sets_own : (d : ℕ) (t : TaskId) (x : Task) (ss : List ℕ) → ready_sets d t x x ss ≡ ss
unfolding ready_sets ready_then
ready_sets_own d t x [] = refl
ready_sets_own d t x (s ∷ ss) = rw (ready_sets_own (suc d) t x ss) (ap (λ (n : ℕ). n ∷ ss) (same (is_ready_at (processor_id d) x)))
  where
    same : (b : Bool) → pick b (pick b s (removed t.0 s)) (pick b (inserted t.0 s) s) ≡ s
    same true = refl
    same false = refl

module _ (ts : TaskTable) (t : TaskId) where
  -- the task of another number than 0 is an element
  pub task_in_some : 1 ≤ t.0 → task_in ts t ≡ get_or ts.records (t.0 - 1) no_task
  unfolding task_in
  task_in_some h = rw (ne_eqb t.0 0 (λ e. omega arith)) refl

  pub task_stored_none : (x : Task) → t.0 ≡ 0 → task_stored ts t x ≡ ts
  unfolding task_stored
  task_stored_none x e = rw (eq-eqb t.0 0 e) refl

  pub task_stored_some : (x : Task) → 1 ≤ t.0
      → task_stored ts t x ≡ record { records = set ts.records (t.0 - 1) x; ready = ready_sets 1 t (task_in ts t) x ts.ready }
  unfolding task_stored
  task_stored_some x h = rw (ne_eqb t.0 0 (λ e. omega arith)) refl

  pub length_task_stored : (x : Task) → length (task_stored ts t x).records ≡ length ts.records
  unfolding task_stored
  length_task_stored x = pick_either (λ (q : TaskTable). length q.records ≡ length ts.records) (eqb t.0 0) ts _ refl (length-set ts.records (t.0 - 1) x)

  pub length_ready : (x : Task) → length (task_stored ts t x).ready ≡ length ts.ready
  unfolding task_stored
  length_ready x =
      pick_either (λ (q : TaskTable). length q.ready ≡ length ts.ready) (eqb t.0 0) ts _ refl (length_ready_sets 1 t (task_in ts t) x ts.ready)

  pub task_in_same : (x : Task) → length ts.records ≡ 64 → 1 ≤ t.0 → t.0 ≤ 64 → task_in (task_stored ts t x) t ≡ x
  unfolding task_in task_stored
  task_in_same x e h k = rw (ne_eqb t.0 0 (λ z. omega arith)) (get_or-set_same ts.records (t.0 - 1) x no_task (omega arith))

  pub task_in_other : (x : Task) (u : TaskId) → t.0 ≢ u.0 → task_in (task_stored ts t x) u ≡ task_in ts u
  unfolding task_in task_stored
  task_in_other x u ne = go (eqb t.0 0) (eqb u.0 0) (eqb-false t.0 0) (eqb-false u.0 0)
    where
      stored : TaskTable
      stored = record { records = set ts.records (t.0 - 1) x; ready = ready_sets 1 t (task_in ts t) x ts.ready }

      go : (b c : Bool) → (b ≡ false → t.0 ≢ 0) → (c ≡ false → u.0 ≢ 0)
          → pick c no_task (get_or (pick b ts stored).records (u.0 - 1) no_task) ≡ pick c no_task (get_or ts.records (u.0 - 1) no_task)
      go b true p q = refl
      go true false p q = refl
      go false false p q =
          let i = p refl in
          let j = q refl in
          get_or-set_other ts.records (t.0 - 1) (u.0 - 1) x no_task (λ e. ne (omega arith))

  -- a task written as it was read
  pub task_stored_own : task_stored ts t (task_in ts t) ≡ ts
  unfolding task_stored
  task_stored_own =
      pick_cases (λ (q : TaskTable). q ≡ ts) (eqb t.0 0) ts _ (λ e. refl)
      (λ e.
      let ne = eqb-false t.0 0 e in
      rw (ready_sets_own 1 t (task_in ts t) ts.ready, task_in_some (omega arith), set-get_or ts.records (t.0 - 1) no_task) refl)

-- no task has number 0
pub task_at_none : (r : System) → task_at r (task_id 0) ≡ no_task
unfolding task_in
task_at_none r = refl

pub task_at_some : (r : System) (t : TaskId) → 1 ≤ t.0 → task_at r t ≡ get_or r.tasks.records (t.0 - 1) no_task
task_at_some r t h = task_in_some r.tasks t h

-- what does not look at the tasks
module _ {A : Type 0} (f : System → A) (same : (q : System) (y : TaskTable) → f (with_tasks q y) ≡ f q) where
  pub with_task_keeps : (r : System) (t : TaskId) (x : Task) → f (with_task r t x) ≡ f r
  unfolding with_task
  with_task_keeps r t x = same r (task_stored r.tasks t x)

module _ (r : System) (t : TaskId) (x : Task) where
  -- the tasks
  pub with_task_tasks : (with_task r t x).tasks ≡ task_stored r.tasks t x
  unfolding with_task
  with_task_tasks = refl

  pub with_task_processors : (with_task r t x).processors ≡ r.processors
  with_task_processors = with_task_keeps (λ q. q.processors) (λ q y. refl) r t x

  pub with_task_plan : (with_task r t x).plan ≡ r.plan
  with_task_plan = with_task_keeps (λ q. q.plan) (λ q y. refl) r t x

  pub with_task_tables : (with_task r t x).tables ≡ r.tables
  with_task_tables = with_task_keeps (λ q. q.tables) (λ q y. refl) r t x

  pub with_task_channels : (with_task r t x).channels ≡ r.channels
  with_task_channels = with_task_keeps (λ q. q.channels) (λ q y. refl) r t x

  pub with_task_parents : (with_task r t x).parents ≡ r.parents
  with_task_parents = with_task_keeps (λ q. q.parents) (λ q y. refl) r t x

  pub with_task_network : (with_task r t x).network ≡ r.network
  with_task_network = with_task_keeps (λ q. q.network) (λ q y. refl) r t x

  pub with_task_chosen : (with_task r t x).chosen ≡ r.chosen
  with_task_chosen = with_task_keeps (λ q. q.chosen) (λ q y. refl) r t x

  pub with_task_entry_at : (d : ProcessorId) (c : ChannelId) → entry_at (with_task r t x) d c ≡ entry_at r d c
  unfolding entry_at
  with_task_entry_at d c = with_task_keeps (λ q. entry_at q d c) (λ q y. refl) r t x

  pub with_task_channel_at : (c : ChannelId) → channel_at (with_task r t x) c ≡ channel_at r c
  unfolding channel_at
  with_task_channel_at c = with_task_keeps (λ q. channel_at q c) (λ q y. refl) r t x

  pub with_task_shaped : Shaped r → Shaped (with_task r t x)
  unfolding with_task
  with_task_shaped s = search (length_task_stored, length_ready)

  pub task_at_same : Shaped r → 1 ≤ t.0 → t.0 ≤ 64 → task_at (with_task r t x) t ≡ x
  unfolding with_task
  task_at_same s h k = task_in_same r.tasks t x s.tasks h k

  pub task_at_other : (u : TaskId) → t.0 ≢ u.0 → task_at (with_task r t x) u ≡ task_at r u
  unfolding with_task
  task_at_other u ne = task_in_other r.tasks t x u ne

pub with_task_task_at : (r : System) (t : TaskId) → with_task r t (task_at r t) ≡ r
unfolding with_task
with_task_task_at r t = ap (with_tasks r) (task_stored_own r.tasks t)
