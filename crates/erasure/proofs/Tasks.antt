-- Tasks without words: which task is read, and what is stored; the sets of ready tasks stay.
use mathlib.Core.Path.{◌≡◌, refl}
use mathlib.Core.List.{List, [], ◌∷◌}
use Prim.Native.Nat.{ℕ, suc, ◌-◌}
use lib.Dec.{eqb}
use lib.ListN.{get_or-map}
use Rattle.plan.specs.declared.TaskId.{TaskId}
use Rattle.rules.specs.declared.task.Task.{Task}
use Rattle.rules.specs.declared.system.TaskTable.{TaskTable}
use Rattle.rules.specs.Tasks.{no_task}
use Rattle.rules.specs.Systems.{task_in, ready_then, ready_sets, task_stored}
use Rattle.rules.specs.Erasures.{erased_task, erased_tasks}
use Rattle.erasure.proofs.Lists.{pick_map, map_set}

pub task_read : (ts : TaskTable) (t : TaskId) → task_in (erased_tasks ts) t ≡ erased_task (task_in ts t)
unfolding task_in
task_read ts t = pick_map erased_task (eqb t.0 0) (λ e. refl) (λ e. get_or-map erased_task ts.records (t.0 - 1) no_task)

-- whether a task is ready at a desk is no matter of its word
sets_erased : (d : ℕ) (t : TaskId) (x y : Task) (ss : List ℕ) → ready_sets d t (erased_task x) (erased_task y) ss ≡ ready_sets d t x y ss
unfolding ready_sets ready_then
sets_erased d t x y [] = refl
sets_erased d t x y (s ∷ ss) = rw (sets_erased (suc d) t x y ss) refl

pub task_stored_lem : (ts : TaskTable) (t : TaskId) (y : Task) → task_stored (erased_tasks ts) t (erased_task y) ≡ erased_tasks (task_stored ts t y)
unfolding task_stored
task_stored_lem ts t y =
    pick_map erased_tasks (eqb t.0 0) (λ e. refl)
    (λ e. rw (map_set erased_task ts.records (t.0 - 1) y, task_read ts t, sets_erased 1 t (task_in ts t) y ts.ready) refl)
