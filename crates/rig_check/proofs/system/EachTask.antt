-- The test of tasks 1 to T, task by task.
use mathlib.Core.Path.{◌≡◌, refl, sym, ◌∙◌}
use mathlib.Core.Bool.{Bool, true, ◌&&◌}
use Prim.Native.Nat.{ℕ, suc, ◌+◌, ◌*◌, ◌-◌, ◌<◌, ◌≤◌}
use native.Mathlib.Omega.{arith}
use lib.ListN.{get_or}
use Rattle.base.specs.Range.{below}
use Rattle.base.proofs.Tests.{tests_differ, is_true}
use Rattle.base.proofs.Tables.{length_table}
use Rattle.base.proofs.Folds.{fold_same}
use Rattle.plan.specs.Answers.{is_accepted}
use Rattle.plan.specs.Programs.{Programs, slot_of, program_of}
use Rattle.plan.specs.Refusals.{sizes_ok, plan_answer}
use Rattle.plan.proofs.Parts.{tasks_of_lem, program_of_lem, count_of_lem}
use Rattle.plan_laws.proofs.Answers.{sized}
use Rattle.plan.specs.declared.Plan.{Plan}
use Rattle.rules.specs.declared.system.TaskTable.{TaskTable}
use Rattle.rules.specs.declared.system.System.{System}
use Rattle.rules.specs.Numbers.{task_id}
use Rattle.rules.specs.Tasks.{no_task}
use Rattle.rules.specs.Systems.{task_at, task_program, meaning}
use Rattle.rules.specs.Sound.{task_ok, origin_ok}
use Rattle.rules_laws.proofs.TaskAt.{task_at_some}
use Rattle.rig_check.specs.tasks.Tests.{task_with}
use Rattle.rig_check.proofs.tasks.Tests.{task_with_lem}
use Rattle.rig_check.specs.system.Tasks.{last_kind, tasks_ok, origins_ok}
use Rattle.rig_check.proofs.system.Programs.{last_kind_lem}

-- task k + 1 passes
abbrev pub record_ok : ℕ → Plan → TaskTable → ℕ → Bool
record_ok n p ts k = task_ok n p.tasks (program_of p k) (get_or ts.records k no_task)

pub tasks_places : (r : System) → tasks_ok r ≡ below r.plan.tasks (record_ok r.processors r.plan r.tasks)
tasks_places r =
    fold_same ◌&&◌ true r.plan.tasks (λ k. task_ok r.processors r.plan.tasks (task_program r (task_id (suc k))) (task_at r (task_id (suc k)))) (record_ok r.processors r.plan r.tasks)
    (λ k h. let e : suc k - 1 ≡ k = omega arith in rw (task_at_some r (task_id (suc k)) (omega arith), e, program_of_lem r.plan k h) refl)

-- the own pointer of task k + 1 passes
abbrev pub pointer_ok : ℕ → TaskTable → ℕ → Bool
pointer_ok n ts k = origin_ok n (k + 1) (get_or ts.records k no_task)

pub origins_places : (r : System) → origins_ok r ≡ below r.plan.tasks (pointer_ok r.processors r.tasks)
origins_places r =
    fold_same ◌&&◌ true r.plan.tasks (λ k. origin_ok r.processors (suc k) (task_at r (task_id (suc k)))) (pointer_ok r.processors r.tasks)
    (λ k h.
    let e : suc k - 1 ≡ k = omega arith in
    let f : suc k ≡ k + 1 = omega arith in
    rw (task_at_some r (task_id (suc k)) (omega arith), e) (rw f refl))

-- the sizes that the test relies on: an accepted plan has them
pub sizes_passed : (m : Programs) → is_accepted (plan_answer m) ≡ true → sizes_ok m ≡ true
unfolding plan_answer
sizes_passed m h = is_true (sizes_ok m) (λ e. tests_differ h (rw e refl))

module _ (r : System) (h : sizes_ok (meaning r) ≡ true) where
  pub few_tasks : r.plan.tasks ≤ 64
  few_tasks = omega (arith, tasks_of_lem r.plan, (sized (meaning r) h).tasks.few)

  pub short_program : (k : ℕ) → k < r.plan.tasks → get_or r.plan.lengths k 0 ≤ 64
  short_program k l = omega (arith, count_of_lem r.plan k l, ((sized (meaning r) h).counts k (omega (arith, tasks_of_lem r.plan))).few)

-- task k + 1, by what is looked at of its program
pub record_with : (r : System) (k : ℕ)
    → task_with r.processors r.plan.tasks (get_or r.plan.lengths k 0) (last_kind r.plan.lengths r.plan.codes k (get_or r.tasks.records k no_task).pc) (get_or r.tasks.records k no_task)
    ≡ record_ok r.processors r.plan r.tasks k
record_with r k =
    let x = get_or r.tasks.records k no_task in
    let p = r.plan in
    sym (task_with_lem r.processors p.tasks (program_of p k) x ∙ rw (length_table (get_or p.lengths k 0) (λ i. slot_of p (64 * k + i)), last_kind_lem p k x) refl)
