-- "For one plan, every run from the start to rest, on whichever desks and with whichever moves, must have exactly the same number of accepted run
-- steps." Said of the definitions of `rules` and of the statement alone.
use Rattle.std.specs.Prelude.{◌≡◌, Bool, ◌&&◌, List, ℕ, suc, ◌-◌, ◌≤◌, eqb, Ok}
use Rattle.base.specs.Range.{sum_below}
use Rattle.plan.specs.declared.Plan.{Plan}
use Rattle.plan.specs.declared.TaskId.{TaskId}
use Rattle.plan.specs.Numbers.{task_id}
use Rattle.plan.specs.Programs.{programs}
use Rattle.plan.specs.Refusals.{plan_answer}
use Rattle.rules.specs.declared.step.Step.{Step}
use Rattle.rules.specs.declared.system.System.{System}
use Rattle.rules.specs.Systems.{task_at}
use Rattle.rules.specs.Starts.{started}
use Rattle.rules.specs.Steps.{is_run}
use Rattle.claim.specs.Statement.{accepted_of, from}
use Rattle.claim.specs.Finish.{RestsOn}

-- a run step of task t
abbrev pub is_run_of : TaskId → Step → Bool
is_run_of t s = is_run s && eqb s.task t.0

-- how many accepted run steps a list has from the start of plan p on n desks: of all tasks, and of task t
abbrev pub work_of : ℕ → Plan → List Step → ℕ
work_of n p ss = accepted_of is_run (started n p) ss

abbrev pub work_of_task : TaskId → ℕ → Plan → List Step → ℕ
work_of_task t n p ss = accepted_of (is_run_of t) (started n p) ss

-- two lists have as many, and as many of each task
pub record SameWork (n k : ℕ) (p : Plan) (ss ts : List Step) : Type 0 where
  pub all : work_of n p ss ≡ work_of k p ts
  pub each : (t : TaskId) → work_of_task t n p ss ≡ work_of_task t k p ts

-- `same_work_everywhere`: for every accepted plan, any two numbers of desks and any two lists of steps after which the rigs are at rest
abbrev pub SameWorkEverywhere : Type 0
SameWorkEverywhere =
    (n k : ℕ) (p : Plan) (ss ts : List Step) → 1 ≤ n → n ≤ 6 → 1 ≤ k → k ≤ 6 → plan_answer (programs p) ≡ Ok tt
    → RestsOn n p ss → RestsOn k p ts → SameWork n k p ss ts

-- the places of a rig's tasks, less one each
abbrev pub places_less_one : System → ℕ
places_less_one r = sum_below r.plan.tasks (λ k. (task_at r (task_id (suc k))).pc - 1)

-- `work_is_places`: at rest or not, the number is the sum of the places less one each, and that of a task of the plan is its place less one
pub record WorkIsPlaces (n : ℕ) (p : Plan) (ss : List Step) : Type 0 where
  pub all : work_of n p ss ≡ places_less_one (from n p ss).system
  pub each : (t : TaskId) → 1 ≤ t.0 → t.0 ≤ p.tasks → work_of_task t n p ss ≡ (task_at (from n p ss).system t).pc - 1

abbrev pub AllWorkIsPlaces : Type 0
AllWorkIsPlaces = (n : ℕ) (p : Plan) (ss : List Step) → 1 ≤ n → n ≤ 6 → plan_answer (programs p) ≡ Ok tt → WorkIsPlaces n p ss
