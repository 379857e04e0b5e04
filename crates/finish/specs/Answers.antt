-- The verdict and the list, of the tasks as they are on the board.
use Rattle.std.specs.Prelude.{◌≡◌, Bool, true, not, ◌||◌, List, [], ◌∷◌, ℕ, suc, ◌-◌, ◌≤◌}
use Rattle.base.specs.Choice.{pick}
use Rattle.base.specs.Range.{up_to, joined}
use Rattle.plan.specs.declared.TaskId.{TaskId}
use Rattle.rules.specs.declared.task.Task.{Task}
use Rattle.rules.specs.declared.task.TaskState.TheVariants.{Sending, Receiving}
use Rattle.rules.specs.declared.system.TaskTable.{TaskTable}
use Rattle.rules.specs.Numbers.{task_id}
use Rattle.rules.specs.Tasks.{is_in}
use Rattle.rules.specs.Systems.{task_in}
use Rattle.rules.specs.Finish.{is_stuck, lowest, stuck_line, verdict_line}
use Rattle.rig_parts.specs.Fetches.{instruction_in}
use Rattle.rig_parts.specs.Scopes.{named_in}

-- no task of 1 .. count is stuck
unfoldable pub finishes_in : TaskTable → ℕ → Bool
finishes_in ts count = up_to count (λ t. not (is_stuck (task_in ts (task_id t))))

-- the task that task t, with record x, depends on
unfoldable pub depends_in : List ℕ → List ℕ → List ℕ → TaskId → Task → TaskId
depends_in codes senders receivers t x =
    let c = (instruction_in codes t (x.pc - 1)).operand in
    pick (is_in Sending x) (named_in receivers c)
    (pick (is_in Receiving x) (named_in senders c)
    (task_id (lowest 64 x.children)))

-- task t has executed an instruction, on a channel
pub record LastOn (codes : List ℕ) (t : TaskId) (x : Task) : Type 0 where
  pub task_low : 1 ≤ t.0
  pub task : t.0 ≤ 64
  pub place_low : 2 ≤ x.pc
  pub place : x.pc ≤ 65
  pub channel : (instruction_in codes t (x.pc - 1)).operand ≤ 128

-- so it is, if it sends or receives
abbrev pub Dependent : List ℕ → TaskId → Task → Type 0
Dependent codes t x = is_in Sending x || is_in Receiving x ≡ true → LastOn codes t x

-- each of the tasks 1 .. count
abbrev pub AllDependent : List ℕ → TaskTable → ℕ → Type 0
AllDependent codes ts count = (t : ℕ) → 1 ≤ t → t ≤ count → Dependent codes (task_id t) (task_in ts (task_id t))

-- the line of task t, if it is stuck; those of tasks 1 .. count
abbrev pub stuck_line_in : List ℕ → List ℕ → List ℕ → TaskTable → ℕ → List (List ℕ)
stuck_line_in codes senders receivers ts t =
    let x = task_in ts (task_id t) in
    pick (is_stuck x) (stuck_line (record { task = task_id t; on = depends_in codes senders receivers (task_id t) x }) ∷ []) []

unfoldable pub stuck_lines_in : List ℕ → List ℕ → List ℕ → TaskTable → ℕ → List (List ℕ)
stuck_lines_in codes senders receivers ts count = joined count (λ k. stuck_line_in codes senders receivers ts (suc k))

-- all lines, after so many accepted runs
abbrev pub lines_in : List ℕ → List ℕ → List ℕ → TaskTable → ℕ → ℕ → List (List ℕ)
lines_in codes senders receivers ts count work =
    verdict_line (finishes_in ts count) work ∷ stuck_lines_in codes senders receivers ts count
