-- Which task can run.
use Rattle.std.specs.Prelude.{◌≡◌, ◌≢◌, Bool, true, false, List, ℕ, ◌≤◌, ◌<◌}
use Rattle.rules.specs.declared.system.TaskTable.{TaskTable}
use Rattle.rules.specs.Answers.{is_accepted}
use Rattle.rules.specs.Numbers.{task_id}
use Rattle.rig_parts.specs.RunVerdicts.{run_refusal}

-- a run of task t is not refused by 10, 11 or 12
abbrev pub can_run : List ℕ → ℕ → TaskTable → ℕ → Bool
can_run codes count ts t = is_accepted (run_refusal codes count ts (task_id t))

-- r is a task of low + 1 .. high that can run, or 0 where none can
pub record Found (codes : List ℕ) (count : ℕ) (ts : TaskTable) (low high r : ℕ) : Type 0 where
  pub some : r ≢ 0 → (low < r) × (r ≤ high) × (can_run codes count ts r ≡ true)
  pub none : r ≡ 0 → (t : ℕ) → low < t → t ≤ high → can_run codes count ts t ≡ false
