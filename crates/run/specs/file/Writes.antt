-- The lines behind those of the steps, and the outcome of a run.
use Rattle.std.specs.Prelude.{◌≡◌, List, [], ◌∷◌, ℕ, suc, length}
use Rattle.base.specs.Choice.{pick}
use Rattle.base.specs.Range.{joined}
use Rattle.plan.specs.declared.Plan.{Plan}
use Rattle.rules.specs.Answers.{RunAnswer}
use Rattle.rules.specs.declared.system.TaskTable.{TaskTable}
use Rattle.rules.specs.Numbers.{task_id}
use Rattle.rules.specs.Starts.{started}
use Rattle.rules.specs.Systems.{task_in}
use Rattle.rules.specs.Trace.{over_line}
use Rattle.rules.specs.StepFiles.{file_steps, trace_lines, run_file_answer, run_file_text, run_file_output}
use Rattle.rig_parts.specs.Facts.{Facts}
use Rattle.run.specs.all_steps.Writes.{Written}
use Rattle.run.specs.declared.file.drive.Driven.{Driven}
use Rattle.run.specs.file.Begins.{Begins}

-- the line of task t, if it is marked; those of tasks 1 to n, by rising number
abbrev pub mark_line : TaskTable → ℕ → List (List ℕ)
mark_line ts t = pick (task_in ts (task_id t)).overflow (over_line t ∷ []) []

unfoldable pub mark_lines : TaskTable → ℕ → List (List ℕ)
mark_lines ts n = joined n (λ k. mark_line ts (suc k))

-- the trace of the plan that f is derived of, on n desks from its start
abbrev pub TraceOf : ℕ → Facts → List ℕ → List ℕ → Driven → List ℕ → Type 0
TraceOf n f steps before r after =
    (p : Plan) → Begins n p f → Written (trace_lines (started n p) (file_steps steps)) before r.filled r.whole after

-- what a run over a plan file and a step file answers, how many bytes it fills, and what the output holds then
pub record RunFile (n : ℕ) (p b before : List ℕ) (answer : RunAnswer) (filled : ℕ) (after : List ℕ) : Type 0 where
  pub answered : answer ≡ run_file_answer n p b before
  pub count : filled ≡ length (run_file_text n p b before)
  pub bytes : after ≡ run_file_output n p b before
