-- Whether the rig is at rest.
use Rattle.std.specs.Prelude.{Bool, true, false, ◌&&◌, ℕ, eqb, Ok, Err}
use Rattle.base.specs.Range.{up_to}
use Rattle.rules.specs.declared.system.TaskTable.{TaskTable}
use Rattle.rules.specs.Numbers.{task_id}
use Rattle.rig_parts.specs.declared.kept.Kept.{Kept}
use Rattle.rig_parts.specs.Answers.{Verdict}
use Rattle.rig_parts.specs.Facts.{Facts}
use Rattle.rig_parts.specs.RunVerdicts.{judged_run}

abbrev pub is_refused : Verdict → Bool
is_refused (Err a) = true
is_refused (Ok k) = false

unfoldable pub rest_in : Facts → ℕ → TaskTable → Kept → ℕ → Bool
rest_in f n ts s used = eqb used 0 && up_to f.tasks (λ t. is_refused (judged_run f n ts s used (task_id t)))
