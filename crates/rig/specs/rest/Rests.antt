-- Whether the rig is at rest, by its tasks: with no letter in the mail there is room for what a run posts, and it is refused by its task alone.
use Rattle.std.specs.Prelude.{Bool, not, ◌&&◌, List, ℕ, eqb}
use Rattle.base.specs.Range.{up_to}
use Rattle.rules.specs.declared.system.TaskTable.{TaskTable}
use Rattle.rules.specs.Numbers.{task_id}
use Rattle.rules.specs.Answers.{is_accepted}
use Rattle.rig_parts.specs.RunVerdicts.{run_refusal}

-- at rest, by the tasks, their next instructions and the number of letters
unfoldable pub quiet_in : ℕ → List ℕ → TaskTable → ℕ → Bool
quiet_in count codes ts used = eqb used 0 && up_to count (λ t. not (is_accepted (run_refusal codes count ts (task_id t))))
