-- `tidy_task`: a number that is one of seven states stays, any other is the last.
use native.Mathlib.Omega.{arith}
use Rattle.rig_write.proofs.Tidy.{task_kept, task_last}
use Rattle.rig_write.proofs.sections.tidy_task.Goals as goal

pub returns-then-state-lt7 : goal.returns-then-state-lt7
returns-then-state-lt7 c = task_kept _ (omega arith) (omega arith)

pub returns : goal.returns
returns c = task_last _ (omega arith) (omega arith)
