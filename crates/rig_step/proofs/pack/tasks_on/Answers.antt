-- `tasks_on`: the tasks of a board.
use mathlib.Core.Path.{refl}
use Rattle.board.specs.Lent.{tasks_on}
use Rattle.rig_step.proofs.pack.tasks_on.Goals as goal

pub returns : goal.returns
unfolding tasks_on
returns c = rw (c.sets_on.ensures, c.records_on.ensures) refl
