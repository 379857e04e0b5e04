-- `first_task`: task 1, born at desk 1.
use borrow.Author.Rules.{rules}
use Rattle.rig.proofs.start.first_task.Goals as goal

pub returns : goal.returns
returns c = simp (c.birth.ensures, c.unknown.ensures)
