-- `unborn`: a task before its birth.
use borrow.Author.Rules.{rules}
use Rattle.rig.proofs.start.unborn.Goals as goal

pub returns : goal.returns
returns c = simp c.unknown.ensures
