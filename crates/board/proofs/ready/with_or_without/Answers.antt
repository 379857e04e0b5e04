-- `with_or_without` inserts, or removes.
use Rattle.board.proofs.ready.with_or_without.Goals as goal

pub returns-then-joins : goal.returns-then-joins
returns-then-joins c = simp (c.insert.ensures, c.if-joins.true)

pub returns-else-joins : goal.returns-else-joins
returns-else-joins c = simp (c.remove.ensures, c.if-joins.false)
