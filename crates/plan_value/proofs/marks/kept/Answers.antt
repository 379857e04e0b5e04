-- `marks::kept` is the first task then.
use borrow.Author.Tests.{eq-eqb, ne_eqb}
use Rattle.plan_value.proofs.marks.kept.Goals as goal

pub returns-then-old-eq0 : goal.returns-then-old-eq0
returns-then-old-eq0 c = simp (eq-eqb _ _ c.if-old-eq0.true)

pub returns-else-old-eq0 : goal.returns-else-old-eq0
returns-else-old-eq0 c = simp (ne_eqb _ _ c.if-old-eq0.false)
