-- `marks::create_fits` tests one create more.
use borrow.Author.Tests.{eq-eqb, ne_eqb}
use Rattle.plan_value.proofs.marks.create_fits.Goals as goal

pub returns-then-old-ne0 : goal.returns-then-old-ne0
returns-then-old-ne0 c = simp (ne_eqb _ _ c.if-old-ne0.true)

pub returns : goal.returns
returns c = simp (eq-eqb _ _ c.if-old-ne0.false, c.wide8.ensures)
