-- `marks::end_fits` tests one more at an end of a channel.
use borrow.Author.Tests.{eq-eqb, ne_eqb}
use Rattle.plan_value.proofs.marks.end_fits.Goals as goal

pub returns-then-other-t : goal.returns-then-other-t
returns-then-other-t c = simp (eq-eqb _ _ c.if-other-t.true)

pub returns-then-old-eq0 : goal.returns-then-old-eq0
returns-then-old-eq0 c = simp (ne_eqb _ _ c.if-other-t.false, eq-eqb _ _ c.if-old-eq0.true)

pub returns : goal.returns
returns c = simp (ne_eqb _ _ c.if-other-t.false, ne_eqb _ _ c.if-old-eq0.false)
