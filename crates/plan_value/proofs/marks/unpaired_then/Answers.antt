-- `marks::unpaired_then` counts one more or one less.
use native.Mathlib.Omega.{arith}
use borrow.Author.Tests.{eq-eqb, ne_eqb}
use Rattle.plan_value.proofs.marks.unpaired_then.Goals as goal

pub overflow_add-result : goal.overflow_add-result
overflow_add-result c = omega arith

pub returns-then-other-eq0 : goal.returns-then-other-eq0
returns-then-other-eq0 c = simp (eq-eqb _ _ c.if-other-eq0.true)

pub overflow_sub-result : goal.overflow_sub-result
overflow_sub-result c = let some = simp (ne_eqb _ _ c.if-other-eq0.false) at c.requires.0 in omega arith

pub returns : goal.returns
returns c = simp (ne_eqb _ _ c.if-other-eq0.false)
