-- `base::is_within` is the test `within`.
use borrow.Author.Tests.{lt-leb, le-leb}
use Rattle.base.proofs.is_within.Goals as goal

pub returns-then-n-low : goal.returns-then-n-low
returns-then-n-low c = simp (lt-leb _ _ c.if-n-low.true)

pub returns : goal.returns
returns c = simp (le-leb _ _ c.if-n-low.false)
