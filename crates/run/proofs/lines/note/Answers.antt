-- `note`: more bytes are filled, or the line did not fit.
use mathlib.Core.Path.{refl}
use borrow.Author.Rules.{rules}
use borrow.Author.Tests.{eq-eqb, ne_eqb}
use Rattle.run.proofs.lines.note.Goals as goal

pub returns-then-written-eq0 : goal.returns-then-written-eq0
returns-then-written-eq0 c = rw (eq-eqb _ 0 c.if-written-eq0.true) refl

pub returns : goal.returns
returns c = rw (ne_eqb _ 0 c.if-written-eq0.false) refl
