-- `spot::next` goes on, by the instruction's kind.
use mathlib.Core.Path.{refl}
use borrow.Author.Tests.{eq-eqb, ne_eqb, lt-ltb, le-ltb}
use Rattle.convert.specs.Spots.{next_spot}
use Rattle.convert.proofs.spot.next.Goals as goal

pub returns-then-x-eq-REPEAT : goal.returns-then-x-eq-REPEAT
unfolding next_spot
returns-then-x-eq-REPEAT c = rw (eq-eqb _ 8 c.if-x-eq-REPEAT.true) refl

pub returns-then-x-ne-REPEAT_END : goal.returns-then-x-ne-REPEAT_END
unfolding next_spot
returns-then-x-ne-REPEAT_END c = rw (ne_eqb _ 8 c.if-x-eq-REPEAT.false, ne_eqb _ 9 c.if-x-ne-REPEAT_END.true) refl

pub returns-then-s-gt1 : goal.returns-then-s-gt1
unfolding next_spot
returns-then-s-gt1 c = rw (ne_eqb _ 8 c.if-x-eq-REPEAT.false, eq-eqb _ 9 c.if-x-ne-REPEAT_END.false, lt-ltb 1 _ c.if-s-gt1.true) refl

pub returns : goal.returns
unfolding next_spot
returns c = rw (ne_eqb _ 8 c.if-x-eq-REPEAT.false, eq-eqb _ 9 c.if-x-ne-REPEAT_END.false, le-ltb 1 _ c.if-s-gt1.false) refl
