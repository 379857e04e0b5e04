-- `marks::next` takes one instruction more, by its kind.
use mathlib.Core.Path.{refl}
use Rattle.convert.proofs.Marking.{next_repeat, next_end_lem, next_plain}
use Rattle.convert.proofs.marks.next.Goals as goal

pub returns-then-x-eq-REPEAT : goal.returns-then-x-eq-REPEAT
returns-then-x-eq-REPEAT c = next_repeat c.args.m c.args.x c.if-x-eq-REPEAT.true refl refl

pub returns-then-x-eq-REPEAT_END : goal.returns-then-x-eq-REPEAT_END
returns-then-x-eq-REPEAT_END c = next_end_lem c.args.m c.args.x c.if-x-eq-REPEAT_END.true refl

pub returns : goal.returns
returns c = next_plain c.args.m c.args.x c.if-x-eq-REPEAT.false c.if-x-eq-REPEAT_END.false refl refl
