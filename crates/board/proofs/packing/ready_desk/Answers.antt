-- `ready_desk`: the desk of a ready task.
use mathlib.Core.Path.{refl}
use borrow.Author.Tests.{eq-eqb, ne_eqb}
use Rattle.board.proofs.packing.ready_desk.Goals as goal

pub returns-then-v-eq1 : goal.returns-then-v-eq1
returns-then-v-eq1 c = rw (eq-eqb _ 1 c.if-v-eq1.true) c.low8.ensures

pub returns-else-v-eq1 : goal.returns-else-v-eq1
returns-else-v-eq1 c = rw (ne_eqb _ 1 c.if-v-eq1.false) refl
