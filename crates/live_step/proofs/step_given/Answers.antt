-- `step_given`: whether each number fits.
use mathlib.Core.Path.{refl}
use native.Mathlib.Omega.{arith}
use borrow.Author.Tests.{le-leb, lt-leb}
use Rattle.live_step.proofs.step_given.Goals as goal

pub returns-then-number-le65535 : goal.returns-then-number-le65535
returns-then-number-le65535 c = rw (le-leb _ 255 c.if-kind-le255.true, le-leb _ 255 c.if-task-le255.true, le-leb _ 65535 c.if-number-le65535.true) refl

pub returns-else-number-le65535 : goal.returns-else-number-le65535
returns-else-number-le65535 c = rw (le-leb _ 255 c.if-kind-le255.true, le-leb _ 255 c.if-task-le255.true, lt-leb c.args.number 65535 (omega arith)) refl

pub returns-else-task-le255 : goal.returns-else-task-le255
returns-else-task-le255 c = rw (le-leb _ 255 c.if-kind-le255.true, lt-leb c.args.task 255 (omega arith)) refl

pub returns-else-kind-le255 : goal.returns-else-kind-le255
returns-else-kind-le255 c = rw (lt-leb c.args.kind 255 (omega arith)) refl
