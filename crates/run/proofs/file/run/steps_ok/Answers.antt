-- `steps_ok` is refusal 8's test.
use mathlib.Core.Path.{refl}
use borrow.Author.Tests.{eq-eqb, ne_eqb}
use Rattle.rules.specs.StepFiles.{steps_ok}
use Rattle.run.proofs.file.run.steps_ok.Goals as goal

pub returns-then-steps-eq0 : goal.returns-then-steps-eq0
unfolding steps_ok
returns-then-steps-eq0 c = rw (eq-eqb _ 0 c.if-steps-eq0.true) refl

pub returns-else-steps-eq0 : goal.returns-else-steps-eq0
unfolding steps_ok
returns-else-steps-eq0 c = rw (ne_eqb _ 0 c.if-steps-eq0.false) refl
