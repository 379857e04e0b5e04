-- `write_step` writes the line of a step at the front, if it fits.
use mathlib.Core.Path.{refl}
use Rattle.trace.proofs.Putting.{step_none, step_word}
use Rattle.trace.proofs.direct.write_step.Goals as goal

pub returns-in-None : goal.returns-in-None
returns-in-None c = let a = c.args in rw (← step_none a.k a.q _ c.answer_number-a.ensures c.in-None.is) c.write_head.ensures

pub returns-in-Some : goal.returns-in-Some
returns-in-Some c = let a = c.args in rw (← step_word a.k a.q _ c.answer_number-a.ensures c.in-Some.c c.in-Some.w c.in-Some.is c.in-Some.c.0 refl) c.write_received.ensures
