-- `mortarsedge_step`: the step, and the record of what it received.
use native.Mathlib.Omega.{arith}
use Rattle.live_step.proofs.Meeting.{step_short, step_meets}
use Rattle.live_step.proofs.mortarsedge_step.Goals as goal

pub returns-then-record-lt10 : goal.returns-then-record-lt10
returns-then-record-lt10 c = step_short c.args.rig.now _ c.args.«record».now c.if-record-lt10.true

pub returns : goal.returns
returns c =
    step_meets c.args.rig.now _ c.args.«record».now c.step_held-q.result (omega (arith, c.if-record-lt10.false))
    (rw c.step_given.ensures at c.step_held-q.ensures)
    c.answer_number.ensures
    c.put_received.ensures
