-- `delivery_answer`: 14, unless a letter is there.
use Rattle.panel.proofs.Answers.{delivery_none, delivery_some}
use Rattle.panel.proofs.counts.delivery_answer.Goals as goal

pub returns-then-position-eq0 : goal.returns-then-position-eq0
returns-then-position-eq0 c = let a = c.args in delivery_none a.used a.p c.position.ensures.0 c.if-position-eq0.true

pub returns : goal.returns
returns c = let a = c.args in delivery_some a.used a.p c.position.ensures.0 c.if-position-eq0.false
