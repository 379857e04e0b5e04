-- `word_changed`.
use borrow.Author.Rules.{rules}
use borrow.Author.Tests.{eq-eqb, ne_eqb}
use Rattle.steps.proofs.word.word_changed.Goals as goal

pub returns-then-i-eq-SET : goal.returns-then-i-eq-SET
returns-then-i-eq-SET c = rw (eq-eqb _ _ c.if-i-eq-SET.true) c.set_rule.ensures

pub returns : goal.returns
returns c = rw (ne_eqb _ _ c.if-i-eq-SET.false) c.add_rule.ensures
