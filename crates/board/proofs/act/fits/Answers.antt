-- What is posted fits where its letters do.
use mathlib.Core.Path.{refl}
use borrow.Author.Rules.{rules}
use Rattle.rules_laws.proofs.Messages.{few_messages}
use Rattle.board.proofs.act.fits.Goals as goal

pub overflow_add-result : goal.overflow_add-result
overflow_add-result c = let a = c.args in search (rules, few_messages a.n.processors a.p)

pub returns : goal.returns
returns c = rw c.messages_needed-needed.ensures refl
