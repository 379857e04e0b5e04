-- `remove_all` takes the bits out.
use borrow.Author.Rules.{rules}
use Rattle.task_rules.proofs.Bits.{without_all}
use Rattle.task_rules.proofs.set.remove_all.Goals as goal

pub returns : goal.returns
returns c = without_all c.args.h c.args.s (search rules) (search rules) (search rules)
