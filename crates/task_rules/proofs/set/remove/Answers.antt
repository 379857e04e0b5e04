-- `remove` takes the bit out.
use borrow.Author.Rules.{rules}
use Rattle.task_rules.proofs.Bits.{without_bit}
use Rattle.task_rules.proofs.set.remove.Goals as goal

pub returns : goal.returns
returns c = without_bit c.args.t c.args.s (search rules) (search rules) (search rules) (search rules)
