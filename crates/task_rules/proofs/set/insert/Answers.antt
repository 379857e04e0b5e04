-- `insert` puts the bit in.
use borrow.Author.Rules.{rules}
use Rattle.task_rules.proofs.Bits.{with_bit}
use Rattle.task_rules.proofs.set.insert.Goals as goal

pub returns : goal.returns
returns c = with_bit c.args.t c.args.s (search rules) (search rules) (search rules)
