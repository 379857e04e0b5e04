-- `living` counts the ones of the set of children.
use borrow.Author.Rules.{rules}
use Rattle.task_rules.proofs.Counting.{counted, none_counted}
use Rattle.task_rules.proofs.children.living.Goals as goal

pub returns : goal.returns
returns c = let s = c.args.x.children in (counted s (search rules), none_counted s (search rules))
