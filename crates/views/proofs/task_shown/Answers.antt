-- `task_shown` tests 9 and 10: the record is that of a task of the table.
use Rattle.views.proofs.Viewed.{one_of_64}
use borrow.Author.Rules.{rules}
use Rattle.views.proofs.task_shown.Goals as goal

pub record_of-requires : goal.record_of-requires
record_of-requires c = one_of_64 c.args.r c.args.t (search rules) (search rules)
