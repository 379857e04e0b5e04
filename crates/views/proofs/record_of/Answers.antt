-- `record_of`: a task of the table.
use mathlib.Core.Path.{sym}
use borrow.Author.Rules.{rules}
use Rattle.rules_laws.proofs.TaskAt.{task_in_some}
use Rattle.views.proofs.record_of.Goals as goal

pub returns : goal.returns
returns c = sym (task_in_some _ _ (search rules))
