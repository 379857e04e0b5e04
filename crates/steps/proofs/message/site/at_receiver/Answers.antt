-- The receiver is fetched, and what it does is asked.
use mathlib.Core.Path.{refl}
use borrow.Author.Rules.{rules}
use Rattle.steps.proofs.message.site.at_receiver.Goals as goal

pub task_at-b-requires : goal.task_at-b-requires
task_at-b-requires c = rw c.receiver-u.ensures c.requires.1

pub is_on-receiving-requires : goal.is_on-receiving-requires
is_on-receiving-requires c = (rw c.receiver-u.ensures c.requires.1, rw (c.task_at-b.ensures, c.receiver-u.ensures) c.requires.2)

pub returns : goal.returns
returns c = rw (c.no_task-nobody.ensures, c.is_on-receiving.ensures, c.task_at-b.ensures, c.receiver-u.ensures) refl
