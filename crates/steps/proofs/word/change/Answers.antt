-- `change`: the task's new record is stored.
use mathlib.Core.Path.{◌∙◌, ap}
use borrow.Author.Rules.{rules}
use Rattle.rules.specs.Systems.{task_stored}
use Rattle.board.specs.Lent.{tasks_on}
use Rattle.steps.proofs.word.change.Goals as goal

pub returns : goal.returns
returns c =
    let e = c.put_task.ensures in
    (e.0, e.1 ∙ ap (task_stored (tasks_on _) _) c.word_changed-y.ensures, e.2, e.3)
