-- `change_first_level`: the task's new record is stored, whose word is as it was above level 0.
use mathlib.Core.Path.{◌∙◌, ap}
use borrow.Author.Rules.{rules}
use Rattle.rules.specs.Systems.{task_stored}
use Rattle.board.specs.Lent.{tasks_on}
use Rattle.steps.proofs.Words.{above_kept, standing_kept}
use Rattle.steps.proofs.word.change_first_level.Goals as goal

pub put_first_level-requires : goal.put_first_level-requires
put_first_level-requires c =
    let p = c.requires in
    let x = c.args.x in
    let i = c.args.i in
    (p.0, p.1, p.3, rw (c.word_changed-y.ensures, ← p.5) (above_kept x i p.4), rw (c.word_changed-y.ensures, ← p.5) (standing_kept x i))

pub returns : goal.returns
returns c =
    let e = c.put_first_level.ensures in
    (e.0, e.1 ∙ ap (task_stored (tasks_on _) _) c.word_changed-y.ensures, e.2, e.3)
