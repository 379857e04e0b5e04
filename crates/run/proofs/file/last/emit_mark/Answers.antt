-- `emit_mark`: the line of a task behind the others, if it is marked and all of these fitted.
use mathlib.Core.Path.{◌≡◌, sym, ap, ◌∙◌}
use native.Mathlib.Omega.{arith}
use borrow.Author.Rules.{rules}
use borrow.Author.Tests.{not-true, not-false}
use Rattle.rules.specs.declared.task.Task.{Task}
use Rattle.trace.proofs.Lines.{over_length}
use Rattle.run.proofs.all_steps.Progress.{next_none, next_stopped, noted_room, next_noted}
use Rattle.run.proofs.file.last.emit_mark.Goals as goal

-- the task's mark, as it was read
mark : {x y : Task} → x ≡ y → y.overflow ≡ x.overflow
mark e = ap (λ (x : Task). x.overflow) (sym e)

pub returns-then-progress-ne0 : goal.returns-then-progress-ne0
returns-then-progress-ne0 c = next_stopped _ _ _ c.if-progress-ne0.true

pub returns-then-not-x : goal.returns-then-not-x
returns-then-not-x c = rw (mark c.task_at-x.ensures ∙ not-true _ c.if-not-x.true) (next_none _ _)

pub note-requires : goal.note-requires
note-requires c =
    (c.requires.1, omega (arith, noted_room _ c.args.progress.now _ c.requires.1 c.if-progress-ne0.false c.requires.2 c.emit_over-written.ensures, c.well_formed.0))

pub returns : goal.returns
returns c =
    let t = c.args.t in
    let e = c.emit_over-written.ensures in
    rw (mark c.task_at-x.ensures ∙ not-false _ c.if-not-x.false, c.note.ensures) (next_noted _ _ _ c.requires.1 c.if-progress-ne0.false c.requires.2 e (omega (arith, over_length t)))
