-- `emit_next`: the line behind the others, if all of these fitted.
use native.Mathlib.Omega.{arith}
use borrow.Author.Rules.{rules}
use Rattle.run.proofs.all_steps.Progress.{step_line_some, next_stopped, noted_room, next_noted}
use Rattle.run.proofs.lines.emit_next.Goals as goal

pub returns-then-progress-ne0 : goal.returns-then-progress-ne0
returns-then-progress-ne0 c = next_stopped _ _ _ c.if-progress-ne0.true

pub note-requires : goal.note-requires
note-requires c =
    (c.requires.1, omega (arith, noted_room _ c.args.progress.now _ c.requires.1 c.if-progress-ne0.false c.requires.2 c.emit_step-written.ensures, c.well_formed.0))

pub returns : goal.returns
returns c =
    rw c.note.ensures (next_noted _ _ _ c.requires.1 c.if-progress-ne0.false c.requires.2 c.emit_step-written.ensures (step_line_some _ _))
