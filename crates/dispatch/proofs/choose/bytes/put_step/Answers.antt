-- `put_step`: the bytes behind those before them, if all of these fitted.
use native.Mathlib.Omega.{arith}
use Rattle.run.proofs.all_steps.Progress.{next_stopped, noted_room, next_noted}
use Rattle.dispatch.proofs.choose.bytes.put_step.Goals as goal

pub returns-then-progress-ne0 : goal.returns-then-progress-ne0
returns-then-progress-ne0 c = next_stopped _ _ _ c.if-progress-ne0.true

pub note-requires : goal.note-requires
note-requires c =
    (c.requires.0, omega (arith, noted_room _ c.args.progress.now _ c.requires.0 c.if-progress-ne0.false c.requires.1 c.emit_bytes-written.ensures, c.well_formed.0))

pub returns : goal.returns
returns c =
    rw c.note.ensures (next_noted _ _ _ c.requires.0 c.if-progress-ne0.false c.requires.1 c.emit_bytes-written.ensures (omega arith))
