-- `emit_step` puts the line of a step behind what is filled, if it fits.
use Rattle.trace.proofs.Emitting.{put_back}
use Rattle.trace.proofs.direct.emit_step.Goals as goal

pub returns : goal.returns
returns c = put_back _ _ _ _ _ c.requires.0 c.write_step.ensures
