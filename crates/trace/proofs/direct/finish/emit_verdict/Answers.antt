-- `emit_verdict` puts the verdict and a number behind what is filled, if they fit.
use Rattle.trace.proofs.Emitting.{put_back}
use Rattle.trace.proofs.direct.finish.emit_verdict.Goals as goal

pub returns : goal.returns
returns c = put_back _ _ _ _ _ c.requires.0 c.write_verdict.ensures
