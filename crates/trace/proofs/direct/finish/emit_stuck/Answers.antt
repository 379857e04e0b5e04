-- `emit_stuck` puts a stuck task and the task it depends on behind what is filled, if they fit.
use Rattle.trace.proofs.Emitting.{put_back}
use Rattle.trace.proofs.direct.finish.emit_stuck.Goals as goal

pub returns : goal.returns
returns c = put_back _ _ _ _ _ c.requires.0 c.write_head.ensures
