-- `tidy_channel`.
use Rattle.rig_write.proofs.Tidy.{channel_tidy_lem}
use Rattle.rig_write.proofs.sections.tidy_channel.Goals as goal

pub returns : goal.returns
returns c = channel_tidy_lem c.args.v
