-- `tidy_hint`.
use Rattle.rig_write.proofs.Tidy.{hint_tidy_lem}
use Rattle.rig_write.proofs.sections.tidy_hint.Goals as goal

pub returns : goal.returns
returns c = hint_tidy_lem c.args.v
