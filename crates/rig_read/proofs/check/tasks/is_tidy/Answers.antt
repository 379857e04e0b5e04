use native.Mathlib.Omega.{arith}
use Rattle.rig_read.proofs.Tidy.{tidy_tested}
use Rattle.rig_read.proofs.check.tasks.is_tidy.Goals as goal

pub returns : goal.returns
returns c = tidy_tested c.args.v (omega arith)
