use Rattle.rig_read.proofs.Places.{four_bytes}
use native.Mathlib.Omega.{arith}
use Rattle.rig_read.proofs.numbers.number4.Goals as goal

pub returns : goal.returns
returns c = rw four_bytes (omega (arith, c.from_le_bytes.ensures))
