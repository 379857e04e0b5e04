use Rattle.rig_read.proofs.Places.{eight_bytes}
use native.Mathlib.Omega.{arith}
use Rattle.rig_read.proofs.numbers.number8.Goals as goal

pub returns : goal.returns
returns c = rw eight_bytes (omega (arith, c.from_le_bytes.ensures))
