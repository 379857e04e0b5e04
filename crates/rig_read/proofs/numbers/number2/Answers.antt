use Rattle.rig_read.proofs.Places.{two_bytes}
use native.Mathlib.Omega.{arith}
use Rattle.rig_read.proofs.numbers.number2.Goals as goal

pub returns : goal.returns
returns c = rw two_bytes (omega (arith, c.from_le_bytes.ensures))
