-- `rest_number`: with 256 or without.
use native.Mathlib.Omega.{arith}
use Rattle.live_rig.proofs.rest.rest_number.Goals as goal

pub returns-then-rest : goal.returns-then-rest
returns-then-rest c = rw c.if-rest.true (omega arith)

pub returns : goal.returns
returns c = rw c.if-rest.false (omega arith)
