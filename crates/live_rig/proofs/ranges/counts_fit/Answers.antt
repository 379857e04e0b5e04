-- `counts_fit`: by the type of an element.
use native.Mathlib.Omega.{arith}
use Rattle.live_rig.proofs.ranges.counts_fit.Goals as goal

pub returns : goal.returns
returns c i = omega (arith, c.shared_slice_known-1.given i)
