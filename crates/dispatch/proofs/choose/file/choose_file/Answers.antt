-- `choose_file`: in the whole output, or in its first 8,000 bytes.
use native.Mathlib.Omega.{arith}
use lib.ListN.{length-take}
use Rattle.dispatch.proofs.Outcomes.{in_short, in_long}
use Rattle.dispatch.proofs.choose.file.choose_file.Goals as goal

pub returns-then-out-le8000 : goal.returns-then-out-le8000
returns-then-out-le8000 c = in_short _ _ _ c.if-out-le8000.true c.choose_in.ensures

pub slice_bounds-choose_in-end-2 : goal.slice_bounds-choose_in-end-2
slice_bounds-choose_in-end-2 c = simp length-take (omega arith)

pub returns : goal.returns
returns c = in_long _ _ _ (omega (arith, c.if-out-le8000.false)) c.choose_in-2.ensures
