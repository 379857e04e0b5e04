-- `posting_fits`: by the types of a posting's numbers.
use native.Mathlib.Omega.{arith}
use Rattle.live_rig.proofs.ranges.posting_fits.Goals as goal

pub returns-in-Nothing : goal.returns-in-Nothing
returns-in-Nothing c = rw c.in-Nothing.is (omega arith)

pub returns-in-Single : goal.returns-in-Single
returns-in-Single c = rw c.in-Single.is c.letter_fits.ensures

pub returns-in-Adverts : goal.returns-in-Adverts
returns-in-Adverts c = rw c.in-Adverts.is (c.byte_fits.ensures, c.byte_fits-in-Adverts.ensures)
