-- `letter_fits`: by the types of a letter's numbers.
use native.Mathlib.Omega.{arith}
use Rattle.live_rig.proofs.ranges.letter_fits.Goals as goal

pub returns-in-Empty : goal.returns-in-Empty
returns-in-Empty c = rw c.in-Empty.is (omega arith)

pub returns-in-Offered : goal.returns-in-Offered
returns-in-Offered c = rw c.in-Offered.is (c.byte_fits.ensures, c.offer_fits.ensures, c.hint_fits.ensures)

pub returns-in-Advert : goal.returns-in-Advert
returns-in-Advert c = rw c.in-Advert.is (c.byte_fits-in-Advert-3.ensures, c.byte_fits-in-Advert.ensures, c.byte_fits-in-Advert-2.ensures)

pub returns-in-ReadyToReceive : goal.returns-in-ReadyToReceive
returns-in-ReadyToReceive c = rw c.in-ReadyToReceive.is (c.byte_fits-in-ReadyToReceive-2.ensures, c.byte_fits-in-ReadyToReceive.ensures, c.hint_fits-in-ReadyToReceive.ensures)

pub returns-in-Data : goal.returns-in-Data
returns-in-Data c = rw c.in-Data.is (c.byte_fits-in-Data-2.ensures, c.byte_fits-in-Data.ensures, c.word_fits.ensures)

pub returns-in-Terminated : goal.returns-in-Terminated
returns-in-Terminated c = rw c.in-Terminated.is (c.hint_fits-in-Terminated.ensures, c.byte_fits-in-Terminated.ensures)

pub returns-in-Migration : goal.returns-in-Migration
returns-in-Migration c = rw c.in-Migration.is (c.byte_fits-in-Migration.ensures, c.byte_fits-in-Migration-2.ensures)
