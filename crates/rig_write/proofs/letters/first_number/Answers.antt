-- `first_number`, letter by letter.
use Rattle.image.specs.Letters.{letter_numbers}
use Rattle.rig_write.proofs.letters.first_number.Goals as goal

pub returns-in-Empty : goal.returns-in-Empty
unfolding letter_numbers
returns-in-Empty c = cc

pub returns-in-Offered : goal.returns-in-Offered
unfolding letter_numbers
returns-in-Offered c = rw c.in-Offered.is c.offer_word.ensures

pub returns-in-Advert : goal.returns-in-Advert
unfolding letter_numbers
returns-in-Advert c = rw c.in-Advert.is c.letter_word.ensures

pub returns-in-ReadyToReceive : goal.returns-in-ReadyToReceive
unfolding letter_numbers
returns-in-ReadyToReceive c = rw c.in-ReadyToReceive.is c.call_word.ensures

pub returns-in-Data : goal.returns-in-Data
unfolding letter_numbers
returns-in-Data c = rw c.in-Data.is c.letter_word-in-Data.ensures

pub returns-in-Terminated : goal.returns-in-Terminated
unfolding letter_numbers
returns-in-Terminated c = rw c.in-Terminated.is c.ended_word.ensures

pub returns-in-Migration : goal.returns-in-Migration
unfolding letter_numbers
returns-in-Migration c = rw c.in-Migration.is c.letter_word-in-Migration.ensures
