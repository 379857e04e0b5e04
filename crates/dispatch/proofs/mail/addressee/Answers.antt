-- `addressee`: the desk that a letter is addressed to.
use mathlib.Core.Path.{refl}
use Rattle.rules.specs.Dispatch.{addressee}
use borrow.Author.Rules.{rules}
use Rattle.dispatch.proofs.mail.addressee.Goals as goal

pub returns-in-Empty : goal.returns-in-Empty
unfolding addressee
returns-in-Empty c = rw c.in-Empty.is refl

pub returns-in-Offered : goal.returns-in-Offered
unfolding addressee
returns-in-Offered c = rw c.in-Offered.is refl

pub returns-in-Advert : goal.returns-in-Advert
unfolding addressee
returns-in-Advert c = search rules

pub returns-in-ReadyToReceive : goal.returns-in-ReadyToReceive
unfolding addressee
returns-in-ReadyToReceive c = search rules

pub returns-in-Data : goal.returns-in-Data
unfolding addressee
returns-in-Data c = rw c.in-Data.is refl

pub returns-in-Terminated : goal.returns-in-Terminated
unfolding addressee
returns-in-Terminated c = search rules

pub returns-in-Migration : goal.returns-in-Migration
unfolding addressee
returns-in-Migration c = search rules
