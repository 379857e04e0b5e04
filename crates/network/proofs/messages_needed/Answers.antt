-- `messages_needed` is how many letters a rule posts.
use mathlib.Core.Path.{sym, ◌∙◌}
use borrow.Author.Rules.{rules}
use Rattle.rules.specs.Networks.{messages_of}
use Rattle.network.proofs.Adverts.{length_adverts}
use Rattle.network.proofs.messages_needed.Goals as goal

pub returns-in-Nothing : goal.returns-in-Nothing
unfolding messages_of
returns-in-Nothing c = search rules

pub returns-in-Single : goal.returns-in-Single
unfolding messages_of
returns-in-Single c = search rules

pub returns-in-Adverts : goal.returns-in-Adverts
returns-in-Adverts c = rw c.in-Adverts.is (c.other_processors.ensures ∙ sym (length_adverts _ _ _))
