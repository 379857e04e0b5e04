-- An advert. What it leaves is said.
use Rattle.board.specs.Lent.{lent}
use Rattle.steps.proofs.message.Rules.{advert_kind}
use Rattle.steps.proofs.message.Sites.{opening}
use borrow.Author.Rules.{rules}
use Rattle.steps.proofs.message.advert.advert_decided.Goals as goal

pub returns : goal.returns
returns c =
    let s = c.args in
    let m = c.requires.0 in
    λ hintprocessors hintmoves heldprocessors heldnumbers.
    opening (advert_kind m.channel m.processor m.from) m.is s.codes.now s.users.now
    (lent hintprocessors hintmoves heldprocessors heldnumbers s.notes.now s.board.now)
    (c.advert_outcome-o.ensures hintprocessors hintmoves heldprocessors heldnumbers) c.accepted.ensures
