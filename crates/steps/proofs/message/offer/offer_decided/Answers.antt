-- An offer. What it leaves is said.
use Rattle.board.specs.Lent.{lent}
use Rattle.steps.proofs.message.Rules.{offer_kind}
use Rattle.steps.proofs.message.Sites.{opening}
use borrow.Author.Rules.{rules}
use Rattle.steps.proofs.message.offer.offer_decided.Goals as goal

pub returns : goal.returns
returns c =
    let s = c.args in
    let m = c.requires.0 in
    λ notes.
    opening (offer_kind m.channel m.made m.along) m.is s.codes.now s.users.now
    (lent s.hintprocessors.now s.hintmoves.now s.heldprocessors.now s.heldnumbers.now notes s.board.now)
    (c.offer_outcome-o.ensures notes) c.accepted.ensures
