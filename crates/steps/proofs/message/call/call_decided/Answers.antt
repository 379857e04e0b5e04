-- A call. What it leaves is said.
use Rattle.board.specs.Lent.{lent}
use Rattle.steps.proofs.message.Rules.{call_kind}
use Rattle.steps.proofs.message.Sites.{opening}
use borrow.Author.Rules.{rules}
use Rattle.steps.proofs.message.call.call_decided.Goals as goal

pub returns : goal.returns
returns c =
    let s = c.args in
    let m = c.requires.0 in
    λ heldprocessors heldnumbers notes.
    opening (call_kind m.channel m.processor m.pointer) m.is s.codes.now s.users.now
    (lent s.hintprocessors.now s.hintmoves.now heldprocessors heldnumbers notes s.board.now)
    (c.call_outcome-o.ensures heldprocessors heldnumbers notes) c.accepted.ensures
