-- A word letter. What it leaves is said.
use Rattle.board.specs.Lent.{lent}
use Rattle.steps.proofs.message.Rules.{word_kind}
use Rattle.steps.proofs.message.Sites.{opening}
use borrow.Author.Rules.{rules}
use Rattle.steps.proofs.message.word.word_decided.Goals as goal

pub returns : goal.returns
returns c =
    let s = c.args in
    let m = c.requires.0 in
    λ hintprocessors hintmoves heldprocessors heldnumbers notes.
    opening (word_kind m.channel m.processor m.word) m.is s.codes.now s.users.now
    (lent hintprocessors hintmoves heldprocessors heldnumbers notes s.board.now)
    (c.word_outcome-o.ensures hintprocessors hintmoves heldprocessors heldnumbers notes) c.accepted.ensures
