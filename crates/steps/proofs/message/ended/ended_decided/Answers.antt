-- An ended letter is decided: what it would post.
use borrow.Author.Rules.{rules}
use Rattle.steps.proofs.message.TaskActs.{ended_opening}
use Rattle.steps.proofs.message.ended.ended_decided.Goals as goal

pub ended_outcome-o-requires : goal.ended_outcome-o-requires
ended_outcome-o-requires c = c.requires

pub returns : goal.returns
returns c =
    let s = c.args in
    λ codes hintprocessors hintmoves heldprocessors heldnumbers notes.
    ended_opening codes s.users.now hintprocessors hintmoves heldprocessors heldnumbers notes s.board.now s.h s.t c.ended_outcome-o.ensures c.posted.ensures
