-- An ended letter is opened: the parent's record is stored, and what the letter's desk keeps for it.
use borrow.Author.Rules.{rules}
use Rattle.steps.proofs.message.TaskActs.{ended_opened}
use Rattle.steps.proofs.message.ended.ended.Goals as goal

pub ended_outcome-o-requires : goal.ended_outcome-o-requires
ended_outcome-o-requires c = c.requires.1

pub parent-u-requires : goal.parent-u-requires
parent-u-requires c = c.requires.1.child

pub put_task-requires : goal.put_task-requires
put_task-requires c =
    (rw c.parent-u.ensures c.requires.1.parent, c.requires.0)

pub put_parent-requires : goal.put_parent-requires
put_parent-requires c =
    let can = c.requires.1 in
    (record { processor_low = can.processor_low; processor = can.processor; task = rw c.parent-u.ensures can.parent }, c.put_task.ensures.0)

pub returns : goal.returns
returns c =
    let s = c.args in
    let one = c.put_task in
    let two = c.put_parent in
    λ codes hintprocessors hintmoves heldprocessors heldnumbers notes.
    ended_opened codes s.users.now hintprocessors hintmoves heldprocessors heldnumbers notes s.board.now s.h s.t one.new.board two.new.board
    c.parent-u.ensures c.ended_outcome-o.ensures c.posted.ensures (one.ensures.1, one.ensures.2, one.ensures.3) two.ensures
