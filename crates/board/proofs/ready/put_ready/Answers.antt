-- `put_ready` changes two sets, or none.
use borrow.Author.Rules.{rules}
use Rattle.board.proofs.Readies.{none_moved, left_joined}
use Rattle.board.proofs.ready.put_ready.Goals as goal

pub change-requires-then-was-is : goal.change-requires-then-was-is
change-requires-then-was-is c = (search rules, search rules, c.change.ensures.whole)

pub returns-then-was-is : goal.returns-then-was-is
returns-then-was-is c =
    let q = c.before.before.before.before.before in
    let a = q.args in
    let w = q.ready_desk-was.ensures in
    let i = q.ready_desk-is.ensures in
    rw (← w, ← i)
    (left_joined a.board.now a.t.0 q.ready_desk-was.result q.ready_desk-is.result c.change.new.board c.change-then-was-is.new.board c.if-was-is.true
    c.change.ensures c.change-then-was-is.ensures)

pub returns-else-was-is : goal.returns-else-was-is
returns-else-was-is c =
    let q = c.before in
    let a = q.args in
    let w = q.ready_desk-was.ensures in
    let i = q.ready_desk-is.ensures in
    rw (← w, ← i) (none_moved a.board.now a.t.0 q.ready_desk-was.result q.ready_desk-is.result q.requires.2 c.if-was-is.false)
