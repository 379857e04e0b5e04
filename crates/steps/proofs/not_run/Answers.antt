-- `not_run`: a move, or a step that is refused.
use borrow.Author.Rules.{rules}
use Rattle.plan_index.specs.user_table.Users.{senders_of, receivers_of}
use Rattle.board.specs.Lent.{lent, tasks_of, kept_of}
use Rattle.board.specs.Rigs.{facts_in}
use Rattle.board.specs.Verdicts.{step_verdict}
use Rattle.steps.specs.Kinds.{kind_refusal}
use Rattle.steps.proofs.Acting.{same_acted, refused_acted}
use Rattle.steps.proofs.ByKind.{a_move, no_run_no_move}
use Rattle.steps.proofs.not_run.Goals as goal

pub move_task-requires : goal.move_task-requires
move_task-requires c =
    c.requires.1

pub returns-then-s-eq3 : goal.returns-then-s-eq3
returns-then-s-eq3 c =
    let a = c.args in
    λ codes numbers op on notes.
    let l = lent a.hintprocessors.now a.hintmoves.now op on notes a.board.now in
    same_acted (a_move (facts_in a.n.tasks codes numbers a.users.now) a.n.processors (tasks_of l) (kept_of l) a.n.used a.s c.if-s-eq3.true)
    (c.move_task.ensures op on notes)

pub returns : goal.returns
returns c =
    let a = c.args in
    λ codes numbers op on notes.
    let l = lent a.hintprocessors.now a.hintmoves.now op on notes a.board.now in
    let f = facts_in a.n.tasks codes numbers a.users.now in
    refused_acted (senders_of a.users.now) (receivers_of a.users.now) l c.requires.1.whole
    (step_verdict f a.n.processors (tasks_of l) (kept_of l) a.n.used a.s) (kind_refusal a.s)
    (no_run_no_move f _ _ _ _ _ c.requires.0 c.if-s-eq3.false) c.no_message.ensures
