-- `emit_task`: the line of a task behind the others, if it is stuck and all of these fitted.
use mathlib.Core.Bool.{Bool}
use mathlib.Core.Path.{◌≡◌, sym, ap, ◌∙◌}
use native.Mathlib.Omega.{arith}
use borrow.Author.Rules.{rules}
use Rattle.plan.specs.declared.TaskId.{TaskId}
use Rattle.rules.specs.declared.task.Task.{Task}
use Rattle.rules.specs.Numbers.{task_id}
use Rattle.rules.specs.Systems.{task_in}
use Rattle.rules.specs.Finish.{is_stuck, stuck_line}
use Rattle.board.specs.Lent.{tasks_on}
use Rattle.plan_index.specs.user_table.Users.{senders_of, receivers_of}
use Rattle.trace.proofs.Putting.{two_length}
use Rattle.run.proofs.all_steps.Progress.{next_none, next_stopped, noted_room, next_noted}
use Rattle.finish.specs.Answers.{depends_in}
use Rattle.finish.proofs.lines.emit_task.Goals as goal

-- whether the task is stuck, as it was read
stuck : {x y : Task} {r : Bool} → x ≡ y → r ≡ is_stuck x → is_stuck y ≡ r
stuck e h = sym (h ∙ ap is_stuck e)

pub returns-then-progress-ne0 : goal.returns-then-progress-ne0
returns-then-progress-ne0 c = next_stopped _ _ _ c.if-progress-ne0.true

pub returns-then-not-is_stuck : goal.returns-then-not-is_stuck
returns-then-not-is_stuck c =
    rw (stuck c.task_at-x.ensures c.is_stuck.ensures ∙ c.if-not-is_stuck.true) (next_none _ _)

pub depends_on-u-requires : goal.depends_on-u-requires
depends_on-u-requires c = rw c.task_at-x.ensures c.requires.1

pub note-requires : goal.note-requires
note-requires c =
    (c.requires.2, omega (arith, noted_room _ c.args.progress.now _ c.requires.2 c.if-progress-ne0.false c.requires.3 c.emit_stuck-written.ensures, c.well_formed.0))

pub returns : goal.returns
unfolding stuck_line
returns c =
    let a = c.args in
    let t = a.t in
    let on : Task → TaskId = depends_in a.codes.now (senders_of a.users.now) (receivers_of a.users.now) (task_id t) in
    let x = task_in (tasks_on a.board.now) (task_id t) in
    let depends = ap (λ (u : TaskId). u.0) (c.depends_on-u.ensures ∙ ap on c.task_at-x.ensures) in
    let e = rw depends at c.emit_stuck-written.ensures in
    rw (stuck c.task_at-x.ensures c.is_stuck.ensures ∙ c.if-not-is_stuck.false, c.note.ensures)
    (next_noted _ _ _ c.requires.2 c.if-progress-ne0.false c.requires.3 e (omega (arith, two_length t (on x).0)))
