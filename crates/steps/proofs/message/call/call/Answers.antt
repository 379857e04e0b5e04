-- A call. What it leaves is stored.
use mathlib.Core.Path.{sym, ap, ◌∙◌}
use Rattle.plan.specs.declared.TaskId.{TaskId}
use Rattle.board.specs.Lent.{lent, tasks_on}
use Rattle.steps.proofs.message.Bounds.{call_bounded, sender_in, receiver_in}
use Rattle.steps.proofs.message.Rules.{call_kind}
use Rattle.steps.proofs.message.Tasks.{receiver_own}
use Rattle.steps.proofs.message.Stores.{hint_stored}
use Rattle.steps.proofs.message.Sites.{opened}
use borrow.Author.Rules.{rules}
use Rattle.rules.specs.Systems.{task_stored}
use Rattle.steps.proofs.message.call.call.Goals as goal

pub enum_known-m : goal.enum_known-m
enum_known-m c = search rules

pub call_outcome-o-requires : goal.call_outcome-o-requires
call_outcome-o-requires c = rw c.in-ReadyToReceive.is at c.requires

pub sender-u-requires : goal.sender-u-requires
sender-u-requires c = (call_bounded c.requires.1.holds.holds.holds c.in-ReadyToReceive.is).cell.channel

pub put_task-requires : goal.put_task-requires
put_task-requires c = let b = call_bounded c.requires.1.holds.holds.holds c.in-ReadyToReceive.is in (rw c.sender-u.ensures b.sender, b.whole)

pub put_hint-requires : goal.put_hint-requires
put_hint-requires c = (call_bounded c.requires.1.holds.holds.holds c.in-ReadyToReceive.is).cell

pub returns : goal.returns
returns c =
    let s = c.args in
    let from = c.call_outcome-o in
    let task = c.put_task in
    let hint = c.put_hint in
    λ heldprocessors heldnumbers notes.
    opened (call_kind c.in-ReadyToReceive.c c.in-ReadyToReceive.d c.in-ReadyToReceive.field-2) c.in-ReadyToReceive.is s.codes.now s.users.now
    (lent s.hintprocessors.now s.hintmoves.now heldprocessors heldnumbers notes s.board.now) (call_bounded c.requires.1.holds.holds.holds c.in-ReadyToReceive.is).cell.channel_low
    (lent hint.new.hintprocessors hint.new.hintmoves heldprocessors heldnumbers notes task.new.board)
    (from.ensures heldprocessors heldnumbers notes) c.accepted.ensures
    task.ensures.0
    (task.ensures.1 ∙ ap (λ (u : TaskId). task_stored (tasks_on s.board.now) u from.result.sender) c.sender-u.ensures
    ∙ sym (receiver_own (tasks_on s.board.now) (sender_in s.users.now c.in-ReadyToReceive.c) (receiver_in s.users.now c.in-ReadyToReceive.c) from.result.sender (call_bounded c.requires.1.holds.holds.holds c.in-ReadyToReceive.is).apart))
    (hint_stored s.hintprocessors.now s.hintmoves.now heldprocessors heldnumbers notes s.board.now c.in-ReadyToReceive.d c.in-ReadyToReceive.c from.result.cell.entry.hint task.new.board hint.ensures task.ensures.2)
    task.ensures.3
