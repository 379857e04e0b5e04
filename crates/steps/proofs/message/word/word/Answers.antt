-- A word letter. What it leaves is stored.
use mathlib.Core.Path.{sym, ap, ◌∙◌}
use Prim.Native.Nat.{◌-◌}
use Rattle.plan.specs.declared.TaskId.{TaskId}
use Rattle.rules.specs.declared.system.Channels.{Channels}
use Rattle.rules.specs.Systems.{write_channel, task_stored}
use Rattle.board.specs.Lent.{lent, tasks_on}
use Rattle.steps.proofs.message.Bounds.{word_bounded, sender_in, receiver_in}
use Rattle.steps.proofs.message.Rules.{word_kind}
use Rattle.steps.proofs.message.Tasks.{sender_own}
use Rattle.steps.proofs.message.Stores.{own_stored}
use Rattle.steps.proofs.message.Sites.{opened}
use borrow.Author.Rules.{rules}
use Rattle.steps.proofs.message.word.word.Goals as goal

pub enum_known-m : goal.enum_known-m
enum_known-m c = search rules

pub word_outcome-o-requires : goal.word_outcome-o-requires
word_outcome-o-requires c = rw c.in-Data.is at c.requires

pub receiver-u-requires : goal.receiver-u-requires
receiver-u-requires c = (word_bounded c.requires.1.holds.holds.holds.holds.holds c.in-Data.is).cell.channel

pub put_task-requires : goal.put_task-requires
put_task-requires c = let b = word_bounded c.requires.1.holds.holds.holds.holds.holds c.in-Data.is in (rw c.receiver-u.ensures b.receiver, b.whole)

pub put_channel-requires : goal.put_channel-requires
put_channel-requires c = let b = word_bounded c.requires.1.holds.holds.holds.holds.holds c.in-Data.is in (b.cell.channel_low, b.cell.channel, c.put_task.ensures.0)

pub returns : goal.returns
returns c =
    let s = c.args in
    let from = c.word_outcome-o in
    let task = c.put_task in
    let own = c.put_channel in
    λ hintprocessors hintmoves heldprocessors heldnumbers notes.
    opened (word_kind c.in-Data.c c.in-Data.field-1 c.in-Data.field-2) c.in-Data.is s.codes.now s.users.now
    (lent hintprocessors hintmoves heldprocessors heldnumbers notes s.board.now) (word_bounded c.requires.1.holds.holds.holds.holds.holds c.in-Data.is).cell.channel_low
    (lent hintprocessors hintmoves heldprocessors heldnumbers notes own.new.board)
    (from.ensures hintprocessors hintmoves heldprocessors heldnumbers notes) c.accepted.ensures
    own.ensures.0
    (own.ensures.2 ∙ task.ensures.1 ∙ ap (λ (u : TaskId). task_stored (tasks_on s.board.now) u from.result.receiver) c.receiver-u.ensures
    ∙ sym (sender_own (tasks_on s.board.now) (sender_in s.users.now c.in-Data.c) (receiver_in s.users.now c.in-Data.c) from.result.receiver))
    (own_stored hintprocessors hintmoves heldprocessors heldnumbers notes s.board.now c.in-Data.field-1 c.in-Data.c from.result.cell.channel own.new.board
    (own.ensures.1 ∙ ap (λ (y : Channels). write_channel y (c.in-Data.c.0 - 1) from.result.cell.channel) task.ensures.2))
    (own.ensures.3 ∙ task.ensures.3)
