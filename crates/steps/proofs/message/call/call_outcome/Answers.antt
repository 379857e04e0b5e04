-- A call. The rule is asked at what it sees of the site.
use mathlib.Core.Path.{refl}
use Rattle.board.specs.Lent.{lent}
use Rattle.steps.proofs.message.Bounds.{call_bounded}
use Rattle.steps.proofs.message.Rules.{call_kind}
use Rattle.steps.proofs.message.Sites.{found}
use borrow.Author.Rules.{rules}
use Rattle.steps.proofs.message.call.call_outcome.Goals as goal

pub enum_known-m : goal.enum_known-m
enum_known-m c = search rules

pub sender-u-requires : goal.sender-u-requires
sender-u-requires c = (call_bounded c.requires.1.holds.holds.holds c.in-ReadyToReceive.is).cell.channel

pub task_at-a-requires : goal.task_at-a-requires
task_at-a-requires c = rw c.sender-u.ensures (call_bounded c.requires.1.holds.holds.holds c.in-ReadyToReceive.is).sender

pub is_on-sending-requires : goal.is_on-sending-requires
is_on-sending-requires c = let b = call_bounded c.requires.1.holds.holds.holds c.in-ReadyToReceive.is in (rw c.sender-u.ensures b.sender, rw (c.task_at-a.ensures, c.sender-u.ensures) b.sender_place)

pub hint_at-hint-requires : goal.hint_at-hint-requires
hint_at-hint-requires c = (call_bounded c.requires.1.holds.holds.holds c.in-ReadyToReceive.is).cell

pub returns : goal.returns
returns c =
    let s = c.args in
    λ heldprocessors heldnumbers notes.
    found (call_kind c.in-ReadyToReceive.c c.in-ReadyToReceive.d c.in-ReadyToReceive.field-2) c.in-ReadyToReceive.is s.codes.now s.users.now
    (lent s.hintprocessors.now s.hintmoves.now heldprocessors heldnumbers notes s.board.now) (call_bounded c.requires.1.holds.holds.holds c.in-ReadyToReceive.is).cell.channel_low
    (rw (
      c.no_task-nobody.ensures,
      c.with_hint-cell.ensures,
      c.no_cell-none.ensures,
      c.hint_at-hint.ensures,
      c.is_on-sending.ensures,
      c.task_at-a.ensures,
      c.sender-u.ensures,
    )
    refl)
    c.call.ensures
