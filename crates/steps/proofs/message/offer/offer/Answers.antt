-- An offer. What it leaves is stored.
use mathlib.Core.Path.{refl, sym, ◌∙◌}
use Rattle.rules.specs.Cells.{with_hint}
use Rattle.board.specs.Lent.{lent, tasks_on, hint_in}
use Rattle.board.proofs.Stores.{held_stored}
use Rattle.steps.proofs.message.Bounds.{offer_bounded, sender_in, receiver_in}
use Rattle.steps.proofs.message.Rules.{offer_kind}
use Rattle.steps.proofs.message.Tasks.{both_own}
use Rattle.steps.proofs.message.Sites.{opened}
use borrow.Author.Rules.{rules}
use Rattle.steps.proofs.message.offer.offer.Goals as goal

pub enum_known-m : goal.enum_known-m
enum_known-m c = search rules

pub offer_outcome-o-requires : goal.offer_outcome-o-requires
offer_outcome-o-requires c = rw c.in-Offered.is at c.requires

pub put_held-requires : goal.put_held-requires
put_held-requires c = (offer_bounded c.requires.1.holds c.in-Offered.is).cell

pub put_channel-requires : goal.put_channel-requires
put_channel-requires c = let b = offer_bounded c.requires.1.holds c.in-Offered.is in (b.cell.channel_low, b.cell.channel, b.whole)

pub returns : goal.returns
returns c =
    let s = c.args in
    let from = c.offer_outcome-o in
    let held = c.put_held in
    let own = c.put_channel in
    let d = c.in-Offered.h.processor in
    λ notes.
    opened (offer_kind c.in-Offered.c c.in-Offered.field-1 c.in-Offered.h) c.in-Offered.is s.codes.now s.users.now
    (lent s.hintprocessors.now s.hintmoves.now s.heldprocessors.now s.heldnumbers.now notes s.board.now) (offer_bounded c.requires.1.holds c.in-Offered.is).cell.channel_low
    (lent s.hintprocessors.now s.hintmoves.now held.new.heldprocessors held.new.heldnumbers notes own.new.board)
    (from.ensures notes) c.accepted.ensures
    own.ensures.0
    (own.ensures.2 ∙ sym (both_own (tasks_on s.board.now) (sender_in s.users.now c.in-Offered.c) (receiver_in s.users.now c.in-Offered.c)))
    (held_stored s.hintprocessors.now s.hintmoves.now s.heldprocessors.now s.heldnumbers.now notes s.board.now s.board.now own.new.board d c.in-Offered.c
    (with_hint from.result.cell (hint_in s.hintprocessors.now s.hintmoves.now d c.in-Offered.c)) refl held.ensures refl own.ensures.1)
    own.ensures.3
