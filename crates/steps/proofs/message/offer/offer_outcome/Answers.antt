-- An offer. The rule is asked at what it sees of the site.
use mathlib.Core.Path.{refl}
use Rattle.board.specs.Lent.{lent}
use Rattle.steps.proofs.message.Bounds.{offer_bounded}
use Rattle.steps.proofs.message.Rules.{offer_kind}
use Rattle.steps.proofs.message.Sites.{found}
use borrow.Author.Rules.{rules}
use Rattle.steps.proofs.message.offer.offer_outcome.Goals as goal

pub enum_known-m : goal.enum_known-m
enum_known-m c = search rules

pub hint_at-hint-requires : goal.hint_at-hint-requires
hint_at-hint-requires c = (offer_bounded c.requires.1.holds c.in-Offered.is).cell

pub held_at-held-requires : goal.held_at-held-requires
held_at-held-requires c = (offer_bounded c.requires.1.holds c.in-Offered.is).cell

pub channel_at-channel-requires : goal.channel_at-channel-requires
channel_at-channel-requires c = let b = offer_bounded c.requires.1.holds c.in-Offered.is in (b.cell.channel_low, b.cell.channel)

pub at_receiver-x-requires : goal.at_receiver-x-requires
at_receiver-x-requires c = let b = offer_bounded c.requires.1.holds c.in-Offered.is in (b.cell.channel, b.receiver, b.receiver_place)

pub offer-requires : goal.offer-requires
offer-requires c = rw (c.at_receiver-x.ensures, c.cell_of-cell.ensures, c.channel_at-channel.ensures) (offer_bounded c.requires.1.holds c.in-Offered.is).called

pub returns : goal.returns
returns c =
    let s = c.args in
    λ notes.
    found (offer_kind c.in-Offered.c c.in-Offered.field-1 c.in-Offered.h) c.in-Offered.is s.codes.now s.users.now
    (lent s.hintprocessors.now s.hintmoves.now s.heldprocessors.now s.heldnumbers.now notes s.board.now) (offer_bounded c.requires.1.holds c.in-Offered.is).cell.channel_low
    (rw (
      c.at_receiver-x.ensures,
      c.cell_of-cell.ensures,
      c.channel_at-channel.ensures,
      c.held_at-held.ensures,
      c.hint_at-hint.ensures,
    )
    refl)
    c.offer.ensures
