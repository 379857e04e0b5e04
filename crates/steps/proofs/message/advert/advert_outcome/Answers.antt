-- An advert. The rule is asked at what it sees of the site.
use mathlib.Core.Path.{refl}
use Rattle.board.specs.Lent.{lent}
use Rattle.steps.proofs.message.Bounds.{advert_bounded}
use Rattle.steps.proofs.message.Rules.{advert_kind}
use Rattle.steps.proofs.message.Sites.{found}
use borrow.Author.Rules.{rules}
use Rattle.steps.proofs.message.advert.advert_outcome.Goals as goal

pub enum_known-m : goal.enum_known-m
enum_known-m c = search rules

pub note_at-noted-requires : goal.note_at-noted-requires
note_at-noted-requires c = (advert_bounded c.requires.1.holds.holds.holds.holds c.in-Advert.is).cell

pub channel_at-channel-requires : goal.channel_at-channel-requires
channel_at-channel-requires c = let b = advert_bounded c.requires.1.holds.holds.holds.holds c.in-Advert.is in (b.cell.channel_low, b.cell.channel)

pub at_receiver-x-requires : goal.at_receiver-x-requires
at_receiver-x-requires c = let b = advert_bounded c.requires.1.holds.holds.holds.holds c.in-Advert.is in (b.cell.channel, b.receiver, b.receiver_place)

pub advert-requires : goal.advert-requires
advert-requires c = rw (c.at_receiver-x.ensures, c.cell_of-cell.ensures, c.channel_at-channel.ensures) (advert_bounded c.requires.1.holds.holds.holds.holds c.in-Advert.is).called

pub returns : goal.returns
returns c =
    let s = c.args in
    λ hintprocessors hintmoves heldprocessors heldnumbers.
    found (advert_kind c.in-Advert.c c.in-Advert.d c.in-Advert.field-2) c.in-Advert.is s.codes.now s.users.now
    (lent hintprocessors hintmoves heldprocessors heldnumbers s.notes.now s.board.now) (advert_bounded c.requires.1.holds.holds.holds.holds c.in-Advert.is).cell.channel_low
    (rw (
      c.at_receiver-x.ensures,
      c.cell_of-cell.ensures,
      c.no_offer-none.ensures,
      c.unknown-unknown.ensures,
      c.channel_at-channel.ensures,
      c.note_at-noted.ensures,
    )
    refl)
    c.advert.ensures
