-- A word letter. The rule is asked at what it sees of the site.
use mathlib.Core.Path.{refl}
use Rattle.board.specs.Lent.{lent}
use Rattle.steps.proofs.message.Bounds.{word_bounded}
use Rattle.steps.proofs.message.Rules.{word_kind}
use Rattle.steps.proofs.message.Sites.{found}
use borrow.Author.Rules.{rules}
use Rattle.steps.proofs.message.word.word_outcome.Goals as goal

pub enum_known-m : goal.enum_known-m
enum_known-m c = search rules

pub channel_at-channel-requires : goal.channel_at-channel-requires
channel_at-channel-requires c = let b = word_bounded c.requires.1.holds.holds.holds.holds.holds c.in-Data.is in (b.cell.channel_low, b.cell.channel)

pub at_receiver-x-requires : goal.at_receiver-x-requires
at_receiver-x-requires c = let b = word_bounded c.requires.1.holds.holds.holds.holds.holds c.in-Data.is in (b.cell.channel, b.receiver, b.receiver_place)

pub returns : goal.returns
returns c =
    let s = c.args in
    λ hintprocessors hintmoves heldprocessors heldnumbers notes.
    found (word_kind c.in-Data.c c.in-Data.field-1 c.in-Data.field-2) c.in-Data.is s.codes.now s.users.now
    (lent hintprocessors hintmoves heldprocessors heldnumbers notes s.board.now) (word_bounded c.requires.1.holds.holds.holds.holds.holds c.in-Data.is).cell.channel_low
    (rw (
      c.at_receiver-x.ensures,
      c.cell_of-cell.ensures,
      c.no_offer-none.ensures,
      c.unknown-unknown.ensures,
      c.channel_at-channel.ensures,
    )
    refl)
    c.data.ensures
