-- An advert. What it leaves is stored.
use mathlib.Core.Path.{sym, ◌∙◌}
use Rattle.board.specs.Lent.{lent, tasks_on}
use Rattle.steps.proofs.message.Bounds.{advert_bounded, sender_in, receiver_in}
use Rattle.steps.proofs.message.Rules.{advert_kind}
use Rattle.steps.proofs.message.Tasks.{both_own}
use Rattle.board.proofs.Stores.{note_stored}
use Rattle.steps.proofs.message.Sites.{opened}
use borrow.Author.Rules.{rules}
use Rattle.steps.proofs.message.advert.advert.Goals as goal

pub enum_known-m : goal.enum_known-m
enum_known-m c = search rules

pub advert_outcome-o-requires : goal.advert_outcome-o-requires
advert_outcome-o-requires c = rw c.in-Advert.is at c.requires

pub put_note-requires : goal.put_note-requires
put_note-requires c = (advert_bounded c.requires.1.holds.holds.holds.holds c.in-Advert.is).cell

pub put_channel-requires : goal.put_channel-requires
put_channel-requires c = let b = advert_bounded c.requires.1.holds.holds.holds.holds c.in-Advert.is in (b.cell.channel_low, b.cell.channel, b.whole)

pub returns : goal.returns
returns c =
    let s = c.args in
    let from = c.advert_outcome-o in
    let own = c.put_channel in
    λ hintprocessors hintmoves heldprocessors heldnumbers.
    opened (advert_kind c.in-Advert.c c.in-Advert.d c.in-Advert.field-2) c.in-Advert.is s.codes.now s.users.now
    (lent hintprocessors hintmoves heldprocessors heldnumbers s.notes.now s.board.now) (advert_bounded c.requires.1.holds.holds.holds.holds c.in-Advert.is).cell.channel_low
    (lent hintprocessors hintmoves heldprocessors heldnumbers c.put_note.new.notes own.new.board)
    (from.ensures hintprocessors hintmoves heldprocessors heldnumbers) c.accepted.ensures
    own.ensures.0
    (own.ensures.2 ∙ sym (both_own (tasks_on s.board.now) (sender_in s.users.now c.in-Advert.c) (receiver_in s.users.now c.in-Advert.c)))
    (note_stored hintprocessors hintmoves heldprocessors heldnumbers s.notes.now s.board.now c.in-Advert.d c.in-Advert.c from.result.cell.entry.noted from.result.cell.channel own.new.board c.put_note.ensures own.ensures.1)
    own.ensures.3
