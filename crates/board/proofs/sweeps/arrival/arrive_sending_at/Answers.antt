-- `arrive_sending_at` is the rule for one channel.
use Rattle.board.proofs.sweeps.Rules.{newer_stored, older_stored}
use Rattle.board.proofs.sweeps.arrival.arrive_sending_at.Goals as goal

pub returns-then-own-h : goal.returns-then-own-h
returns-then-own-h c =
    let a = c.args in
    λ heldprocessors heldnumbers notes.
    newer_stored a.hintprocessors.now a.hintmoves.now heldprocessors heldnumbers notes a.board.now a.d a.c c.channel_index-k.ensures.0 c.entry_beside-i.ensures.0 _ c.travelling_entry-h.ensures c.unknown-none.ensures c.hint_entry-own.ensures c.put_travelling_entry.ensures c.if-own-h.true c.put_hint_entry.ensures

pub returns-else-own-h : goal.returns-else-own-h
returns-else-own-h c =
    let a = c.args in
    λ heldprocessors heldnumbers notes.
    older_stored a.hintprocessors.now a.hintmoves.now heldprocessors heldnumbers notes a.board.now a.d a.c c.channel_index-k.ensures.0 c.entry_beside-i.ensures.0 _ c.travelling_entry-h.ensures c.unknown-none.ensures c.hint_entry-own.ensures c.put_travelling_entry.ensures c.if-own-h.false
