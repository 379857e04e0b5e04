-- `depart_at` is the rule for one channel.
use Rattle.board.proofs.sweeps.Rules.{departure_stored}
use Rattle.board.proofs.sweeps.depart_at.Goals as goal

pub returns : goal.returns
returns c =
    let h = c.before.before in
    let i = h.before in
    let k = i.before in
    let a = k.args in
    λ heldprocessors heldnumbers notes.
    departure_stored a.hintprocessors.now a.hintmoves.now heldprocessors heldnumbers notes a.board.now a.d a.c k.channel_index-k.ensures.0 i.entry_beside-i.ensures.0 _ h.hint_entry-h.ensures c.put_travelling_entry.ensures
