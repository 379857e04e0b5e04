-- `arrive_receiving_at` is the rule for one channel.
use Rattle.board.proofs.sweeps.Rules.{larger_stored, smaller_stored, dropped_stored}
use Rattle.board.proofs.sweeps.arrival.arrive_receiving_at.Goals as goal
use Rattle.board.proofs.sweeps.arrival.arrive_receiving_at.Goals.{else-y-o-via-else-y-o, else-y-o-via-then-y-o+else-y-o-2}

pub put_channel_entry-requires : goal.put_channel_entry-requires
put_channel_entry-requires c = (c.channel_index-k.ensures.1, c.requires.1)

pub returns-then-y-o-2 : goal.returns-then-y-o-2
returns-then-y-o-2 c =
    let a = c.args in
    λ notes.
    larger_stored a.hintprocessors.now a.hintmoves.now a.heldprocessors.now a.heldnumbers.now notes a.board.now a.h.processor a.c c.channel_index-k.ensures.0 c.entry_beside-i.ensures.0 c.channel_entry-y.ensures a.h.moves c.held_entry-o.ensures c.no_offer-none.ensures c.put_hint_entry.ensures c.put_held_entry.ensures _ c.if-y-o.true c.if-y-o-2.true c.put_channel_entry.ensures

pub returns-else-y-o : goal.returns-else-y-o
returns-else-y-o c =
    let a = c.args in
    elim c.else-y-o.branch [
      | else-y-o-via-else-y-o w ↦
          λ notes. dropped_stored a.hintprocessors.now a.hintmoves.now a.heldprocessors.now a.heldnumbers.now notes a.board.now a.h.processor a.c c.channel_index-k.ensures.0 c.entry_beside-i.ensures.0 c.channel_entry-y.ensures a.h.moves c.held_entry-o.ensures c.no_offer-none.ensures c.put_hint_entry.ensures c.put_held_entry.ensures c.requires.1 w.if-y-o.false
      | else-y-o-via-then-y-o+else-y-o-2 w ↦
          λ notes. smaller_stored a.hintprocessors.now a.hintmoves.now a.heldprocessors.now a.heldnumbers.now notes a.board.now a.h.processor a.c c.channel_index-k.ensures.0 c.entry_beside-i.ensures.0 c.channel_entry-y.ensures a.h.moves c.held_entry-o.ensures c.no_offer-none.ensures c.put_hint_entry.ensures c.put_held_entry.ensures c.requires.1 w.if-y-o.true w.if-y-o-2.false
    ]
