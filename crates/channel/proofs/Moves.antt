-- No event lowers the receiver's move count.
use Prim.Native.Nat.{◌≤◌}
use native.Mathlib.Omega.{arith}
use Rattle.channel.specs.Views.{View}
use Rattle.channel.specs.Events.{sender_born_lem, sender_arrives_lem, receiver_born_lem, receiver_arrives_lem, sender_departs_lem, receiver_departs_lem, send_passes_lem, send_carried_lem, send_advertised_lem, send_held_lem, send_posted_lem, receive_passes_lem, receive_waits_lem, carried_answered_lem, noted_answered_lem, offer_dropped, offer_answered_lem, offer_carried, offer_forwarded, offer_held, advert_answered, advert_noted_lem, call_taken, word_taken_lem, Event, place, transfer, delivery, place_guard, placed, transfer_guard, transferred, delivery_guard, delivered, guard, after, Change, none, event}

event_moves : (e : Event) (v : View) → guard e v → v.receiver.moves ≤ (after e v).receiver.moves
unfolding guard after place_guard placed transfer_guard transferred delivery_guard delivered
event_moves (place (sender_born_lem d)) v g = omega arith
event_moves (place (sender_arrives_lem d)) v g = omega arith
event_moves (place (receiver_born_lem d)) v g = omega arith
event_moves (place (receiver_arrives_lem d)) v g = omega arith
event_moves (place sender_departs_lem) v g = omega arith
event_moves (place (receiver_departs_lem e)) v g = omega arith
event_moves (transfer send_passes_lem) v g = omega arith
event_moves (transfer send_carried_lem) v g = omega arith
event_moves (transfer send_advertised_lem) v g = omega arith
event_moves (transfer send_held_lem) v g = omega arith
event_moves (transfer send_posted_lem) v g = omega arith
event_moves (transfer receive_passes_lem) v g = omega arith
event_moves (transfer receive_waits_lem) v g = omega arith
event_moves (transfer carried_answered_lem) v g = omega arith
event_moves (transfer noted_answered_lem) v g = omega arith
event_moves (delivery q (offer_dropped x d w k)) v g = omega arith
event_moves (delivery q (offer_answered_lem x d w k)) v g = omega arith
event_moves (delivery q (offer_carried x d w k)) v g = omega arith
event_moves (delivery q (offer_forwarded x d w k)) v g = omega arith
event_moves (delivery q (offer_held x d w k)) v g = omega arith
event_moves (delivery q (advert_answered x d)) v g = omega arith
event_moves (delivery q (advert_noted_lem x d)) v g = omega arith
event_moves (delivery q (call_taken x d k value)) v g = omega arith
event_moves (delivery q (word_taken_lem x value)) v g = omega arith

pub change_moves : {v w : View} → Change v w → v.receiver.moves ≤ w.receiver.moves
change_moves none = omega arith
change_moves {v} (event e g) = event_moves e v g
