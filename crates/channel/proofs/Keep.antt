-- Every event keeps the invariant, and it holds before anybody is born.
use mathlib.Core.List.Memᴰ
use mathlib.Core.List.{List, [], ◌∷◌}
use Prim.Native.Nat.{ℕ}
use native.Mathlib.Omega.{arith}
use Rattle.channel.specs.Bags.{total}
use Rattle.channel.specs.Views.{View}
use Rattle.channel.specs.Events.{Place, sender_born_lem, sender_arrives_lem, receiver_born_lem, receiver_arrives_lem, sender_departs_lem, receiver_departs_lem, Transfer, send_passes_lem, send_carried_lem, send_advertised_lem, send_held_lem, send_posted_lem, receive_passes_lem, receive_waits_lem, carried_answered_lem, noted_answered_lem, Delivery, offer_dropped, offer_answered_lem, offer_carried, offer_forwarded, offer_held, advert_answered, advert_noted_lem, call_taken, word_taken_lem, place_guard, placed, transfer_guard, transferred, delivery_guard, delivered, Event, place, transfer, delivery, guard, after, Change, none, event, blank}
use Rattle.channel.specs.Invariant.{Invariant}
use Rattle.channel.proofs.PlacesKeep as places
use Rattle.channel.proofs.TransfersKeep as transfers
use Rattle.channel.proofs.DeliveriesKeep as deliveries

module _ (v : View) (i : Invariant v) where
  placed_keeps : (e : Place) → place_guard e v → Invariant (placed e v)
  unfolding place_guard placed
  placed_keeps (sender_born_lem d) g = places.sender_born_keeps v i d g
  placed_keeps (sender_arrives_lem d) g = places.sender_arrives_keeps v i d g
  placed_keeps (receiver_born_lem d) g = places.receiver_born_keeps v i d g
  placed_keeps (receiver_arrives_lem d) g = places.receiver_arrives_keeps v i d g
  placed_keeps sender_departs_lem g = places.sender_departs_keeps v i g
  placed_keeps (receiver_departs_lem e) g = places.receiver_departs_keeps v i e g

  transferred_keeps : (e : Transfer) → transfer_guard e v → Invariant (transferred e v)
  unfolding transfer_guard transferred
  transferred_keeps send_passes_lem g = transfers.send_passes_keeps v i g
  transferred_keeps send_carried_lem g = transfers.send_carried_keeps v i g
  transferred_keeps send_advertised_lem g = transfers.send_advertised_keeps v i g
  transferred_keeps send_held_lem g = transfers.send_held_keeps v i g
  transferred_keeps send_posted_lem g = transfers.send_posted_keeps v i g
  transferred_keeps receive_passes_lem g = transfers.receive_passes_keeps v i g
  transferred_keeps receive_waits_lem g = transfers.receive_waits_keeps v i g
  transferred_keeps carried_answered_lem g = transfers.carried_answered_keeps v i g
  transferred_keeps noted_answered_lem g = transfers.noted_answered_keeps v i g

  delivered_keeps : (p : ℕ) (a : Delivery) → delivery_guard p a v → Invariant (delivered p a v)
  unfolding delivery_guard delivered
  delivered_keeps p (offer_dropped x d w k) g = deliveries.dropped_keeps v i p x d w k g
  delivered_keeps p (offer_answered_lem x d w k) g = deliveries.offer_answered_keeps v i p x d w k g
  delivered_keeps p (offer_carried x d w k) g = deliveries.carried_keeps v i p x d w k g
  delivered_keeps p (offer_forwarded x d w k) g = deliveries.forwarded_keeps v i p x d w k g
  delivered_keeps p (offer_held x d w k) g = deliveries.held_keeps v i p x d w k g
  delivered_keeps p (advert_answered x d) g = deliveries.advert_answered_keeps v i p x d g
  delivered_keeps p (advert_noted_lem x d) g = deliveries.advert_noted_keeps v i p x d g
  delivered_keeps p (call_taken x d k value) g = deliveries.called_keeps v i p x d k value g
  delivered_keeps p (word_taken_lem x value) g = deliveries.word_taken_keeps v i p x value g

pub keeps : (e : Event) (v : View) → Invariant v → guard e v → Invariant (after e v)
unfolding guard after
keeps (place e) v i g = placed_keeps v i e g
keeps (transfer e) v i g = transferred_keeps v i e g
keeps (delivery p a) v i g = delivered_keeps v i p a g

pub change_keeps : {v w : View} → Change v w → Invariant v → Invariant w
change_keeps none i = i
change_keeps {v} (event e g) i = keeps e v i g

-- events one after another, each with its guard met; and what they make of a view
unfoldable pub Met : List Event → View → Type 0
Met [] v = Unit {0}
Met (e ∷ es) v = guard e v × Met es (after e v)

unfoldable pub after_all : List Event → View → View
after_all [] v = v
after_all (e ∷ es) v = after_all es (after e v)

pub all_keep : (es : List Event) (v : View) → Met es v → Invariant v → Invariant (after_all es v)
unfolding Met after_all
all_keep [] v m i = i
all_keep (e ∷ es) v (g, m) i = all_keep es (after e v) m (keeps e v i g)

pub starts : (n : ℕ) → Invariant (blank n)
unfolding blank total
starts n = record {
  counts = omega arith;
  sender_stands = omega arith;
  receiver_stands = omega arith;
  table = search arith;
  travelling = search arith;
  way = λ to d w k m. absurd (Memᴰ.not-nil m);
  offer_messages = λ to d w k m. absurd (Memᴰ.not-nil m);
  offer_held = λ x l. absurd (omega arith);
  offer_carried = λ l. absurd (omega arith);
  advert_messages = λ to d m. absurd (Memᴰ.not-nil m);
  advert_noted_lem = λ x l. absurd (omega arith);
  call_messages = λ to d k m. absurd (Memᴰ.not-nil m);
  word_messages = λ to x m. absurd (Memᴰ.not-nil m);
  known = λ a b. absurd (omega arith);
  known_travelling = λ a b. absurd (omega arith);
  offered = λ a b. absurd (omega arith);
  held_for = λ x l. absurd (omega arith);
  idle_carried = λ a b. absurd (omega arith);
  idle_noted = λ a b. absurd (omega arith);
  idle_apart = λ a b. absurd (omega arith);
}
