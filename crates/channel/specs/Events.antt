-- The events by which a step of the rig changes the view of one channel.
use Rattle.std.specs.Prelude.{[], ℕ}
use Rattle.plan.specs.declared.Word.{Word}
use Rattle.plan.specs.Numbers.{processor_id}
use Rattle.channel.specs.Hints.{hint_to}
use Rattle.channel.specs.Views.{offer_of, View}
use Rattle.channel.specs.Places.{SenderBorn, sender_born, SenderDeparts, sender_departs, SenderArrives, sender_arrives, ReceiverBorn, receiver_born, ReceiverDeparts, receiver_departs, ReceiverArrives, receiver_arrives}
use Rattle.channel.specs.Transfers.{SendPasses, send_passes, SendCarried, send_carried, SendAdvertised, send_advertised, SendHeld, send_held, SendPosted, send_posted, ReceivePasses, receive_passes, ReceiveWaits, receive_waits, CarriedAnswered, carried_answered, NotedAnswered, noted_answered}
use Rattle.channel.specs.Deliveries.{taken, Dropped, OfferAnswered, offer_answered, Carried, carried, Forwarded, forwarded, Held, held, AdvertAnswered, AdvertNoted, advert_noted, Called, called, WordTaken, word_taken}

-- an end is born, arrives or departs; with the desk
pub data Place : Type 0 where
  sender_born_lem sender_arrives_lem receiver_born_lem receiver_arrives_lem : ℕ → Place
  sender_departs_lem : Place
  receiver_departs_lem : ℕ → Place

-- a send or a receive
pub data Transfer : Type 0 where
  send_passes_lem send_carried_lem send_advertised_lem send_held_lem send_posted_lem : Transfer
  receive_passes_lem receive_waits_lem carried_answered_lem noted_answered_lem : Transfer

-- the delivery of a letter: what is read from it
pub data Delivery : Type 0 where
  offer_dropped offer_answered_lem offer_carried offer_forwarded offer_held : (x d w k : ℕ) → Delivery
  advert_answered advert_noted_lem : (x d : ℕ) → Delivery
  call_taken : (x d k : ℕ) (value : Word) → Delivery
  word_taken_lem : (x : ℕ) (value : Word) → Delivery

unfoldable pub place_guard : Place → View → Type 0
place_guard (sender_born_lem d) v = SenderBorn d v
place_guard (sender_arrives_lem d) v = SenderArrives d v
place_guard (receiver_born_lem d) v = ReceiverBorn d v
place_guard (receiver_arrives_lem d) v = ReceiverArrives d v
place_guard sender_departs_lem v = SenderDeparts v
place_guard (receiver_departs_lem e) v = ReceiverDeparts e v

unfoldable pub placed : Place → View → View
placed (sender_born_lem d) v = sender_born d v
placed (sender_arrives_lem d) v = sender_arrives d v
placed (receiver_born_lem d) v = receiver_born d v
placed (receiver_arrives_lem d) v = receiver_arrives d v
placed sender_departs_lem v = sender_departs v
placed (receiver_departs_lem e) v = receiver_departs e v

unfoldable pub transfer_guard : Transfer → View → Type 0
transfer_guard send_passes_lem v = SendPasses v
transfer_guard send_carried_lem v = SendCarried v
transfer_guard send_advertised_lem v = SendAdvertised v
transfer_guard send_held_lem v = SendHeld v
transfer_guard send_posted_lem v = SendPosted v
transfer_guard receive_passes_lem v = ReceivePasses v
transfer_guard receive_waits_lem v = ReceiveWaits v
transfer_guard carried_answered_lem v = CarriedAnswered v
transfer_guard noted_answered_lem v = NotedAnswered v

unfoldable pub transferred : Transfer → View → View
transferred send_passes_lem v = send_passes v
transferred send_carried_lem v = send_carried v
transferred send_advertised_lem v = send_advertised v
transferred send_held_lem v = send_held v
transferred send_posted_lem v = send_posted v
transferred receive_passes_lem v = receive_passes v
transferred receive_waits_lem v = receive_waits v
transferred carried_answered_lem v = carried_answered v
transferred noted_answered_lem v = noted_answered v

unfoldable pub delivery_guard : ℕ → Delivery → View → Type 0
delivery_guard p (offer_dropped x d w k) v = Dropped p x d w k v
delivery_guard p (offer_answered_lem x d w k) v = OfferAnswered p x d w k v
delivery_guard p (offer_carried x d w k) v = Carried p x d w k v
delivery_guard p (offer_forwarded x d w k) v = Forwarded p x d w k v
delivery_guard p (offer_held x d w k) v = Held p x d w k v
delivery_guard p (advert_answered x d) v = AdvertAnswered p x d v
delivery_guard p (advert_noted_lem x d) v = AdvertNoted p x d v
delivery_guard p (call_taken x d k value) v = Called p x d k v
delivery_guard p (word_taken_lem x value) v = WordTaken p x value v

unfoldable pub delivered : ℕ → Delivery → View → View
delivered p (offer_dropped x d w k) v = taken p v
delivered p (offer_answered_lem x d w k) v = offer_answered p d v
delivered p (offer_carried x d w k) v = carried p d w v
delivered p (offer_forwarded x d w k) v = forwarded p x d w v
delivered p (offer_held x d w k) v = held p x d w v
delivered p (advert_answered x d) v = offer_answered p d v
delivered p (advert_noted_lem x d) v = advert_noted p x d v
delivered p (call_taken x d k value) v = called p x d k value v
delivered p (word_taken_lem x value) v = word_taken p v

pub data Event : Type 0 where
  place : Place → Event
  transfer : Transfer → Event
  delivery : (p : ℕ) → Delivery → Event

unfoldable pub guard : Event → View → Type 0
guard (place e) v = place_guard e v
guard (transfer e) v = transfer_guard e v
guard (delivery p a) v = delivery_guard p a v

unfoldable pub after : Event → View → View
after (place e) v = placed e v
after (transfer e) v = transferred e v
after (delivery p a) v = delivered p a v

-- the view becomes another by one event, or stays
pub data Change (v : View) : View → Type 0 where
  none : Change v v
  event : (e : Event) → guard e v → Change v (after e v)

-- the view of a channel of n desks before anybody is born
unfoldable pub blank : ℕ → View
blank n =
    record {
      processors = n;
      sender = record { at = 0; sending = 0; sent = 0 };
      receiver = record { at = 0; receiving = 0; received = 0; moves = 0; history = λ k. 0 };
      tables = record { hints = λ x. hint_to 0 0; held = λ x. offer_of 0 0; noted = λ x. processor_id 0 };
      state = record { granted = 0; awaiting = 0; carried = offer_of 0 0; travelling = hint_to 0 0 };
      messages = [];
    }
