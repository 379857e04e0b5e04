-- Events of a channel: a send or a receive on it. They are the branches of the rules `send_rule` and `receive_rule`, as the channel sees them.
use Rattle.std.specs.Prelude.{◌≡◌, ◌≢◌, ◌++◌, ℕ, suc, ◌≤◌, ◌<◌}
use Rattle.plan.specs.Numbers.{processor_id}
use Rattle.rules.specs.Cells.{larger}
use Rattle.channel.specs.Updates.{at_number}
use Rattle.channel.specs.Bags.{one}
use Rattle.channel.specs.Messages.{offer, call, adverts}
use Rattle.channel.specs.Views.{offer_of, View, with_messages, sending_is, sent_is, receiving_is, received_is, held_are, noted_are, granted_is, awaiting_is, carried_is}

-- the sender is about to send; its next send is number sent + 1
pub record Sends (v : View) : Type 0 where
  pub stands : 1 ≤ v.sender.at
  pub idle : v.sender.sending ≡ 0

-- the receiver waits at the same desk
pub record SendPasses (v : View) : Type 0 where
  pub send : Sends v
  pub here : v.receiver.at ≡ v.sender.at
  pub receiving : v.receiver.receiving ≡ 1
  pub uncalled : v.state.awaiting ≡ 0

abbrev pub send_passes : View → View
send_passes v = sent_is (suc v.sender.sent) (awaiting_is 0 (granted_is (suc v.sender.sent) (received_is (suc v.receiver.received) (receiving_is 0 v))))

-- it is at the same desk, and does not wait
pub record SendCarried (v : View) : Type 0 where
  pub send : Sends v
  pub here : v.receiver.at ≡ v.sender.at
  pub busy : v.receiver.receiving ≡ 1 → v.state.awaiting ≢ 0

abbrev pub send_carried : View → View
send_carried v = sending_is 1 (carried_is (larger v.state.carried (offer_of v.sender.at (suc v.sender.sent))) v)

-- it is elsewhere, nobody knows where
pub record SendAdvertised (v : View) : Type 0 where
  pub send : Sends v
  pub away : v.receiver.at ≢ v.sender.at
  pub unknown : (v.tables.hints v.sender.at).processor.0 ≡ 0

abbrev pub send_advertised : View → View
send_advertised v = sending_is 1 (with_messages (v.messages ++ adverts v.sender.at v.processors) v)

-- it is elsewhere, and is to come here
pub record SendHeld (v : View) : Type 0 where
  pub send : Sends v
  pub away : v.receiver.at ≢ v.sender.at
  pub named : (v.tables.hints v.sender.at).processor.0 ≡ v.sender.at

abbrev pub send_held : View → View
send_held v =
    sending_is 1
    (held_are (at_number v.tables.held v.sender.at (larger (v.tables.held v.sender.at) (offer_of v.sender.at (suc v.sender.sent)))) v)

-- it is elsewhere, and was sent to another desk
pub record SendPosted (v : View) : Type 0 where
  pub send : Sends v
  pub away : v.receiver.at ≢ v.sender.at
  pub known : (v.tables.hints v.sender.at).processor.0 ≢ 0
  pub other : (v.tables.hints v.sender.at).processor.0 ≢ v.sender.at

abbrev pub send_posted : View → View
send_posted v =
    let h = v.tables.hints v.sender.at in
    sending_is 1 (with_messages (v.messages ++ one (offer h.processor.0 v.sender.at (suc v.sender.sent) h.moves)) v)

-- the sender waits at the same desk
pub record ReceivePasses (v : View) : Type 0 where
  pub stands : 1 ≤ v.receiver.at
  pub idle : v.receiver.receiving ≡ 0
  pub sending : v.sender.sending ≡ 1
  pub here : v.sender.at ≡ v.receiver.at

abbrev pub receive_passes : View → View
receive_passes v =
    sent_is (suc v.sender.sent)
    (carried_is (offer_of 0 0) (awaiting_is 0 (granted_is (suc v.sender.sent) (received_is (suc v.receiver.received) (sending_is 0 v)))))

-- it does not: the receive waits
pub record Receives (v : View) : Type 0 where
  pub stands : 1 ≤ v.receiver.at
  pub idle : v.receiver.receiving ≡ 0
  pub apart : v.sender.sending ≡ 1 → v.sender.at ≢ v.receiver.at

pub record ReceiveWaits (v : View) : Type 0 where
  pub receive : Receives v
  pub stale : v.state.carried.number ≤ v.state.granted
  pub unnoted : v.state.granted ≡ 0 → (v.tables.noted v.receiver.at).0 ≡ 0

abbrev pub receive_waits : View → View
receive_waits v = receiving_is 1 v

-- an offer or an advert of desk d is answered by a call
abbrev pub answered : ℕ → View → View
answered d v = awaiting_is 1 (granted_is (suc v.state.granted) (with_messages (v.messages ++ one (call d v.receiver.at v.receiver.moves)) v))

-- a carried offer that counts is answered
pub record CarriedAnswered (v : View) : Type 0 where
  pub receive : Receives v
  pub counts : v.state.granted < v.state.carried.number

abbrev pub carried_answered : View → View
carried_answered v = answered v.state.carried.processor.0 (receiving_is 1 (carried_is (offer_of 0 0) v))

-- else a noted advert, if nothing was called
pub record NotedAnswered (v : View) : Type 0 where
  pub receive : Receives v
  pub stale : v.state.carried.number ≤ v.state.granted
  pub first : v.state.granted ≡ 0
  pub noted : 1 ≤ (v.tables.noted v.receiver.at).0

abbrev pub noted_answered : View → View
noted_answered v =
    answered (v.tables.noted v.receiver.at).0 (receiving_is 1 (noted_are (at_number v.tables.noted v.receiver.at (processor_id 0)) v))
