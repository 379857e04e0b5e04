-- Events of a channel: an end is born, departs or arrives. Each has a guard, when it can happen, and an effect.
use Rattle.std.specs.Prelude.{◌≡◌, ℕ, suc, ◌≤◌, ltb}
use Rattle.base.specs.Choice.{pick}
use Rattle.rules.specs.declared.channel.Offer.{Offer}
use Rattle.rules.specs.Hints.{newer}
use Rattle.rules.specs.Cells.{larger}
use Rattle.channel.specs.Updates.{at_number}
use Rattle.channel.specs.Hints.{hint_to}
use Rattle.channel.specs.Views.{offer_of, View, sender_at, receiver_at, sent_with, hints_are, held_are, carried_is, travelling_is}

-- the sender is born at desk d
pub record SenderBorn (d : ℕ) (v : View) : Type 0 where
  pub nowhere : v.sender.at ≡ 0
  pub first : v.sender.sent ≡ 0
  pub processor : 1 ≤ d
  pub last : d ≤ v.processors

abbrev pub sender_born : ℕ → View → View
sender_born d v = sender_at d v

-- it departs
pub record SenderDeparts (v : View) : Type 0 where
  pub stands : 1 ≤ v.sender.at
  pub idle : v.sender.sending ≡ 0

abbrev pub sender_departs : View → View
sender_departs v = travelling_is (v.tables.hints v.sender.at) (sender_at 0 v)

-- it arrives at desk d
pub record SenderArrives (d : ℕ) (v : View) : Type 0 where
  pub moving : v.sender.at ≡ 0
  pub processor : 1 ≤ d
  pub last : d ≤ v.processors

abbrev pub sender_arrives : ℕ → View → View
sender_arrives d v = hints_are (at_number v.tables.hints d (newer (v.tables.hints d) v.state.travelling)) (travelling_is (hint_to 0 0) (sender_at d v))

-- the receiver is born at desk d
pub record ReceiverBorn (d : ℕ) (v : View) : Type 0 where
  pub nowhere : v.receiver.at ≡ 0
  pub first : v.receiver.moves ≡ 0
  pub processor : 1 ≤ d
  pub last : d ≤ v.processors

abbrev pub receiver_born : ℕ → View → View
receiver_born d v = hints_are (at_number v.tables.hints d (hint_to d 1)) (sent_with 1 (at_number v.receiver.history 1 d) (receiver_at d v))

-- it departs to desk e
pub record ReceiverDeparts (e : ℕ) (v : View) : Type 0 where
  pub stands : 1 ≤ v.receiver.at
  pub idle : v.receiver.receiving ≡ 0
  pub processor : 1 ≤ e
  pub last : e ≤ v.processors

abbrev pub receiver_departs : ℕ → View → View
receiver_departs e v =
    hints_are (at_number v.tables.hints v.receiver.at (hint_to e (suc v.receiver.moves)))
    (sent_with (suc v.receiver.moves) (at_number v.receiver.history (suc v.receiver.moves) e) (receiver_at 0 v))

-- it arrives at desk d, where it was sent last
pub record ReceiverArrives (d : ℕ) (v : View) : Type 0 where
  pub moving : v.receiver.at ≡ 0
  pub born : 1 ≤ v.receiver.moves
  pub sent : d ≡ v.receiver.history v.receiver.moves

-- what is carried then: a held offer that counts, with n called, beside the carried one
unfoldable pub taking_over : ℕ → Offer → Offer → Offer
taking_over n carried held = pick (ltb n held.number) (larger carried held) carried

abbrev pub receiver_arrives : ℕ → View → View
receiver_arrives d v =
    hints_are (at_number v.tables.hints d (hint_to d v.receiver.moves))
    (held_are (at_number v.tables.held d (offer_of 0 0))
    (carried_is (taking_over v.state.granted v.state.carried (v.tables.held d)) (receiver_at d v)))
