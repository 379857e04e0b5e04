-- The view of one channel: all that the rules of one channel read and write. Desks are numbers, 0 is none; flags are 0 or 1.
use Rattle.std.specs.Prelude.{List, ℕ}
use Rattle.plan.specs.declared.ProcessorId.{ProcessorId}
use Rattle.plan.specs.Numbers.{processor_id}
use Rattle.rules.specs.declared.channel.Hint.{Hint}
use Rattle.rules.specs.declared.channel.Offer.{Offer}
use Rattle.rules.specs.Cells.{offer}
use Rattle.channel.specs.Messages.{ChannelMessage}

abbrev pub offer_of : ℕ → ℕ → Offer
offer_of d w = offer (processor_id d) w

-- the sender: its desk (0: unborn or moving), whether it is sending on this channel, and how many sends on it are completed
pub record Sender : Type 0 where
  pub at : ℕ
  pub sending : ℕ
  pub sent : ℕ

-- the receiver: the same, its move count (0: unborn) and where it was sent with each count
pub record Receiver : Type 0 where
  pub at : ℕ
  pub receiving : ℕ
  pub received : ℕ
  pub moves : ℕ
  pub history : ℕ → ℕ

-- the desks' pointers, held offers and noted adverts
pub record Tables : Type 0 where
  pub hints : ℕ → Hint
  pub held : ℕ → Offer
  pub noted : ℕ → ProcessorId

-- the number called, the mark (1 once a call letter left since the receiver began to receive), the carried offer, the travelling pointer
pub record State : Type 0 where
  pub granted : ℕ
  pub awaiting : ℕ
  pub carried : Offer
  pub travelling : Hint

pub record View : Type 0 where
  pub processors : ℕ
  pub sender : Sender
  pub receiver : Receiver
  pub tables : Tables
  pub state : State
  pub messages : List ChannelMessage

-- a view with one part changed
abbrev pub with_sender : Sender → View → View
with_sender x v = record { processors = v.processors; sender = x; receiver = v.receiver; tables = v.tables; state = v.state; messages = v.messages }

abbrev pub with_receiver : Receiver → View → View
with_receiver x v = record { processors = v.processors; sender = v.sender; receiver = x; tables = v.tables; state = v.state; messages = v.messages }

abbrev pub with_tables : Tables → View → View
with_tables x v = record { processors = v.processors; sender = v.sender; receiver = v.receiver; tables = x; state = v.state; messages = v.messages }

abbrev pub with_state : State → View → View
with_state x v = record { processors = v.processors; sender = v.sender; receiver = v.receiver; tables = v.tables; state = x; messages = v.messages }

abbrev pub with_messages : List ChannelMessage → View → View
with_messages x v = record { processors = v.processors; sender = v.sender; receiver = v.receiver; tables = v.tables; state = v.state; messages = x }

-- the sender at desk d; the sender sending, or not; with n sends completed
abbrev pub sender_at : ℕ → View → View
sender_at d v = with_sender (record { at = d; sending = v.sender.sending; sent = v.sender.sent }) v

abbrev pub sending_is : ℕ → View → View
sending_is x v = with_sender (record { at = v.sender.at; sending = x; sent = v.sender.sent }) v

abbrev pub sent_is : ℕ → View → View
sent_is n v = with_sender (record { at = v.sender.at; sending = v.sender.sending; sent = n }) v

-- the same of the receiver
abbrev pub receiver_at : ℕ → View → View
receiver_at d v =
    with_receiver
    (record { at = d; receiving = v.receiver.receiving; received = v.receiver.received; moves = v.receiver.moves; history = v.receiver.history }) v

abbrev pub receiving_is : ℕ → View → View
receiving_is x v =
    with_receiver
    (record { at = v.receiver.at; receiving = x; received = v.receiver.received; moves = v.receiver.moves; history = v.receiver.history }) v

abbrev pub received_is : ℕ → View → View
received_is n v =
    with_receiver
    (record { at = v.receiver.at; receiving = v.receiver.receiving; received = n; moves = v.receiver.moves; history = v.receiver.history }) v

-- it is sent somewhere with a new count: its count and its history
abbrev pub sent_with : ℕ → (ℕ → ℕ) → View → View
sent_with k h v =
    with_receiver
    (record { at = v.receiver.at; receiving = v.receiver.receiving; received = v.receiver.received; moves = k; history = h }) v

abbrev pub hints_are : (ℕ → Hint) → View → View
hints_are x v = with_tables (record { hints = x; held = v.tables.held; noted = v.tables.noted }) v

abbrev pub held_are : (ℕ → Offer) → View → View
held_are x v = with_tables (record { hints = v.tables.hints; held = x; noted = v.tables.noted }) v

abbrev pub noted_are : (ℕ → ProcessorId) → View → View
noted_are x v = with_tables (record { hints = v.tables.hints; held = v.tables.held; noted = x }) v

abbrev pub granted_is : ℕ → View → View
granted_is n v = with_state (record { granted = n; awaiting = v.state.awaiting; carried = v.state.carried; travelling = v.state.travelling }) v

abbrev pub awaiting_is : ℕ → View → View
awaiting_is x v = with_state (record { granted = v.state.granted; awaiting = x; carried = v.state.carried; travelling = v.state.travelling }) v

abbrev pub carried_is : Offer → View → View
carried_is o v = with_state (record { granted = v.state.granted; awaiting = v.state.awaiting; carried = o; travelling = v.state.travelling }) v

abbrev pub travelling_is : Hint → View → View
travelling_is h v = with_state (record { granted = v.state.granted; awaiting = v.state.awaiting; carried = v.state.carried; travelling = h }) v
