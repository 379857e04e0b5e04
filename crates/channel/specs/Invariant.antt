-- What holds of one channel's view in every rig that a run reaches. Predicates take what they speak of and not the view.
use Rattle.std.specs.Prelude.{◌≡◌, ◌≢◌, ◌⊎◌, List, ℕ, suc, ◌+◌, ◌≤◌, ◌<◌}
use Rattle.plan.specs.declared.ProcessorId.{ProcessorId}
use Rattle.plan.specs.declared.Word.{Word}
use Rattle.rules.specs.declared.channel.Offer.{Offer}
use Rattle.channel.specs.Bags.{In}
use Rattle.channel.specs.Hints.{Right, Way, Table, Coming}
use Rattle.channel.specs.Messages.{ChannelMessage, offer, advert, call, word, calls, words}
use Rattle.channel.specs.Views.{View}

-- the numbers of one channel, with c calls and w words in the mail: what is called is sent or called for, what is sent is received or under
-- way, and a call or a word is under way exactly while the mark is set
pub record Counts (sent sending received receiving granted awaiting c w : ℕ) : Type 0 where
  pub called_for : granted ≡ sent + c
  pub under_way_lem : sent ≡ received + w
  pub marked : c + w ≡ awaiting
  pub receives : awaiting ≤ receiving
  pub receiver_flag : receiving ≤ 1
  pub sender_flag : sending ≤ 1

-- the send under way: its offer is of desk d and has number w
pub record Current (sending sent at d w : ℕ) : Type 0 where
  pub on : sending ≡ 1
  pub number : w ≡ suc sent
  pub from : d ≡ at

-- an offer that counts is of the send under way
abbrev pub Live : (granted sending sent at d w : ℕ) → Type 0
Live granted sending sent at d w = granted < w → Current sending sent at d w

-- an advert to desk `to`, of desk d, is of the send under way
pub record Advertised (sending at d to : ℕ) : Type 0 where
  pub on : sending ≡ 1
  pub from : d ≡ at
  pub other : to ≢ at

-- a call letter to desk `to`, with the pointer (d, k): the sender is sending there, and the receiver is where the pointer says
pub record CallOk (sending sender_at receiver_at moves to d k : ℕ) : Type 0 where
  pub on : sending ≡ 1
  pub to_sender : to ≡ sender_at
  pub from_receiver : d ≡ receiver_at
  pub count : k ≡ moves

-- nothing is lost: the next send is offered by a letter, held, carried, or, being the first, by an advert to or at every other desk
pub data Offered (n sent at : ℕ) (held : ℕ → Offer) (noted : ℕ → ProcessorId) (carried : Offer) (messages : List ChannelMessage) : Type 0 where
  by_message : (to d k : ℕ) → In (offer to d (suc sent) k) messages → Offered n sent at held noted carried messages
  by_held : (x : ℕ) → (held x).number ≡ suc sent → Offered n sent at held noted carried messages
  by_carried : carried.number ≡ suc sent → Offered n sent at held noted carried messages
  by_adverts : sent ≡ 0 → ((x : ℕ) → 1 ≤ x → x ≤ n → x ≢ at → In (advert x at) messages ⊎ (1 ≤ (noted x).0)) → Offered n sent at held noted carried messages

pub record Invariant (v : View) : Type 0 where
  pub counts :
      Counts v.sender.sent v.sender.sending v.receiver.received v.receiver.receiving v.state.granted v.state.awaiting
      (calls v.messages) (words v.messages)
  -- who sends or receives stands at a desk
  pub sender_stands : v.sender.sending ≤ v.sender.at
  pub receiver_stands : v.receiver.receiving ≤ v.receiver.at
  -- every pointer is one that was true
  pub table : Table v.processors v.receiver.history v.receiver.moves v.receiver.at v.tables.hints
  pub travelling : Right v.receiver.history v.receiver.moves v.state.travelling
  pub way : (to d w k : ℕ) → In (offer to d w k) v.messages → Way v.receiver.history v.receiver.moves to k
  -- an offer or an advert that counts is of the send under way
  pub offer_messages : (to d w k : ℕ) → In (offer to d w k) v.messages
      → Live v.state.granted v.sender.sending v.sender.sent v.sender.at d w
  pub offer_held : (x : ℕ)
      → Live v.state.granted v.sender.sending v.sender.sent v.sender.at (v.tables.held x).processor.0 (v.tables.held x).number
  pub offer_carried :
      Live v.state.granted v.sender.sending v.sender.sent v.sender.at v.state.carried.processor.0 v.state.carried.number
  pub advert_messages : (to d : ℕ) → In (advert to d) v.messages
      → v.state.granted ≡ 0 → Advertised v.sender.sending v.sender.at d to
  pub advert_noted_lem : (x : ℕ) → 1 ≤ (v.tables.noted x).0 → v.state.granted ≡ 0 → Advertised v.sender.sending v.sender.at (v.tables.noted x).0 x
  -- calls and words find what they suppose
  pub call_messages : (to d k : ℕ) → In (call to d k) v.messages
      → CallOk v.sender.sending v.sender.at v.receiver.at v.receiver.moves to d k
  pub word_messages : (to : ℕ) (x : Word) → In (word to x) v.messages → to ≡ v.receiver.at
  -- after the first word the sender's desk, or the sender on its way, knows where the receiver was
  pub known : 1 ≤ v.sender.sent → 1 ≤ v.sender.at → 1 ≤ (v.tables.hints v.sender.at).moves
  pub known_travelling : 1 ≤ v.sender.sent → v.sender.at ≡ 0 → 1 ≤ v.state.travelling.moves
  pub offered : v.sender.sending ≡ 1 → v.state.granted ≡ v.sender.sent
      → Offered v.processors v.sender.sent v.sender.at v.tables.held v.tables.noted v.state.carried v.messages
  -- an offer that counts is held only where the receiver is about to arrive
  pub held_for : (x : ℕ) → v.state.granted < (v.tables.held x).number
      → Coming v.receiver.at v.receiver.moves x (v.receiver.history v.receiver.moves)
  -- who receives and has not called had nothing to answer
  pub idle_carried : v.receiver.receiving ≡ 1 → v.state.awaiting ≡ 0 → v.state.carried.number ≤ v.state.granted
  pub idle_noted : v.receiver.receiving ≡ 1 → v.state.awaiting ≡ 0 → v.state.granted ≡ 0 → (v.tables.noted v.receiver.at).0 ≡ 0
  pub idle_apart : v.receiver.receiving ≡ 1 → v.state.awaiting ≡ 0 → v.sender.sending ≡ 1 → v.sender.at ≢ v.receiver.at
