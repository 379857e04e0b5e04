-- Events of a channel: the letter at place p, from 0, is delivered. They are the branches of the rules `offer_rule`, `advert_rule`, `call_rule` and
-- `data_rule`, as the channel sees them.
use Rattle.std.specs.Prelude.{◌≡◌, ◌≢◌, ◌⊎◌, ◌++◌, ℕ, suc, ◌≤◌, ◌<◌}
use Rattle.std.proofs.Math.Option.{some}
use Rattle.std.proofs.Math.ListN.{get_elem?}
use Rattle.plan.specs.declared.Word.{Word}
use Rattle.plan.specs.Numbers.{processor_id}
use Rattle.rules.specs.Hints.{newer}
use Rattle.rules.specs.Cells.{larger, first_noted}
use Rattle.channel.specs.Updates.{at_number}
use Rattle.channel.specs.Bags.{one, without}
use Rattle.channel.specs.Hints.{hint_to}
use Rattle.channel.specs.Messages.{offer, advert, call, word}
use Rattle.channel.specs.Views.{offer_of, View, with_messages, sending_is, sent_is, receiving_is, received_is, hints_are, held_are, noted_are, awaiting_is, carried_is}
use Rattle.channel.specs.Transfers.{answered}

abbrev pub taken : ℕ → View → View
taken p v = with_messages (without v.messages p) v

-- an offer that counts no more, where the receiver is: the offer to desk x, of desk d, number w, count k
pub record Dropped (p x d w k : ℕ) (v : View) : Type 0 where
  pub message : get_elem? v.messages p ≡ some (offer x d w k)
  pub here : v.receiver.at ≡ x
  pub stale : w ≤ v.state.granted

-- one that counts, where the receiver waits for one
pub record OfferAnswered (p x d w k : ℕ) (v : View) : Type 0 where
  pub message : get_elem? v.messages p ≡ some (offer x d w k)
  pub here : v.receiver.at ≡ x
  pub counts : v.state.granted < w  -- the offer counts
  pub receiving : v.receiver.receiving ≡ 1
  pub uncalled : v.state.awaiting ≡ 0

abbrev pub offer_answered : ℕ → ℕ → View → View
offer_answered p d v = answered d (taken p v)

-- where the receiver is otherwise
pub record Carried (p x d w k : ℕ) (v : View) : Type 0 where
  pub message : get_elem? v.messages p ≡ some (offer x d w k)
  pub here : v.receiver.at ≡ x
  pub counts : v.state.granted < w
  pub busy : v.receiver.receiving ≡ 1 → v.state.awaiting ≢ 0

abbrev pub carried : ℕ → ℕ → ℕ → View → View
carried p d w v = carried_is (larger v.state.carried (offer_of d w)) (taken p v)

-- where the receiver is not, and a newer pointer names another desk
pub record Forwarded (p x d w k : ℕ) (v : View) : Type 0 where
  pub message : get_elem? v.messages p ≡ some (offer x d w k)
  pub away : v.receiver.at ≢ x
  pub other : (v.tables.hints x).processor.0 ≢ x
  pub newer : k < (v.tables.hints x).moves

abbrev pub forwarded : ℕ → ℕ → ℕ → ℕ → View → View
forwarded p x d w v =
    with_messages (without v.messages p ++ one (offer (v.tables.hints x).processor.0 d w (v.tables.hints x).moves)) v

-- where it is not, and none does
pub record Held (p x d w k : ℕ) (v : View) : Type 0 where
  pub message : get_elem? v.messages p ≡ some (offer x d w k)
  pub away : v.receiver.at ≢ x
  pub nothing_newer : ((v.tables.hints x).processor.0 ≡ x) ⊎ ((v.tables.hints x).moves ≤ k)

abbrev pub held : ℕ → ℕ → ℕ → ℕ → View → View
held p x d w v = held_are (at_number v.tables.held x (larger (v.tables.held x) (offer_of d w))) (taken p v)

-- an advert, where the receiver waits and nothing was called
pub record AdvertAnswered (p x d : ℕ) (v : View) : Type 0 where
  pub message : get_elem? v.messages p ≡ some (advert x d)
  pub here : v.receiver.at ≡ x
  pub receiving : v.receiver.receiving ≡ 1
  pub first : v.state.granted ≡ 0

-- any other
pub record AdvertNoted (p x d : ℕ) (v : View) : Type 0 where
  pub message : get_elem? v.messages p ≡ some (advert x d)
  pub not_now : v.receiver.at ≡ x → v.receiver.receiving ≡ 1 → v.state.granted ≢ 0

abbrev pub advert_noted : ℕ → ℕ → ℕ → View → View
advert_noted p x d v = noted_are (at_number v.tables.noted x (first_noted (v.tables.noted x) (processor_id d))) (taken p v)

-- a call, and the sender's word leaves
pub record Called (p x d k : ℕ) (v : View) : Type 0 where
  pub message : get_elem? v.messages p ≡ some (call x d k)
  pub sending : v.sender.sending ≡ 1
  pub here : v.sender.at ≡ x

abbrev pub called : ℕ → ℕ → ℕ → ℕ → Word → View → View
called p x d k value v =
    sent_is (suc v.sender.sent)
    (sending_is 0
    (hints_are (at_number v.tables.hints x (newer (v.tables.hints x) (hint_to d k)))
    (with_messages (without v.messages p ++ one (word d value)) v)))

-- a word
pub record WordTaken (p x : ℕ) (value : Word) (v : View) : Type 0 where
  pub message : get_elem? v.messages p ≡ some (word x value)
  pub here : v.receiver.at ≡ x
  pub receiving : v.receiver.receiving ≡ 1
  pub called : v.state.awaiting ≡ 1

abbrev pub word_taken : ℕ → View → View
word_taken p v = received_is (suc v.receiver.received) (receiving_is 0 (awaiting_is 0 (taken p v)))
