-- "the number of times an offer letter is forwarded must be shown never to exceed the receiver's moves after the pointer that the sender used". Said
-- of the definitions of `rules` and of the statement alone.
use Rattle.std.specs.Prelude.{◌≡◌, Bool, true, false, ◌&&◌, List, [], ◌∷◌, ◌++◌, ℕ, ◌+◌, ◌≤◌, eqb, Ok}
use Rattle.base.specs.Choice.{pick}
use Rattle.base.specs.Lists.{count}
use Rattle.plan.specs.declared.ChannelId.{ChannelId}
use Rattle.plan.specs.declared.Plan.{Plan}
use Rattle.plan.specs.Programs.{programs}
use Rattle.plan.specs.Refusals.{plan_answer}
use Rattle.plan.specs.Users.{receiver_of}
use Rattle.rules.specs.declared.channel.Hint.{Hint}
use Rattle.rules.specs.declared.channel.Offer.{Offer}
use Rattle.rules.specs.declared.message.Message.{Message}
use Rattle.rules.specs.declared.message.Message.TheVariants.{Empty, Offered, Advert, ReadyToReceive, Data, Terminated, Migration}
use Rattle.rules.specs.declared.rule.Posting.{Posting}
use Rattle.rules.specs.declared.rule.Posting.TheVariants.{Nothing, Single, Adverts}
use Rattle.rules.specs.declared.step.Step.{Step}
use Rattle.rules.specs.declared.system.System.{System}
use Rattle.rules.specs.Numbers.{same_channel}
use Rattle.rules.specs.Answers.{is_accepted}
use Rattle.rules.specs.Networks.{messages, message_at}
use Rattle.rules.specs.Systems.{task_at, meaning}
use Rattle.rules.specs.Steps.{is_run, is_deliver, step_answer, performed, step}
use Rattle.claim.specs.Statement.{from}

-- the offer letter of channel c with number w: an offer is known by both, since a send posts at most one and forwarding keeps them
unfoldable pub is_offer : ChannelId → ℕ → Message → Bool
is_offer c w Empty = false
is_offer c w (Offered e o h) = same_channel e c && eqb o.number w
is_offer c w (Advert e d from) = false
is_offer c w (ReadyToReceive e d h) = false
is_offer c w (Data e d v) = false
is_offer c w (Terminated h t) = false
is_offer c w (Migration d t) = false

-- it is posted
unfoldable pub posts_offer : ChannelId → ℕ → Posting → Bool
posts_offer c w Nothing = false
posts_offer c w (Single m) = is_offer c w m
posts_offer c w (Adverts e d) = false

-- the step is an accepted delivery that forwards it: the letter is delivered, and posted again
unfoldable pub forwards : ChannelId → ℕ → System → Step → Bool
forwards c w r s =
    is_deliver s && (is_accepted (step_answer r s) && (is_offer c w (message_at r.network s.number) && posts_offer c w (performed r s).posting))

-- "that offer's count of forwarding deliveries in the run's definition": of the list ss, from rig r on
unfoldable pub forwards_of : ChannelId → ℕ → System → List Step → ℕ
forwards_of c w r [] = 0
forwards_of c w r (s ∷ ss) = pick (forwards c w r s) 1 0 + forwards_of c w (step r s).system ss

-- the accepted run s in rig r sends on channel c and posts an offer along the pointer h
pub record Posts (r : System) (s : Step) (c : ChannelId) (o : Offer) (h : Hint) : Type 0 where
  pub run : is_run s ≡ true
  pub accepted : is_accepted (step_answer r s) ≡ true
  pub posts : (performed r s).posting ≡ Single (Offered c o h)

-- the receiver of channel c in rig r has been sent off so often
abbrev pub receiver_moves : System → ChannelId → ℕ
receiver_moves r c = (task_at r (receiver_of (meaning r) c)).moves

-- `longest_chase_lem`: after any list ss, a send posts an offer along a pointer with count k; after any list us behind it, the offer has been forwarded at
-- most as often as "the receiver's moves after the pointer that the sender used": its move count then less k. A count goes up by one with each move
abbrev pub LongestChase : Type 0
LongestChase =
    (n : ℕ) (p : Plan) (ss us : List Step) (s : Step) (c : ChannelId) (o : Offer) (h : Hint) → 1 ≤ n → n ≤ 6 → plan_answer (programs p) ≡ Ok tt
    → Posts (from n p ss).system s c o h
    → forwards_of c o.number (step (from n p ss).system s).system us + h.moves ≤ receiver_moves (from n p (ss ++ (s ∷ us))).system c

-- `one_offer`: there is never more than one offer letter of a channel and a number in the mail, so that counting by both is counting one letter
abbrev pub OneOffer : Type 0
OneOffer =
    (n : ℕ) (p : Plan) (ss : List Step) (c : ChannelId) (w : ℕ) → 1 ≤ n → n ≤ 6 → plan_answer (programs p) ≡ Ok tt
    → count (is_offer c w) (messages (from n p ss).system.network) ≤ 1
