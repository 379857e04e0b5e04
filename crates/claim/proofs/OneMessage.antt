-- At most one call or word letter of each channel is under way, after any list of steps.
use mathlib.Core.Path.{◌≡◌, refl, ◌∙◌}
use mathlib.Core.Bool.{Bool, true, false}
use mathlib.Core.List.{List, [], ◌∷◌}
use Prim.Native.Nat.{ℕ, ◌+◌, ◌≤◌}
use native.Mathlib.Omega.{arith}
use Rattle.std.specs.Prelude.{Ok}
use Rattle.base.specs.Choice.{pick}
use Rattle.base.specs.Lists.{count}
use Rattle.plan.specs.declared.Plan.{Plan}
use Rattle.plan.specs.declared.ChannelId.{ChannelId}
use Rattle.plan.specs.Numbers.{same_channel}
use Rattle.plan.specs.Programs.{programs}
use Rattle.plan.specs.Refusals.{plan_answer}
use Rattle.rules.specs.declared.message.Message.{Message}
use Rattle.rules.specs.declared.message.Message.TheVariants.{Empty, Offered, Advert, ReadyToReceive, Data, Terminated, Migration}
use Rattle.rules.specs.declared.step.Step.{Step}
use Rattle.rules.specs.Networks.{messages}
use Rattle.channel.specs.Bags.{one, total}
use Rattle.channel.specs.Messages.{ChannelMessage, offer, advert, call, word, is_call, is_word, calls, words}
use Rattle.channel.proofs.Bags.{total_append}
use Rattle.channel.proofs.Claims.{few_messages}
use Rattle.transitions.specs.Readings.{reading}
use Rattle.transitions.specs.Messages.{flat, message_on, messages_on}
use Rattle.transitions.specs.Views.{view_of}
use Rattle.claim.specs.Statement.{from}
use Rattle.claim.specs.Corollaries.{is_call_or_word}
use Rattle.claim.proofs.Whole.{list_kept}

-- letters that are a call or a word
abbrev calls_and_words : List ChannelMessage → ℕ
calls_and_words ls = calls ls + words ls

-- a letter of the channel, or none
module _ (b : Bool) (l : ChannelMessage) where
  picked : (n : ℕ) → is_call l + is_word l ≡ n → calls_and_words (pick b (one l) []) ≡ pick b n 0
  unfolding total
  picked n e = go b
    where
      go : (b : Bool) → calls_and_words (pick b (one l) []) ≡ pick b n 0
      go true = omega (arith, e)
      go false = omega arith

nothing : (b : Bool) → pick {A = ℕ} b 0 0 ≡ 0
nothing true = refl
nothing false = refl

-- one letter, as the channel sees it
each : (c : ChannelId) (a : Message) → calls_and_words (message_on c a) ≡ pick (is_call_or_word c a) 1 0
unfolding message_on is_call_or_word total is_call is_word
each c Empty = refl
each c (Offered e o h) = picked (same_channel e c) (offer h.processor.0 o.processor.0 o.number h.moves) 0 refl ∙ nothing (same_channel e c)
each c (Advert e d x) = picked (same_channel e c) (advert d.0 x.0) 0 refl ∙ nothing (same_channel e c)
each c (ReadyToReceive e d h) = picked (same_channel e c) (call d.0 h.processor.0 h.moves) 1 refl
each c (Data e d w) = picked (same_channel e c) (word d.0 w) 1 refl
each c (Terminated d t) = refl
each c (Migration d t) = refl

counted : (c : ChannelId) (ms : List Message) → calls_and_words (messages_on c ms) ≡ count (is_call_or_word c) ms
unfolding flat count total
counted c [] = refl
counted c (a ∷ ms) =
    omega
    (arith, total_append is_call (message_on c a) (messages_on c ms), total_append is_word (message_on c a) (messages_on c ms), each c a, counted c ms)

pub one_call_or_word : (n : ℕ) (p : Plan) (ss : List Step) → 1 ≤ n → n ≤ 6 → plan_answer (programs p) ≡ Ok tt → (c : ChannelId) → 1 ≤ c.0
    → c.0 ≤ 128 → count (is_call_or_word c) (messages (from n p ss).system.network) ≤ 1
unfolding view_of reading
one_call_or_word n p ss some few a c low high =
    let k = list_kept n p some few a ss in
    let view = view_of (programs p) k.histories (reading (from n p ss).system) c in
    omega (arith, counted c (messages (from n p ss).system.network), few_messages view (k.running.views c low high))
