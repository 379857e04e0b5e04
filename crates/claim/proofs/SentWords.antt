-- The words of lists of steps and of letters: what is appended, what is posted, and the same words as the channels' views have them.
use mathlib.Core.Path.{◌≡◌, refl, sym, ap, ap₂, ◌∙◌}
use mathlib.Core.Bool.{Bool, true, false}
use mathlib.Core.List.{List, [], ◌∷◌, ◌++◌, map, map-append, append_assoc, append-nil}
use Prim.Native.Nat.{ℕ, zero, suc}
use lib.Dec.{eqb}
use Rattle.base.specs.Choice.{pick}
use Rattle.base.specs.Range.{fold, joined}
use Rattle.base.proofs.Choices.{pick_either}
use Rattle.plan.specs.declared.ChannelId.{ChannelId}
use Rattle.plan.specs.declared.ProcessorId.{ProcessorId}
use Rattle.plan.specs.declared.Word.{Word as WordOf}
use Rattle.plan.specs.Numbers.{processor_id, same_channel}
use Rattle.rules.specs.declared.message.Message.{Message}
use Rattle.rules.specs.declared.message.Message.TheVariants.{Empty, Offered, Advert, ReadyToReceive, Data, Terminated, Migration}
use Rattle.rules.specs.declared.rule.Posting.{Posting}
use Rattle.rules.specs.declared.rule.Posting.TheVariants.{Nothing, Single, Adverts}
use Rattle.rules.specs.Reports.{Received}
use Rattle.rules.specs.declared.step.Report.{Report}
use Rattle.rules.specs.Networks.{messages_of}
use Rattle.rules.specs.Steps.{word_on, received_on}
use Rattle.rules.specs.Logs.{letter_word, posted_word, words_on, under_way_on}
use Rattle.channel.specs.Bags.{one}
use Rattle.channel.specs.Messages.{ChannelMessage, offer, advert, call, word}
use Rattle.transitions.specs.Messages.{flat, message_on, messages_on, word_in, words_in}
use Rattle.transitions.proofs.Flats.{flat_append}

module _ (c : ChannelId) where
  pub words_append : (xs ys : List Received) → words_on c (xs ++ ys) ≡ words_on c xs ++ words_on c ys
  unfolding words_on
  words_append [] ys = refl
  words_append (x ∷ xs) ys = ap (word_on c x ++◌) (words_append xs ys) ∙ sym (append_assoc (word_on c x) (words_on c xs) (words_on c ys))

  pub received_words : (qs : List Report) → received_on c qs ≡ words_on c (map (λ q. q.received) qs)
  unfolding received_on words_on
  received_words [] = refl
  received_words (q ∷ qs) = ap (word_on c q.received ++◌) (received_words qs)

  pub under_way_append : (ms ns : List Message) → under_way_on c (ms ++ ns) ≡ under_way_on c ms ++ under_way_on c ns
  under_way_append ms ns = ap (words_on c) (map-append letter_word ms ns) ∙ words_append (map letter_word ms) (map letter_word ns)

  -- what is posted: adverts have no words
  no_adverts : (n : ℕ) (e : ChannelId) (d : ProcessorId)
      → under_way_on c (joined n (λ k. pick (eqb (suc k) d.0) [] (Advert e (processor_id (suc k)) d ∷ []))) ≡ []
  unfolding fold words_on letter_word word_on
  no_adverts zero e d = refl
  no_adverts (suc n) e d =
      under_way_append (joined n (λ k. pick (eqb (suc k) d.0) [] (Advert e (processor_id (suc k)) d ∷ []))) _
      ∙ ap₂ ◌++◌ (no_adverts n e d) (pick_either (λ ms. under_way_on c ms ≡ []) (eqb (suc n) d.0) [] (Advert e (processor_id (suc n)) d ∷ []) refl refl)

  pub posted_words : (n : ℕ) (p : Posting) → under_way_on c (messages_of n p) ≡ word_on c (posted_word p)
  unfolding messages_of posted_word words_on word_on
  posted_words n Nothing = refl
  posted_words n (Single m) = append-nil (word_on c (letter_word m))
  posted_words n (Adverts e d) = no_adverts n e d

  -- the words of the channel's view
  no_word : (b : Bool) (l : ChannelMessage) → word_in l ≡ [] → [] ≡ words_in (pick b (one l) [])
  unfolding flat
  no_word true l e = rw e refl
  no_word false l e = refl

  its_word : (b : Bool) (d : ℕ) (w : WordOf) → pick b (w ∷ []) [] ≡ words_in (pick b (one (word d w)) [])
  unfolding flat word_in
  its_word true d w = refl
  its_word false d w = refl

  letter_word_lem : (m : Message) → word_on c (letter_word m) ≡ words_in (message_on c m)
  unfolding word_on letter_word message_on word_in flat
  letter_word_lem Empty = refl
  letter_word_lem (Offered e o h) = no_word (same_channel e c) (offer h.processor.0 o.processor.0 o.number h.moves) refl
  letter_word_lem (Advert e d from) = no_word (same_channel e c) (advert d.0 from.0) refl
  letter_word_lem (ReadyToReceive e d h) = no_word (same_channel e c) (call d.0 h.processor.0 h.moves) refl
  letter_word_lem (Data e d w) = its_word (same_channel e c) d.0 w
  letter_word_lem (Terminated h t) = refl
  letter_word_lem (Migration d t) = refl

  pub under_way_words : (ms : List Message) → under_way_on c ms ≡ words_in (messages_on c ms)
  unfolding words_on flat
  under_way_words [] = refl
  under_way_words (m ∷ ms) = ap₂ ◌++◌ (letter_word_lem m) (under_way_words ms) ∙ sym (flat_append word_in (message_on c m) (messages_on c ms))
