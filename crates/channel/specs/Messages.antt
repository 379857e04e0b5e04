-- The letters of one channel. Desks are numbers.
use Rattle.std.specs.Prelude.{List, [], ◌∷◌, ℕ, suc, eqb}
use Rattle.base.specs.Choice.{pick}
use Rattle.base.specs.Range.{joined}
use Rattle.plan.specs.declared.Word.{Word}
use Rattle.channel.specs.Bags.{total}

-- an offer: where it goes to, the sender's desk, its number, the pointer's count; an advert: where it goes to, the sender's desk;
-- a call: where it goes to, the receiver's desk and count; a word: where it goes to, the word
pub data ChannelMessage : Type 0 where
  offer : ℕ → ℕ → ℕ → ℕ → ChannelMessage
  advert : ℕ → ℕ → ChannelMessage
  call : ℕ → ℕ → ℕ → ChannelMessage
  word : ℕ → Word → ChannelMessage

unfoldable pub is_call : ChannelMessage → ℕ
is_call (offer to d w k) = 0
is_call (advert to d) = 0
is_call (call to d k) = 1
is_call (word to x) = 0

unfoldable pub is_word : ChannelMessage → ℕ
is_word (offer to d w k) = 0
is_word (advert to d) = 0
is_word (call to d k) = 0
is_word (word to x) = 1

unfoldable pub is_advert : ChannelMessage → ℕ
is_advert (offer to d w k) = 0
is_advert (advert to d) = 1
is_advert (call to d k) = 0
is_advert (word to x) = 0

-- kinds, counted so that they can be told apart
unfoldable pub kind : ChannelMessage → ℕ
kind (offer to d w k) = 0
kind (advert to d) = 1
kind (call to d k) = 2
kind (word to x) = 3

abbrev pub calls : List ChannelMessage → ℕ
calls = total is_call

abbrev pub words : List ChannelMessage → ℕ
words = total is_word

-- the adverts of the sender at desk d, one to each other of n desks
unfoldable pub adverts : ℕ → ℕ → List ChannelMessage
adverts d n = joined n (λ k. pick (eqb (suc k) d) [] (advert (suc k) d ∷ []))
