-- The mail, sorted: the letters of one channel, the words among them, the ended and the mover letters of one task.
use Rattle.std.specs.Prelude.{List, [], ◌∷◌, ◌++◌, ℕ}
use Rattle.base.specs.Choice.{pick}
use Rattle.plan.specs.declared.TaskId.{TaskId}
use Rattle.plan.specs.declared.ChannelId.{ChannelId}
use Rattle.plan.specs.declared.Word.{Word}
use Rattle.plan.specs.Numbers.{same_task, same_channel}
use Rattle.rules.specs.declared.message.Message.{Message}
use Rattle.rules.specs.declared.message.Message.TheVariants.{Empty, Offered, Advert, ReadyToReceive, Data, Terminated, Migration}
use Rattle.channel.specs.Bags.{one}
use Rattle.channel.specs.Messages.{ChannelMessage, offer, advert, call, word}
use Rattle.rules.specs.declared.channel.Hint.{Hint}

-- each element gives a list; these, in order
unfoldable pub flat : {A B : Type 0} → (A → List B) → List A → List B
flat f [] = []
flat f (x ∷ xs) = f x ++ flat f xs

unfoldable pub message_on : ChannelId → Message → List ChannelMessage
message_on c Empty = []
message_on c (Offered e o h) = pick (same_channel e c) (one (offer h.processor.0 o.processor.0 o.number h.moves)) []
message_on c (Advert e d from) = pick (same_channel e c) (one (advert d.0 from.0)) []
message_on c (ReadyToReceive e d h) = pick (same_channel e c) (one (call d.0 h.processor.0 h.moves)) []
message_on c (Data e d w) = pick (same_channel e c) (one (word d.0 w)) []
message_on c (Terminated h t) = []
message_on c (Migration d t) = []

abbrev pub messages_on : ChannelId → List Message → List ChannelMessage
messages_on c ms = flat (message_on c) ms

unfoldable pub word_in : ChannelMessage → List Word
word_in (offer to d w k) = []
word_in (advert to d) = []
word_in (call to d k) = []
word_in (word to x) = one x

abbrev pub words_in : List ChannelMessage → List Word
words_in ls = flat word_in ls

-- the pointers along which the ended letters of task t go, and where its mover letters go to
unfoldable pub ended_to : TaskId → Message → List Hint
ended_to t Empty = []
ended_to t (Offered c o h) = []
ended_to t (Advert c d from) = []
ended_to t (ReadyToReceive c d h) = []
ended_to t (Data c d w) = []
ended_to t (Terminated h u) = pick (same_task u t) (one h) []
ended_to t (Migration d u) = []

unfoldable pub mover_to : TaskId → Message → List ℕ
mover_to t Empty = []
mover_to t (Offered c o h) = []
mover_to t (Advert c d from) = []
mover_to t (ReadyToReceive c d h) = []
mover_to t (Data c d w) = []
mover_to t (Terminated h u) = []
mover_to t (Migration d u) = pick (same_task u t) (one d.0) []

abbrev pub ended_of : TaskId → List Message → List Hint
ended_of t ms = flat (ended_to t) ms

abbrev pub movers_of : TaskId → List Message → List ℕ
movers_of t ms = flat (mover_to t) ms
