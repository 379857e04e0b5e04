-- "Each end of a rig keeps a file .. logged when the word leaves and when it is received.": when a word leaves, the words sent by a list of
-- steps, and the two logs of a run.
use Rattle.std.specs.Prelude.{List, [], ◌∷◌, ◌++◌, map, ℕ, None, Some}
use Rattle.base.specs.Choice.{unless}
use Rattle.plan.specs.declared.ChannelId.{ChannelId}
use Rattle.plan.specs.declared.Word.{Word as WordOf}
use Rattle.plan.specs.Layout.{bytes16}
use Rattle.rules.specs.declared.message.Message.{Message}
use Rattle.rules.specs.declared.message.Message.TheVariants.{Empty, Offered, Advert, ReadyToReceive, Data, Terminated, Migration}
use Rattle.rules.specs.declared.rule.Posting.{Posting}
use Rattle.rules.specs.declared.rule.Posting.TheVariants.{Nothing, Single, Adverts}
use Rattle.rules.specs.Reports.{Received}
use Rattle.rules.specs.declared.step.Step.{Step}
use Rattle.rules.specs.declared.system.System.{System}
use Rattle.rules.specs.Answers.{is_accepted}
use Rattle.rules.specs.Steps.{by_kind, step_answer, performed, step, steps, word_on}

-- the word of a word letter, with its channel; of a letter that is posted
unfoldable pub letter_word : Message → Received
letter_word Empty = None
letter_word (Offered c o h) = None
letter_word (Advert c d from) = None
letter_word (ReadyToReceive c d h) = None
letter_word (Data c d w) = Some (c, w)
letter_word (Terminated h t) = None
letter_word (Migration d t) = None

unfoldable pub posted_word : Posting → Received
posted_word Nothing = None
posted_word (Single m) = letter_word m
posted_word (Adverts c d) = None

-- when a word leaves: in a run, where "the word passes directly" and is received at once; in the delivery of a call, by which "a word letter
-- leaves". A move sends none
unfoldable pub leaving : System → Step → Received
leaving r s = by_kind s (performed r s).received (posted_word (performed r s).posting) None

-- the word that leaves by a step; by a refused one, none
unfoldable pub sent_by : System → Step → Received
sent_by r s = unless (is_accepted (step_answer r s)) None (leaving r s)

-- by each step of a list, on the rigs of `steps`
unfoldable pub sent_in : System → List Step → List Received
sent_in r [] = []
sent_in r (s ∷ ss) = sent_by r s ∷ sent_in (step r s).system ss

-- what is received, step by step
abbrev pub received_in : System → List Step → List Received
received_in r ss = map (λ q. q.received) (steps r ss).reports

-- the words on channel c among these, in order
unfoldable pub words_on : ChannelId → List Received → List WordOf
words_on c [] = []
words_on c (x ∷ xs) = word_on c x ++ words_on c xs

-- a channel's sent words, as `received_on` has its received ones; and those of its word letters in the mail
abbrev pub sent_on : ChannelId → System → List Step → List WordOf
sent_on c r ss = words_on c (sent_in r ss)

abbrev pub under_way_on : ChannelId → List Message → List WordOf
under_way_on c ms = words_on c (map letter_word ms)

-- "for each word a channel and the word, 16 bits each, little-endian"; a word is "four numbers, level 0 first", so that the record is "now 10
-- bytes"
unfoldable pub log_record : Received → List ℕ
log_record None = []
log_record (Some (c, w)) = bytes16 c.0 ++ (bytes16 w.0 ++ (bytes16 w.1 ++ (bytes16 w.2 ++ bytes16 w.3)))

unfoldable pub log_of : List Received → List ℕ
log_of [] = []
log_of (x ∷ xs) = log_record x ++ log_of xs

-- the two logs, "taken after the same step": after the list ss, from rig r on
abbrev pub sent_log : System → List Step → List ℕ
sent_log r ss = log_of (sent_in r ss)

abbrev pub received_log : System → List Step → List ℕ
received_log r ss = log_of (received_in r ss)
