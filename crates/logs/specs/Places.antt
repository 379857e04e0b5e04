-- Where the records of a channel stand in a log. A place is a record's number from 1 on, and 0 is none.
use Rattle.std.specs.Prelude.{◌≡◌, true, List, [], ◌∷◌, ◌++◌, ℕ, zero, suc, ◌-◌, eqb}
use Rattle.base.specs.Choice.{pick}
use Rattle.base.specs.Lists.{table}
use Rattle.plan.specs.declared.Word.{Word}
use Rattle.rules.specs.LogFiles.{record_channel, record_word, records_in, log_channels_ok}
use Rattle.logs.specs.declared.links.Links.{Links}

-- the place of the first record on channel c among the n records behind the first i
unfoldable pub place_from : List ℕ → ℕ → ℕ → ℕ → ℕ
place_from b c zero i = 0
place_from b c (suc n) i = pick (eqb (record_channel b i) c) (suc i) (place_from b c n (suc i))

-- the words on channel c among them
abbrev pub word_at : List ℕ → ℕ → ℕ → List Word
word_at b c k = pick (eqb (record_channel b k) c) (record_word b k ∷ []) []

unfoldable pub words_from : List ℕ → ℕ → ℕ → ℕ → List Word
words_from b c zero i = []
words_from b c (suc n) i = word_at b c i ++ words_from b c n (suc i)

-- in a whole log, behind the first i records
abbrev pub place_behind : List ℕ → ℕ → ℕ → ℕ
place_behind b i c = place_from b c (records_in b - i) i

-- behind record k, on the same channel
abbrev pub next_of : List ℕ → ℕ → ℕ
next_of b k = place_behind b (suc k) (record_channel b k)

-- the links of a log
pub record Linked (b : List ℕ) (l : Links) : Type 0 where
  pub ok : l.ok ≡ log_channels_ok b
  pub first : l.ok ≡ true → l.first ≡ table 129 (place_behind b 0)
  pub next : l.ok ≡ true → l.next ≡ table 4096 (next_of b)
