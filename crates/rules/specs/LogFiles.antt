-- The check that holds a sent log and a received log against each other, on their bytes.
use Rattle.std.specs.Prelude.{Bool, true, false, ◌&&◌, List, [], ◌∷◌, ◌++◌, ℕ, zero, suc, ◌+◌, ◌*◌, ◌/◌, ◌%◌, eqb, leb, length}
use Rattle.base.specs.Choice.{pick, unless, within}
use Rattle.base.specs.Range.{below, joined}
use Rattle.plan.specs.declared.ChannelId.{ChannelId}
use Rattle.plan.specs.declared.Word.{Word}
use Rattle.plan.specs.Files.{word16}
use Rattle.plan.specs.Words.{levels}
use Rattle.rules.specs.declared.log.LogsAnswer.{LogsAnswer}
use Rattle.rules.specs.declared.log.LogsAnswer.TheVariants.{Yes, No, BadLength, BadRecord}
use Rattle.rules.specs.Numbers.{channel_id}
use Rattle.rules.specs.Trace.{fields, refused_line}

-- the channel and the word of the record after the first k, as `log_record` writes them
abbrev pub record_channel : List ℕ → ℕ → ℕ
record_channel b k = word16 b (10 * k)

abbrev pub record_word : List ℕ → ℕ → Word
record_word b k = levels (word16 b (10 * k + 2)) (word16 b (10 * k + 4)) (word16 b (10 * k + 6)) (word16 b (10 * k + 8))

abbrev pub records_in : List ℕ → ℕ
records_in b = length b / 10

-- a log's list of words on channel c, in order
unfoldable pub logged_on : ChannelId → List ℕ → List Word
logged_on c b = joined (records_in b) (λ k. pick (eqb (record_channel b k) c.0) (record_word b k ∷ []) [])

-- "It refuses by 24 a length that is no multiple of" 10 "or over 4,096 records"
unfoldable pub log_length_ok : List ℕ → Bool
log_length_ok b = eqb (length b % 10) 0 && leb (records_in b) 4096

-- "then by 25 a channel outside 1..128"
unfoldable pub log_channels_ok : List ℕ → Bool
log_channels_ok b = below (records_in b) (λ k. within 1 128 (record_channel b k))

-- two words are the same: "all four" levels
abbrev pub same_word : Word → Word → Bool
same_word w v = eqb w.0 v.0 && (eqb w.1 v.1 && (eqb w.2 v.2 && eqb w.3 v.3))

-- the first list is a beginning of the second
unfoldable pub begins : List Word → List Word → Bool
begins [] vs = true
begins (w ∷ ws) [] = false
begins (w ∷ ws) (v ∷ vs) = same_word w v && begins ws vs

-- "for every channel the received list is a beginning of the sent list": so of channel c
abbrev pub channel_agrees : List ℕ → List ℕ → ChannelId → Bool
channel_agrees sent received c = begins (logged_on c received) (logged_on c sent)

-- the lowest of the channels 1 .. n of which the test fails; 0 where it holds of all
unfoldable pub lowest_failing : ℕ → (ChannelId → Bool) → ℕ
lowest_failing zero test = 0
lowest_failing (suc n) test =
    let k = lowest_failing n test in
    pick (eqb k 0) (pick (test (channel_id (suc n))) 0 (suc n)) k

-- "Its yes means that for every channel ..; else it names the lowest channel where that isn't so."
abbrev pub verdict_of : ℕ → LogsAnswer
verdict_of k = pick (eqb k 0) Yes (No (channel_id k))

-- "each over both files before the next"
unfoldable pub logs_answer : List ℕ → List ℕ → LogsAnswer
logs_answer sent received =
    unless (log_length_ok sent && log_length_ok received) BadLength
    (unless (log_channels_ok sent && log_channels_ok received) BadRecord
    (verdict_of (lowest_failing 128 (channel_agrees sent received))))

-- the number of each refusal, 0 for yes and no; the channel that a no names, else 0
abbrev pub logs_number : LogsAnswer → ℕ
logs_number Yes = 0
logs_number (No c) = 0
logs_number BadLength = 24
logs_number BadRecord = 25

abbrev pub logs_channel : LogsAnswer → ℕ
logs_channel Yes = 0
logs_channel (No c) = c.0
logs_channel BadLength = 0
logs_channel BadRecord = 0

-- "prints one line: `yes`, or `no` and the channel, or `refused` and the number"
abbrev pub logs_line : LogsAnswer → List ℕ
logs_line Yes = 121 ∷ 101 ∷ 115 ∷ 10 ∷ []
logs_line (No c) = (110 ∷ 111 ∷ []) ++ fields (c.0 ∷ [])
logs_line BadLength = refused_line 24
logs_line BadRecord = refused_line 25
