-- One record of the received log, and all.
use Rattle.std.specs.Prelude.{Bool, not, ◌&&◌, List, ℕ, ◌-◌, eqb, ltb}
use Rattle.base.specs.Choice.{pick, unless}
use Rattle.rules.specs.declared.log.LogsAnswer.{LogsAnswer}
use Rattle.rules.specs.declared.log.LogsAnswer.TheVariants.{BadRecord}
use Rattle.rules.specs.LogFiles.{record_word, same_word, log_channels_ok, channel_agrees, lowest_failing, verdict_of}

-- its word is the one at a place of the sent log
unfoldable pub matches_at : List ℕ → ℕ → List ℕ → ℕ → Bool
matches_at received k sent place = not (eqb place 0) && same_word (record_word received k) (record_word sent (place - 1))

-- the lower of two channels, of which the first may be 0, none
unfoldable pub lower_of : ℕ → ℕ → ℕ
lower_of lowest c = pick (eqb lowest 0) c (pick (ltb c lowest) c lowest)

-- what is answered where 24 refuses neither log and 25 not the sent one
unfoldable pub followed_answer : List ℕ → List ℕ → LogsAnswer
followed_answer sent received = unless (log_channels_ok received) BadRecord (verdict_of (lowest_failing 128 (channel_agrees sent received)))
