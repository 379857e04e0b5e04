-- The exported check of two logs.
use Rattle.std.specs.Prelude.{List, ℕ}
use Rattle.rules.specs.declared.log.LogsAnswer.{LogsAnswer}
use Rattle.rules.specs.LogFiles.{logs_answer, logs_number, logs_channel}
use Rattle.driver.specs.Runs.{packed}

-- 0 or the refusal's number, and 256 times the channel that a no names; so a yes is 0
abbrev pub logs_packed : LogsAnswer → ℕ
logs_packed a = packed (logs_number a) (logs_channel a)

abbrev pub logs_outcome : List ℕ → List ℕ → ℕ
logs_outcome sent received = logs_packed (logs_answer sent received)
