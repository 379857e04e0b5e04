-- The two logs of a run, held against each other: "Both logs, taken after the same step of a run from an accepted plan's start, always pass."; and
-- what the check's answers mean. Said of the definitions of `rules` and of the statement alone.
use Rattle.std.specs.Prelude.{◌≡◌, Bool, true, List, ◌++◌, ℕ, ◌≤◌, ◌<◌, ltb, length, Ok}
use Rattle.base.specs.Beginnings.{Beginning}
use Rattle.base.specs.Lists.{every}
use Rattle.plan.specs.declared.ChannelId.{ChannelId}
use Rattle.plan.specs.declared.Plan.{Plan}
use Rattle.plan.specs.Programs.{programs}
use Rattle.plan.specs.Refusals.{plan_answer}
use Rattle.rules.specs.declared.log.LogsAnswer.TheVariants.{Yes, No}
use Rattle.rules.specs.declared.step.Step.{Step}
use Rattle.rules.specs.Networks.{messages}
use Rattle.rules.specs.Starts.{started}
use Rattle.rules.specs.Steps.{quiescent, received_on}
use Rattle.rules.specs.Logs.{sent_on, under_way_on, sent_log, received_log}
use Rattle.rules.specs.LogFiles.{logged_on, logs_answer}
use Rattle.claim.specs.Statement.{from}

-- a file is a list of these
abbrev pub is_byte : ℕ → Bool
is_byte n = ltb n 256

-- after the list ss
pub record LogsAgree (n : ℕ) (p : Plan) (ss : List Step) : Type 0 where
  -- a channel's sent words are its received ones and then the word of its word letter in the mail, if there is one
  pub sent : (c : ChannelId) → sent_on c (started n p) ss ≡ received_on c (from n p ss).reports ++ under_way_on c (messages (from n p ss).system.network)
  pub one : (c : ChannelId) → length (under_way_on c (messages (from n p ss).system.network)) ≤ 1
  -- at rest there is none
  pub at_rest : quiescent (from n p ss).system ≡ true → (c : ChannelId) → sent_on c (started n p) ss ≡ received_on c (from n p ss).reports
  -- the logs hold just these words
  pub sent_log_lem : (c : ChannelId) → logged_on c (sent_log (started n p) ss) ≡ sent_on c (started n p) ss
  pub received_log_lem : (c : ChannelId) → logged_on c (received_log (started n p) ss) ≡ received_on c (from n p ss).reports
  pub sent_bytes : every is_byte (sent_log (started n p) ss) ≡ true
  pub received_bytes : every is_byte (received_log (started n p) ss) ≡ true
  -- as files they pass, and so are not refused: no log of a run has more than 4,096 records, or a channel that there is not
  pub passes : logs_answer (sent_log (started n p) ss) (received_log (started n p) ss) ≡ Yes

-- `logs_agree`: for every accepted plan, 1 to 6 desks and every list of steps
abbrev pub LogsAlwaysAgree : Type 0
LogsAlwaysAgree = (n : ℕ) (p : Plan) (ss : List Step) → 1 ≤ n → n ≤ 6 → plan_answer (programs p) ≡ Ok tt → LogsAgree n p ss

-- `yes_means`: "Its yes means that for every channel the received list is a beginning of the sent list", of any two files
abbrev pub YesMeans : Type 0
YesMeans = (s r : List ℕ) → logs_answer s r ≡ Yes → (c : ChannelId) → 1 ≤ c.0 → c.0 ≤ 128 → Beginning (logged_on c r) (logged_on c s)

-- `no_means`: "else it names the lowest channel where that isn't so"
pub record Lowest (s r : List ℕ) (c : ChannelId) : Type 0 where
  pub low : 1 ≤ c.0
  pub high : c.0 ≤ 128
  pub fails : Beginning (logged_on c r) (logged_on c s) → ⊥
  pub lower : (d : ChannelId) → 1 ≤ d.0 → d.0 < c.0 → Beginning (logged_on d r) (logged_on d s)

abbrev pub NoMeans : Type 0
NoMeans = (s r : List ℕ) (c : ChannelId) → logs_answer s r ≡ No c → Lowest s r c
