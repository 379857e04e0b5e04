-- What is said of the two logs, used: a word that is under way after the steps, and one that passed directly before; at rest both logs are the same.
use mathlib.Core.Path.{◌≡◌, refl, ◌∙◌}
use mathlib.Core.Bool.{true}
use mathlib.Core.List.{[], ◌∷◌}
use native.Mathlib.Omega.{arith}
use Rattle.std.specs.Prelude.{Ok}
use Rattle.plan.specs.declared.ChannelId.{ChannelId}
use Rattle.plan.specs.Numbers.{channel_id}
use Rattle.plan.specs.Programs.{programs}
use Rattle.plan.specs.Refusals.{plan_answer}
use Rattle.plan.specs.Words.{levels}
use Rattle.rules.specs.declared.log.LogsAnswer.TheVariants.{Yes}
use Rattle.rules.specs.Networks.{messages}
use Rattle.rules.specs.Starts.{started}
use Rattle.rules.specs.Steps.{quiescent, received_on}
use Rattle.rules.specs.Logs.{letter_word, words_on, sent_on, under_way_on, sent_log, received_log}
use Rattle.rules.specs.LogFiles.{logs_answer}
use Rattle.rules.proofs.Evaluated.{evaluated}
use Rattle.claim.specs.Statement.{from}
use Rattle.claim.specs.Logs.{LogsAgree}
use Rattle.examples.specs.Logs.{words_plan, words_before, words_all}
use Rattle.claim.proofs.Logs.{logs_agree}

accepted : plan_answer (programs words_plan) ≡ Ok tt
unfolding evaluated
accepted = refl

abbrev line : ChannelId
line = channel_id 3

-- after some of the steps the second word has left and is not received
before : LogsAgree 2 words_plan words_before
before = logs_agree 2 words_plan words_before (omega arith) (omega arith) accepted

one_received : received_on line (from 2 words_plan words_before).reports ≡ levels 7 0 0 0 ∷ []
unfolding evaluated
one_received = refl

one_under_way : under_way_on line (messages (from 2 words_plan words_before).system.network) ≡ levels 8 0 0 0 ∷ []
unfolding evaluated words_on letter_word
one_under_way = refl

pub two_sent : sent_on line (started 2 words_plan) words_before ≡ levels 7 0 0 0 ∷ levels 8 0 0 0 ∷ []
two_sent = before.sent line ∙ rw (one_received, one_under_way) refl

pub they_pass : logs_answer (sent_log (started 2 words_plan) words_before) (received_log (started 2 words_plan) words_before) ≡ Yes
they_pass = before.passes

-- at rest
rests : quiescent (from 2 words_plan words_all).system ≡ true
unfolding evaluated
rests = refl

pub all_received : sent_on line (started 2 words_plan) words_all ≡ received_on line (from 2 words_plan words_all).reports
all_received = (logs_agree 2 words_plan words_all (omega arith) (omega arith) accepted).at_rest rests line
