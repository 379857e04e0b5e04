-- Cases of what is sent and of the two logs: when a word leaves and when it is received, the bytes of a log, and each answer of the check, in
-- their order where several hold.
use mathlib.Core.Path.{◌≡◌, refl}
use mathlib.Core.Bool.{true, false}
use mathlib.Core.List.{List, [], ◌∷◌, ◌++◌, map}
use Prim.Native.Nat.{ℕ}
use lib.ListN.{length}
use Rattle.std.specs.Prelude.{None, Some}
use Rattle.plan.specs.Numbers.{channel_id}
use Rattle.plan.specs.Programs.{canonical}
use Rattle.plan.specs.Words.{levels}
use Rattle.rules.specs.declared.log.LogsAnswer.{LogsAnswer}
use Rattle.rules.specs.declared.log.LogsAnswer.TheVariants.{Yes, No, BadLength, BadRecord}
use Rattle.rules.specs.declared.step.Step.{Step}
use Rattle.rules.specs.declared.system.System.{System}
use Rattle.rules.specs.Networks.{messages}
use Rattle.rules.specs.Starts.{started}
use Rattle.rules.specs.Steps.{steps, received_on}
use Rattle.rules.specs.Logs.{letter_word, posted_word, leaving, sent_by, sent_in, received_in, words_on, sent_on, under_way_on, log_record, log_of, sent_log, received_log}
use Rattle.rules.specs.LogFiles.{logged_on, log_length_ok, log_channels_ok, begins, lowest_failing, logs_answer, logs_number, logs_channel, logs_line}
use Rattle.rules.proofs.Scripts.{create, sync, finish, send, receive, set, add, run, deliver, move}
use Rattle.rules.proofs.Sites.{seven}
use Rattle.rules.proofs.Evaluated.{evaluated}

-- the worked run's plan on two desks, where task 2 moves before it receives; the word leaves by the delivery of its call, and is received by the
-- next step
abbrev worked : System
worked = started 2 (canonical ((create 2 ∷ set 7 ∷ send 3 ∷ sync ∷ finish ∷ []) ∷ (receive 3 ∷ add 1 ∷ finish ∷ []) ∷ []))

abbrev called : List Step
called = run 1 ∷ run 1 ∷ move 2 2 ∷ run 1 ∷ deliver 2 ∷ deliver 1 ∷ run 2 ∷ deliver 1 ∷ []

word_leaves_lem : sent_in worked called ≡ None ∷ None ∷ None ∷ None ∷ None ∷ None ∷ None ∷ Some ((channel_id 3), seven) ∷ []
unfolding evaluated letter_word posted_word leaving sent_by sent_in
word_leaves_lem = refl

-- between the two it is under way
not_received_yet : received_on (channel_id 3) (steps worked called).reports ≡ []
unfolding evaluated
not_received_yet = refl

under_way_lem : under_way_on (channel_id 3) (messages (steps worked called).system.network) ≡ seven ∷ []
unfolding evaluated letter_word words_on
under_way_lem = refl

logs_under_way : sent_log worked called ++ (0 ∷ received_log worked called) ≡ 3 ∷ 0 ∷ 7 ∷ 0 ∷ 0 ∷ 0 ∷ 0 ∷ 0 ∷ 0 ∷ 0 ∷ 0 ∷ []
unfolding evaluated letter_word posted_word leaving sent_by sent_in log_record log_of
logs_under_way = refl

sent_once : sent_on (channel_id 3) worked (called ++ (deliver 1 ∷ run 1 ∷ [])) ≡ seven ∷ []
unfolding evaluated letter_word posted_word leaving sent_by sent_in words_on
sent_once = refl

-- on one desk it passes directly: it leaves and is received by one step, whether the send or the receive is second; a refused step sends nothing
passed_by_receive : sent_in worked (run 1 ∷ run 1 ∷ run 1 ∷ run 1 ∷ run 2 ∷ []) ≡ None ∷ None ∷ None ∷ None ∷ Some ((channel_id 3), seven) ∷ []
unfolding evaluated letter_word posted_word leaving sent_by sent_in
passed_by_receive = refl

passed_by_send : sent_in worked (run 1 ∷ run 2 ∷ run 1 ∷ run 1 ∷ []) ≡ received_in worked (run 1 ∷ run 2 ∷ run 1 ∷ run 1 ∷ [])
unfolding evaluated letter_word posted_word leaving sent_by sent_in
passed_by_send = refl

-- a record of a log with four levels
abbrev entry : ℕ → ℕ → ℕ → ℕ → ℕ → List ℕ
entry c x y z w = log_record (Some ((channel_id c), (levels x y z w)))

record_bytes : entry 258 1 256 65535 772 ≡ 2 ∷ 1 ∷ 1 ∷ 0 ∷ 0 ∷ 1 ∷ 255 ∷ 255 ∷ 4 ∷ 3 ∷ []
unfolding log_record
record_bytes = refl

abbrev first : List ℕ
first = entry 5 1 2 3 4

abbrev second : List ℕ
second = entry 5 1 2 3 5

abbrev other : List ℕ
other = entry 9 1 2 3 4

logged : logged_on (channel_id 5) (first ++ (other ++ second)) ≡ levels 1 2 3 4 ∷ levels 1 2 3 5 ∷ []
unfolding evaluated log_record logged_on
logged = refl

-- what is answered to a pair of logs
abbrev Pair : Type 0
Pair = List ℕ × List ℕ

abbrev answers : Pair → LogsAnswer
answers (sent, received) = logs_answer sent received

-- yes: both empty, a beginning that is empty or whole, channels in another order
yes_cases : map answers (([], []) ∷ (first, []) ∷ (first ++ other, first ++ other) ∷ (first ++ second, first) ∷ (first ++ (other ++ second), other ++ first) ∷ [])
    ≡ Yes ∷ Yes ∷ Yes ∷ Yes ∷ Yes ∷ []
unfolding evaluated log_record logged_on log_length_ok log_channels_ok begins lowest_failing logs_answer
yes_cases = refl

-- no: the other way round, another order, a gap, the last level alone, a word twice; of two channels the lower one
no_cases : map answers (([], first) ∷ (first, first ++ second) ∷ (first ++ second, second ++ first) ∷ (first ++ second, second) ∷ (first, second) ∷ (first, first ++ first) ∷ [])
    ≡ No (channel_id 5) ∷ No (channel_id 5) ∷ No (channel_id 5) ∷ No (channel_id 5) ∷ No (channel_id 5) ∷ No (channel_id 5) ∷ []
unfolding evaluated log_record logged_on log_length_ok log_channels_ok begins lowest_failing logs_answer
no_cases = refl

lowest_named : map answers (([], other ++ first) ∷ (first, other ++ first) ∷ ([], entry 1 0 0 0 0 ++ entry 128 0 0 0 0) ∷ ([], entry 128 0 0 0 0) ∷ [])
    ≡ No (channel_id 5) ∷ No (channel_id 9) ∷ No (channel_id 1) ∷ No (channel_id 128) ∷ []
unfolding evaluated log_record logged_on log_length_ok log_channels_ok begins lowest_failing logs_answer
lowest_named = refl

-- 24 in either file, before 25 in either, and that before a no; 0, 129, 256 and 257 are no channels
refused_cases : map answers ((0 ∷ [], []) ∷ ([], first ++ (0 ∷ [])) ∷ (entry 129 0 0 0 0, 0 ∷ []) ∷ (0 ∷ [], entry 129 0 0 0 0) ∷ (entry 0 0 0 0 0, []) ∷ ([], first ++ entry 0 0 0 0 0) ∷ (entry 129 0 0 0 0, first) ∷ ([], entry 256 0 0 0 0) ∷ (entry 257 0 0 0 0, []) ∷ [])
    ≡ BadLength ∷ BadLength ∷ BadLength ∷ BadLength ∷ BadRecord ∷ BadRecord ∷ BadRecord ∷ BadRecord ∷ BadRecord ∷ []
unfolding evaluated log_record logged_on log_length_ok log_channels_ok begins lowest_failing logs_answer
refused_cases = refl

-- 4,096 records, and one more; a byte more
most_records : (b : List ℕ) → length b ≡ 40960 → log_length_ok b ≡ true
unfolding log_length_ok
most_records b e = rw e refl

too_many : (b : List ℕ) → length b ≡ 40970 → log_length_ok b ≡ false
unfolding log_length_ok
too_many b e = rw e refl

no_multiple : (b : List ℕ) → length b ≡ 40961 → log_length_ok b ≡ false
unfolding log_length_ok
no_multiple b e = rw e refl

-- numbers, channels and lines
numbers : map logs_number (Yes ∷ No (channel_id 7) ∷ BadLength ∷ BadRecord ∷ []) ≡ 0 ∷ 0 ∷ 24 ∷ 25 ∷ []
numbers = refl

channels : map logs_channel (Yes ∷ No (channel_id 7) ∷ BadLength ∷ BadRecord ∷ []) ≡ 0 ∷ 7 ∷ 0 ∷ 0 ∷ []
channels = refl

lines : map logs_line (Yes ∷ No (channel_id 128) ∷ BadLength ∷ BadRecord ∷ [])
    ≡ (121 ∷ 101 ∷ 115 ∷ 10 ∷ []) ∷ (110 ∷ 111 ∷ 32 ∷ 49 ∷ 50 ∷ 56 ∷ 10 ∷ []) ∷ (114 ∷ 101 ∷ 102 ∷ 117 ∷ 115 ∷ 101 ∷ 100 ∷ 32 ∷ 50 ∷ 52 ∷ 10 ∷ [])
    ∷ (114 ∷ 101 ∷ 102 ∷ 117 ∷ 115 ∷ 101 ∷ 100 ∷ 32 ∷ 50 ∷ 53 ∷ 10 ∷ []) ∷ []
unfolding evaluated
lines = refl
