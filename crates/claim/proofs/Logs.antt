-- The two logs of a run agree, and pass the check as files.
use mathlib.Core.Path.{◌≡◌, refl, sym, ap, ◌∙◌}
use mathlib.Core.Bool.{Bool, true, false}
use mathlib.Core.List.{List, [], ◌∷◌, ◌++◌}
use Prim.Native.Nat.{ℕ, suc, ◌≤◌}
use native.Mathlib.Omega.{arith}
use lib.ListN.{length, length-append}
use borrow.Author.Tests.{eq-eqb}
use Rattle.std.specs.Prelude.{None, Some, Ok}
use Rattle.base.specs.Beginnings.{Beginning}
use Rattle.base.specs.Choice.{within}
use Rattle.base.specs.Lists.{every}
use Rattle.base.proofs.Sums.{sum_le}
use Rattle.base.proofs.Tests.{and_both, every_append, is_true, within_low, within_high}
use Rattle.plan.specs.declared.ChannelId.{ChannelId}
use Rattle.plan.specs.declared.Plan.{Plan}
use Rattle.plan.specs.declared.Word.{Word as WordOf}
use Rattle.plan.specs.Numbers.{channel_id}
use Rattle.plan.specs.Programs.{programs}
use Rattle.plan.specs.Refusals.{plan_answer}
use Rattle.rules.specs.declared.log.LogsAnswer.TheVariants.{Yes}
use Rattle.rules.specs.Reports.{Received}
use Rattle.rules.specs.declared.step.Step.{Step}
use Rattle.rules.specs.declared.system.System.{System}
use Rattle.rules.specs.Networks.{messages}
use Rattle.rules.specs.Starts.{started}
use Rattle.rules.specs.Steps.{quiescent, word_on, received_on}
use Rattle.rules.specs.Logs.{sent_in, received_in, words_on, sent_on, under_way_on, sent_log, received_log}
use Rattle.rules.specs.LogFiles.{logged_on, log_length_ok, log_channels_ok, channel_agrees, lowest_failing, logs_answer}
use Rattle.rules_laws.proofs.Logs.{is_begins, lowest_is, lowest_only}
use Rattle.rules_sound.specs.Words.{GoodHistory}
use Rattle.rules_sound.proofs.Words.Fits.{word_fits, plan_keeps}
use Rattle.rules_sound.proofs.Words.Steps.{words_good}
use Rattle.transitions.specs.Readings.{Reading, reading}
use Rattle.invariant.proofs.Next.{Kept}
use Rattle.invariant.proofs.StartViews.{read_started}
use Rattle.claim.specs.Statement.{from}
use Rattle.claim.specs.Logs.{LogsAgree, LogsAlwaysAgree}
use Rattle.claim.proofs.Whole.{start_kept, list_kept}
use Rattle.claim.proofs.Demand3.{all_received}
use Rattle.claim.proofs.SentWords.{received_words, under_way_words}
use Rattle.claim.proofs.SentDeliveries.{few_under_way}
use Rattle.claim.proofs.Sent.{sent_steps}
use Rattle.claim.proofs.PassedFew.{passed_few, passed_none}
use Rattle.claim.proofs.OldPlans.{received_good_lem}
use Rattle.claim.proofs.LogFits.{under_way_good, log_bytes}
use Rattle.claim.proofs.LogBytes.{channel_there, word_count, count_tally, logged_words, log_there, log_short}

-- two lists that are empty together
no_words_behind : (xs ys : List WordOf) → xs ++ ys ≡ [] → ys ≡ []
no_words_behind [] ys e = e
no_words_behind (x ∷ xs) ys e = let q : ◌≡◌ {A = ℕ} 0 1 = cc in absurd (omega arith)

no_words_before : (xs ys : List WordOf) → xs ++ ys ≡ [] → xs ≡ []
no_words_before [] ys e = refl
no_words_before (x ∷ xs) ys e = let q : ◌≡◌ {A = ℕ} 0 1 = cc in absurd (omega arith)

-- words on no channel but those that there are: each is on one of them
words_there : (xs : List Received) → ((c : ChannelId) → within 1 128 c.0 ≡ false → words_on c xs ≡ []) → every channel_there xs ≡ true
unfolding words_on word_on every channel_there
words_there [] none = refl
words_there (None ∷ xs) none = words_there xs none
words_there (Some (e, w) ∷ xs) none =
    and_both (within 1 128 e.0) _
    (is_true (within 1 128 e.0) (λ out. let z : w ∷ words_on e xs ≡ [] = rw (eq-eqb e.0 e.0 refl) at (none e out) in let q : ◌≡◌ {A = ℕ} 0 1 = cc in omega arith))
    (words_there xs (λ c out. no_words_behind (word_on c (Some (e, w))) (words_on c xs) (none c out)))

-- logs that neither 24 nor 25 refuses, each channel's received list a beginning of its sent list
passes : (s r : List ℕ) → log_length_ok s ≡ true → log_length_ok r ≡ true → log_channels_ok s ≡ true → log_channels_ok r ≡ true
    → ((c : ChannelId) → Beginning (logged_on c r) (logged_on c s)) → logs_answer s r ≡ Yes
unfolding logs_answer
passes s r a b c d all =
    let none : lowest_failing 128 (channel_agrees s r) ≡ 0 =
    lowest_only 128 (channel_agrees s r) _ 0 (lowest_is 128 (channel_agrees s r))
    (record { holds = λ k l u h. is_begins (logged_on (channel_id k) r) (logged_on (channel_id k) s) (all (channel_id k)); few = omega arith; fails = λ l. absurd (omega arith) }) in
    rw (a, b, c, d, none) refl

module _ (n : ℕ) (p : Plan) (ss : List Step) (some : 1 ≤ n) (few : n ≤ 6) (a : plan_answer (programs p) ≡ Ok tt) where
  abbrev start : System
  start = started n p

  abbrev end : System
  end = (from n p ss).system

  there : Kept p end (λ c. received_on c (from n p ss).reports)
  there = list_kept n p some few a ss

  no_mail : (c : ChannelId) → under_way_on c (messages start.network) ≡ []
  unfolding reading words_on
  no_mail c = ap (λ (x : Reading). under_way_on c x.messages) (read_started n p)

  sent : (c : ChannelId) → sent_on c start ss ≡ received_on c (from n p ss).reports ++ under_way_on c (messages end.network)
  sent c = ap (◌++ sent_on c start ss) (sym (no_mail c)) ∙ sent_steps p a c (start_kept n p some few a) ss

  -- the words that have passed in the net
  passed : (c : ChannelId) → sent_on c start ss ≡ there.state.passed c
  unfolding reading
  passed c = sent c ∙ ap (received_on c (from n p ss).reports ++◌) (under_way_words c (messages end.network)) ∙ sym (there.running.passed c)

  sent_none : (c : ChannelId) → within 1 128 c.0 ≡ false → sent_on c start ss ≡ []
  sent_none c out = passed c ∙ passed_none (programs p) a there.reached c out

  one : (c : ChannelId) → length (under_way_on c (messages end.network)) ≤ 1
  one c = go (within 1 128 c.0) refl
    where
      go : (b : Bool) → within 1 128 c.0 ≡ b → length (under_way_on c (messages end.network)) ≤ 1
      go true e = few_under_way p a there c (within_low 1 128 c.0 e) (within_high 1 128 c.0 e)
      go false e =
          let z = no_words_behind (received_on c (from n p ss).reports) (under_way_on c (messages end.network)) (sym (sent c) ∙ sent_none c e) in
          rw z (omega arith)

  at_rest : quiescent end ≡ true → (c : ChannelId) → sent_on c start ss ≡ received_on c (from n p ss).reports
  at_rest quiet c = passed c ∙ all_received p a there quiet c

  -- both logs as lists of words
  received_is_lem : (c : ChannelId) → words_on c (received_in start ss) ≡ received_on c (from n p ss).reports
  received_is_lem c = sym (received_words c (from n p ss).reports)

  beginning : (c : ChannelId) → Beginning (words_on c (received_in start ss)) (sent_on c start ss)
  beginning c = record { rest = under_way_on c (messages end.network); whole = sent c ∙ ap (◌++ under_way_on c (messages end.network)) (sym (received_is_lem c)) }

  sent_there : every channel_there (sent_in start ss) ≡ true
  sent_there = words_there (sent_in start ss) sent_none

  received_there : every channel_there (received_in start ss) ≡ true
  unfolding beginning
  received_there =
      words_there (received_in start ss) (λ c out.
      no_words_before (words_on c (received_in start ss)) (under_way_on c (messages end.network))
      (sym (beginning c).whole ∙ sent_none c out))

  sent_few : word_count (sent_in start ss) ≤ 4096
  sent_few =
      let same = sum_le 128 (λ k. length (sent_on (channel_id (suc k)) start ss)) (λ k. length (there.state.passed (channel_id (suc k))))
      (λ k l. omega (arith, ap length (passed (channel_id (suc k))))) in
      omega (arith, count_tally (sent_in start ss) sent_there, same, passed_few (programs p) a there.reached)

  received_few : word_count (received_in start ss) ≤ 4096
  received_few =
      let fewer = sum_le 128 (λ k. length (words_on (channel_id (suc k)) (received_in start ss))) (λ k. length (sent_on (channel_id (suc k)) start ss))
      (λ k l.
      let c = channel_id (suc k) in
      omega (arith, ap length (beginning c).whole, length-append (words_on c (received_in start ss)) (beginning c).rest)) in
      omega (arith, count_tally (received_in start ss) received_there, fewer, count_tally (sent_in start ss) sent_there, sent_few)

  -- each word fits
  good : GoodHistory word_fits (from n p ss)
  good = words_good n p ss some few a (plan_keeps (programs p) a)

  received_fits : (c : ChannelId) → every word_fits (received_on c (from n p ss).reports) ≡ true
  received_fits c = received_good_lem word_fits c (from n p ss).reports good.reports

  sent_fits : (c : ChannelId) → every word_fits (sent_on c start ss) ≡ true
  sent_fits c =
      ap (every word_fits) (sent c) ∙ every_append word_fits (received_on c (from n p ss).reports) (under_way_on c (messages end.network))
      ∙ and_both _ _ (received_fits c) (under_way_good word_fits c end good.system)

  agree : LogsAgree n p ss
  agree =
      record {
        sent = sent;
        one = one;
        at_rest = at_rest;
        sent_log_lem = λ c. logged_words c (sent_in start ss);
        received_log_lem = λ c. logged_words c (received_in start ss) ∙ received_is_lem c;
        sent_bytes = log_bytes (sent_in start ss) sent_there sent_fits;
        received_bytes = log_bytes (received_in start ss) received_there (λ c. ap (every word_fits) (received_is_lem c) ∙ received_fits c);
        passes =
            passes (sent_log start ss) (received_log start ss) (log_short (sent_in start ss) sent_few) (log_short (received_in start ss) received_few)
            (log_there (sent_in start ss) sent_there) (log_there (received_in start ss) received_there)
            (λ c.
            record {
              rest = (beginning c).rest;
              whole = logged_words c (sent_in start ss) ∙ (beginning c).whole ∙ ap (◌++ (beginning c).rest) (sym (logged_words c (received_in start ss)));
            });
      }

pub logs_agree : LogsAlwaysAgree
logs_agree n p ss some few a = agree n p ss some few a
