-- The bytes of a log: the words that are read from it are those that were put in, and it is refused neither by 24 nor by 25.
use mathlib.Core.Path.{◌≡◌, refl, sym, ap, ap₂, ◌∙◌}
use mathlib.Core.Bool.{Bool, true, ◌&&◌, and_assoc}
use mathlib.Core.List.{List, [], ◌∷◌, ◌++◌, append_assoc, append-nil}
use mathlib.Core.Logic.{by_cases}
use Prim.Native.Nat.{ℕ, suc, ◌+◌, ◌*◌, ◌/◌, ◌%◌, ◌≤◌}
use native.Mathlib.Decide.{ℕ_discrete}
use native.Mathlib.Omega.{arith}
use lib.Dec.{eqb}
use lib.ListN.{length, get_or}
use lib.Seq.{get_or-append-add}
use borrow.Author.Tests.{eq-eqb, ne_eqb, le-leb}
use Rattle.std.specs.Prelude.{None, Some}
use Rattle.base.specs.Choice.{pick, within}
use Rattle.base.specs.Lists.{every}
use Rattle.base.specs.Range.{fold, below, joined}
use Rattle.base.proofs.Folds.{fold_add, fold_same}
use Rattle.base.proofs.Sums.{sum_const}
use Rattle.base.proofs.Tests.{and_left, and_right, and_both, and_true}
use Rattle.plan.specs.declared.ChannelId.{ChannelId}
use Rattle.plan.specs.declared.Word.{Word as WordOf}
use Rattle.plan.specs.Files.{word16}
use Rattle.plan.specs.Numbers.{channel_id}
use Rattle.plan.specs.Words.{levels}
use Rattle.rules.specs.Reports.{Received}
use Rattle.rules.specs.Steps.{word_on}
use Rattle.rules.specs.Logs.{words_on, log_record, log_of}
use Rattle.rules.specs.LogFiles.{record_channel, record_word, records_in, logged_on, log_length_ok, log_channels_ok}
use Rattle.claim.proofs.PassedFew.{sum_tick, tally}

-- a word on a channel that there is
unfoldable pub channel_there : Received → Bool
channel_there None = true
channel_there (Some (c, w)) = within 1 128 c.0

-- how many words
unfoldable pub word_count : List Received → ℕ
word_count [] = 0
word_count (None ∷ xs) = word_count xs
word_count (Some (c, w) ∷ xs) = suc (word_count xs)

-- as many as on all channels
pub count_tally : (xs : List Received) → every channel_there xs ≡ true → tally (λ c. words_on c xs) ≡ word_count xs
unfolding words_on word_on word_count every channel_there
count_tally [] h = sum_const 0 128
count_tally (None ∷ xs) h = count_tally xs h
count_tally (Some (e, w) ∷ xs) h =
    let there : within 1 128 e.0 ≡ true = and_left (within 1 128 e.0) _ h in
    let more : (k : ℕ) → length (words_on (channel_id (suc k)) (Some (e, w) ∷ xs)) ≡ length (words_on (channel_id (suc k)) xs) + pick (eqb (suc k) e.0) 1 0 =
    λ k. by_cases
    (ℕ_discrete (suc k) e.0)
    (λ (q : suc k ≡ e.0). rw (eq-eqb (suc k) e.0 q, eq-eqb e.0 (suc k) (sym q)) (omega arith))
    (λ ne. rw (ne_eqb (suc k) e.0 ne, ne_eqb e.0 (suc k) (λ z. ne (sym z))) (omega arith)) in
    let one : ◌≡◌ {A = ℕ} (pick (within 1 128 e.0) 1 0) 1 = rw there refl in
    omega (
      arith,
      sum_tick 128 e.0 (λ k. length (words_on (channel_id (suc k)) xs)) (λ k. length (words_on (channel_id (suc k)) (Some (e, w) ∷ xs))) more,
      one,
      count_tally xs (and_right (within 1 128 e.0) _ h),
    )

-- a number of two bytes, and a word of four such numbers
two_bytes : (n : ℕ) → n % 256 + 256 * (n / 256) ≡ n
two_bytes n = omega arith

levels_same : {a b c d x y z u : ℕ} → a ≡ x → b ≡ y → c ≡ z → d ≡ u → levels a b c d ≡ levels x y z u
levels_same p q r s = rw (p, q, r, s) refl

-- one of a range
fold_one : {A : Type 0} (op : A → A → A) (e : A) → ((x : A) → op e x ≡ x) → (f : ℕ → A) → fold op e 1 f ≡ f 0
unfolding fold
fold_one op e unit f = unit (f 0)

-- a record in front of a log
module _ (e : ChannelId) (w : WordOf) (rest : List ℕ) where
  abbrev log : List ℕ
  log = log_record (Some (e, w)) ++ rest

  ten_more : length log ≡ 10 + length rest
  unfolding log_record
  ten_more = omega arith

  one_more_lem : records_in log ≡ 1 + records_in rest
  one_more_lem = omega (arith, ten_more)

  byte_behind : (j : ℕ) → get_or log (10 + j) 0 ≡ get_or rest j 0
  unfolding log_record
  byte_behind j = get_or-append-add (log_record (Some (e, w))) rest j 0

  number_behind : (j : ℕ) → word16 log (10 + j) ≡ word16 rest j
  number_behind j =
      let next : 10 + j + 1 ≡ 10 + (j + 1) = omega arith in
      ap₂ (λ (low high : ℕ). low + 256 * high) (byte_behind j) (ap (λ (n : ℕ). get_or log n 0) next ∙ byte_behind (j + 1))

  field_behind : (k j : ℕ) → word16 log (10 * (1 + k) + j) ≡ word16 rest (10 * k + j)
  field_behind k j =
      let at : 10 * (1 + k) + j ≡ 10 + (10 * k + j) = omega arith in
      ap (λ (n : ℕ). word16 log n) at ∙ number_behind (10 * k + j)

  channel_behind : (k : ℕ) → record_channel log (1 + k) ≡ record_channel rest k
  channel_behind k =
      let at : 10 * (1 + k) ≡ 10 + 10 * k = omega arith in
      ap (λ (n : ℕ). word16 log n) at ∙ number_behind (10 * k)

  word_behind : (k : ℕ) → record_word log (1 + k) ≡ record_word rest k
  word_behind k =
      let same : levels (word16 log (10 * (1 + k) + 2)) (word16 log (10 * (1 + k) + 4)) (word16 log (10 * (1 + k) + 6)) (word16 log (10 * (1 + k) + 8))
      ≡ levels (word16 rest (10 * k + 2)) (word16 rest (10 * k + 4)) (word16 rest (10 * k + 6)) (word16 rest (10 * k + 8)) =
      levels_same (field_behind k 2) (field_behind k 4) (field_behind k 6) (field_behind k 8) in
      same

  channel_front : record_channel log 0 ≡ e.0
  unfolding log_record
  channel_front = two_bytes e.0

  word_front : record_word log 0 ≡ w
  unfolding log_record
  word_front = levels_same (two_bytes w.0) (two_bytes w.1) (two_bytes w.2) (two_bytes w.3)

  -- the words on a channel, and whether all channels are there
  module _ (c : ChannelId) where
    abbrev read : List ℕ → ℕ → List WordOf
    read b k = pick (eqb (record_channel b k) c.0) (record_word b k ∷ []) []

    read_behind : (k : ℕ) → read log (1 + k) ≡ read rest k
    read_behind k = ap₂ (λ (n : ℕ) (v : WordOf). pick (eqb n c.0) (v ∷ []) []) (channel_behind k) (word_behind k)

    read_front : read log 0 ≡ word_on c (Some (e, w))
    unfolding word_on
    read_front = ap₂ (λ (n : ℕ) (v : WordOf). pick (eqb n c.0) (v ∷ []) []) channel_front word_front

    logged_more : logged_on c log ≡ word_on c (Some (e, w)) ++ logged_on c rest
    unfolding logged_on
    logged_more =
        ap (λ (n : ℕ). joined n (read log)) one_more_lem
        ∙ fold_add ◌++◌ [] append_assoc append-nil 1 (records_in rest) (read log)
        ∙ ap₂ ◌++◌ (fold_one ◌++◌ [] (λ xs. refl) (read log) ∙ read_front) (fold_same ◌++◌ [] (records_in rest) _ (read rest) (λ k l. read_behind k))

  there_more : log_channels_ok log ≡ within 1 128 e.0 && log_channels_ok rest
  unfolding log_channels_ok
  there_more =
      let there : List ℕ → ℕ → Bool = λ b k. within 1 128 (record_channel b k) in
      ap (λ (n : ℕ). below n (λ k. within 1 128 (record_channel log k))) one_more_lem
      ∙ fold_add ◌&&◌ true and_assoc and_true 1 (records_in rest) (λ k. within 1 128 (record_channel log k))
      ∙ ap₂ ◌&&◌ (fold_one ◌&&◌ true (λ b. refl) (λ k. within 1 128 (record_channel log k)) ∙ ap (within 1 128) channel_front)
      (fold_same ◌&&◌ true (records_in rest) _ (λ k. within 1 128 (record_channel rest k)) (λ k l. ap (within 1 128) (channel_behind k)))

-- whole logs
pub log_length : (xs : List Received) → length (log_of xs) ≡ 10 * word_count xs
unfolding log_of log_record word_count
log_length [] = refl
log_length (None ∷ xs) = log_length xs
log_length (Some (c, w) ∷ xs) = omega (arith, log_length xs)

log_without : (xs : List Received) → log_of (None ∷ xs) ≡ log_of xs
unfolding log_of log_record
log_without xs = refl

words_without : (c : ChannelId) (xs : List Received) → words_on c (None ∷ xs) ≡ words_on c xs
unfolding words_on word_on
words_without c xs = refl

logged_nothing : (c : ChannelId) → logged_on c [] ≡ []
unfolding logged_on fold
logged_nothing c = refl

there_nothing : log_channels_ok [] ≡ true
unfolding log_channels_ok fold
there_nothing = refl

pub logged_words : (c : ChannelId) (xs : List Received) → logged_on c (log_of xs) ≡ words_on c xs
unfolding log_of words_on
logged_words c [] = logged_nothing c
logged_words c (None ∷ xs) = ap (logged_on c) (log_without xs) ∙ logged_words c xs ∙ sym (words_without c xs)
logged_words c (Some (e, w) ∷ xs) = logged_more e w (log_of xs) c ∙ ap (word_on c (Some (e, w)) ++◌) (logged_words c xs)

pub log_there : (xs : List Received) → every channel_there xs ≡ true → log_channels_ok (log_of xs) ≡ true
unfolding log_of every channel_there
log_there [] h = there_nothing
log_there (None ∷ xs) h = ap log_channels_ok (log_without xs) ∙ log_there xs h
log_there (Some (e, w) ∷ xs) h =
    there_more e w (log_of xs) ∙ and_both (within 1 128 e.0) _ (and_left (within 1 128 e.0) _ h) (log_there xs (and_right (within 1 128 e.0) _ h))

pub log_short : (xs : List Received) → word_count xs ≤ 4096 → log_length_ok (log_of xs) ≡ true
unfolding log_length_ok
log_short xs few =
    and_both _ _ (eq-eqb (length (log_of xs) % 10) 0 (omega (arith, log_length xs))) (le-leb (records_in (log_of xs)) 4096 (omega (arith, log_length xs, few)))
