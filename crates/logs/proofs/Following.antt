-- The pass over the received log, record by record: where each channel stands in the sent log, and the lowest channel that does not agree.
use mathlib.Core.Path.{◌≡◌, refl, sym, ap, ◌∙◌}
use mathlib.Core.Bool.{Bool, true, false, not}
use mathlib.Core.List.{List, [], ◌∷◌, ◌++◌, append_assoc, append-nil}
use mathlib.Core.Logic.{◌≢◌, by_cases}
use Prim.Native.Nat.{ℕ, suc, ◌+◌, ◌-◌, ◌≤◌, ◌<◌}
use native.Mathlib.Decide.{ℕ_discrete}
use native.Mathlib.Omega.{arith}
use lib.Dec.{eqb}
use lib.ListN.{length, get_or, set, length-set}
use lib.Seq.{get_or-set_same, get_or-set_other}
use borrow.Author.Tests.{eq-eqb, ne_eqb}
use Rattle.base.specs.Choice.{within}
use Rattle.base.specs.Lists.{table}
use Rattle.base.specs.Range.{fold, below, joined}
use Rattle.base.proofs.Folds.{fold_more}
use Rattle.base.proofs.Tables.{get_d_table, length_table}
use Rattle.base.proofs.Tests.{and_right, below_more, below_fails, tests_differ, within_low, within_high}
use Rattle.plan.specs.declared.ChannelId.{ChannelId}
use Rattle.plan.specs.declared.Word.{Word}
use Rattle.plan.specs.Numbers.{channel_id}
use Rattle.rules.specs.declared.log.LogsAnswer.TheVariants.{BadRecord}
use Rattle.rules.specs.LogFiles.{record_channel, record_word, records_in, logged_on, log_channels_ok, same_word, begins, verdict_of}
use Rattle.rules_laws.proofs.Logs.{same_word_lem, begins_behind, begins_nothing, begins_word, begins_no_word, begins_no_more, Lowest, lowest_is, lowest_only}
use Rattle.logs.specs.Places.{word_at, words_from, place_behind, next_of}
use Rattle.logs.specs.Following.{matches_at, lower_of, followed_answer}
use Rattle.logs.proofs.Lowering.{lowest_same, lowest_lower}
use Rattle.logs.proofs.Places.{place_few, words_none, Found, found, words_split}

-- a test holds, or it fails
either : {C : Type 0} (b : Bool) → (b ≡ true → C) → (b ≡ false → C) → C
either true f g = f refl
either false f g = g refl

module _ (s e : List ℕ) where
  -- the words received on channel c in the first k records; they are a beginning of those sent
  abbrev got : ℕ → ℕ → List Word
  got c k = joined k (word_at e c)

  abbrev agrees : ℕ → ChannelId → Bool
  agrees k c = begins (got c.0 k) (logged_on c s)

  -- channel c at a place of the sent log: what was sent is what was received and then the words from there on
  pub record Stands (c place k : ℕ) : Type 0 where
    pub at : ℕ
    pub low : at ≤ records_in s
    pub is : place ≡ place_behind s at c
    pub rest : logged_on (channel_id c) s ≡ got c k ++ words_from s c (records_in s - at) at

  pub record Stage (k : ℕ) (places : List ℕ) (lowest : ℕ) : Type 0 where
    pub size : length places ≡ 129
    pub few : (c : ℕ) → c ≤ 128 → get_or places c 0 ≤ records_in s
    pub stands : (c : ℕ) → 1 ≤ c → c ≤ 128 → agrees k (channel_id c) ≡ true → Stands c (get_or places c 0) k
    pub low : Lowest 128 (agrees k) lowest
    pub fine : below k (λ j. within 1 128 (record_channel e j)) ≡ true

  pub stage_first : (places : List ℕ) → places ≡ table 129 (place_behind s 0) → Stage 0 places 0
  unfolding logged_on fold
  stage_first places is =
      let entry : (c : ℕ) → c ≤ 128 → get_or places c 0 ≡ place_behind s 0 c =
      λ c u. rw is (get_d_table 129 (place_behind s 0) c 0 (omega arith)) in
      let all : records_in s - 0 ≡ records_in s = omega arith in
      let none : 0 + records_in s ≡ records_in s = omega arith in
      record {
        size = rw is (length_table 129 (place_behind s 0));
        few = λ c u. omega (arith, entry c u, place_few s c (records_in s - 0) 0);
        stands = λ c l u a. record { at = 0; low = omega arith; is = entry c u; rest = rw all (ap (λ (n : ℕ). joined n (word_at s c)) (sym none) ∙ words_split s c (records_in s) 0) };
        low = record { holds = λ c l u h. begins_nothing (logged_on (channel_id c) s); few = omega arith; fails = λ l. absurd (omega arith) };
        fine = refl;
      }

  -- record k, on channel c
  module _ (k : ℕ) (places : List ℕ) (lowest : ℕ) (stage : Stage k places lowest) (c : ℕ) (on : c ≡ record_channel e k)
      (ok : within 1 128 c ≡ true) where
    abbrev w : Word
    w = record_word e k

    abbrev place : ℕ
    place = get_or places c 0

    fine_then : below (k + 1) (λ j. within 1 128 (record_channel e j)) ≡ true
    fine_then = below_more (λ j. within 1 128 (record_channel e j)) k stage.fine (rw on at ok)

    -- one word more on this channel, and none on another
    got_here : got c (k + 1) ≡ got c k ++ (w ∷ [])
    got_here = fold_more ◌++◌ [] k (word_at e c) ∙ ap (got c k ++◌) (rw (eq-eqb (record_channel e k) c (sym on)) refl)

    got_other : (d : ℕ) → d ≢ c → got d (k + 1) ≡ got d k
    got_other d ne =
        fold_more ◌++◌ [] k (word_at e d) ∙ ap (got d k ++◌) (rw (ne_eqb (record_channel e k) d (λ z. ne (sym z ∙ sym on))) refl) ∙ append-nil (got d k)

    other_same : (d : ℕ) → d ≢ c → agrees (k + 1) (channel_id d) ≡ agrees k (channel_id d)
    other_same d ne = ap (λ (ws : List Word). begins ws (logged_on (channel_id d) s)) (got_other d ne)

    stands_other : (d old then : ℕ) → d ≢ c → then ≡ old → Stands d old k → Stands d then (k + 1)
    stands_other d old then ne e h =
        record { at = h.at; low = h.low; is = e ∙ h.is; rest = h.rest ∙ ap (◌++ words_from s d (records_in s - h.at) h.at) (sym (got_other d ne)) }

    -- where it agreed, the word decides; where it did not, it does not
    by_word : (rest : List Word) → logged_on (channel_id c) s ≡ got c k ++ rest → agrees (k + 1) (channel_id c) ≡ begins (w ∷ []) rest
    by_word rest r = ap (λ (ws : List Word). begins ws (logged_on (channel_id c) s)) got_here ∙ ap (begins (got c k ++ (w ∷ []))) r ∙ begins_behind (got c k) (w ∷ []) rest

    not_again : agrees k (channel_id c) ≡ false → agrees (k + 1) (channel_id c) ≡ false
    not_again differs = ap (λ (ws : List Word). begins ws (logged_on (channel_id c) s)) got_here ∙ begins_no_more (got c k) (w ∷ []) (logged_on (channel_id c) s) differs

    low_c : 1 ≤ c
    low_c = within_low 1 128 c ok

    high_c : c ≤ 128
    high_c = within_high 1 128 c ok

    -- the word at the channel's place, where there is one
    module _ (a : agrees k (channel_id c) ≡ true) where
      here : Stands c place k
      here = stage.stands c low_c high_c a

      no_place : place ≡ 0 → agrees (k + 1) (channel_id c) ≡ false
      no_place z =
          by_word (words_from s c (records_in s - here.at) here.at) here.rest
          ∙ ap (begins (w ∷ [])) (words_none s c (records_in s - here.at) here.at (sym here.is ∙ z)) ∙ begins_no_word w

      at_place : (j : ℕ) → place ≡ suc j → Found s c (records_in s - here.at) here.at j
      at_place j z = found s c (records_in s - here.at) here.at j (sym here.is ∙ z)

      some_place : (j : ℕ) → place ≡ suc j → agrees (k + 1) (channel_id c) ≡ same_word w (record_word s j)
      some_place j z =
          by_word (words_from s c (records_in s - here.at) here.at) here.rest ∙ ap (begins (w ∷ [])) (at_place j z).words
          ∙ begins_word w (record_word s j) _

    -- it is not the word at the place: this channel does not agree any more
    module _ (differs : matches_at e k s place ≡ false) where
      fails_here : agrees (k + 1) (channel_id c) ≡ false
      unfolding matches_at
      fails_here =
          either (agrees k (channel_id c))
          (λ a. by_cases
          (ℕ_discrete place 0)
          (no_place a)
          (λ ne.
          let j : place ≡ suc (place - 1) = omega arith in
          some_place a (place - 1) j ∙ (rw (ne_eqb place 0 ne) at differs)))
          not_again

      pub stage_differs : Stage (k + 1) places (lower_of lowest c)
      stage_differs =
          record {
            size = stage.size;
            few = stage.few;
            stands = λ d l u a. by_cases
                (ℕ_discrete d c)
                (λ (z : d ≡ c). absurd (tests_differ a (rw z fails_here)))
                (λ ne. stands_other d (get_or places d 0) (get_or places d 0) ne refl (stage.stands d l u (sym (other_same d ne) ∙ a)));
            low = lowest_lower 128 (agrees k) (agrees (k + 1)) lowest stage.low c low_c high_c fails_here (λ d l u ne. other_same d ne);
            fine = fine_then;
          }

    -- it is: the channel goes on to its next place
    module _ (yes : matches_at e k s place ≡ true) (next : List ℕ) (nexts : next ≡ table 4096 (next_of s)) (size : records_in s ≤ 4096) where
      pub some : 1 ≤ place
      unfolding matches_at
      some = by_cases
          (ℕ_discrete place 0)
          (λ (z : place ≡ 0). let f : false ≡ true = rw (eq-eqb place 0 z) at yes in absurd (tests_differ refl (sym f)))
          (λ ne. omega arith)

      is_j : place ≡ suc (place - 1)
      is_j = omega (arith, some)

      same : same_word w (record_word s (place - 1)) ≡ true
      unfolding matches_at
      same = and_right (not (eqb place 0)) (same_word w (record_word s (place - 1))) yes

      same_here : agrees (k + 1) (channel_id c) ≡ agrees k (channel_id c)
      same_here = either (agrees k (channel_id c)) (λ a. some_place a (place - 1) is_j ∙ same ∙ sym a) (λ a. not_again a ∙ sym a)

      entry : get_or next (place - 1) 0 ≡ next_of s (place - 1)
      entry = rw nexts (get_d_table 4096 (next_of s) (place - 1) 0 (omega (arith, stage.few c high_c, some)))

      abbrev then : List ℕ
      then = set places c (get_or next (place - 1) 0)

      then_here : get_or then c 0 ≡ next_of s (place - 1)
      then_here = get_or-set_same places c (get_or next (place - 1) 0) 0 (omega (arith, stage.size, high_c)) ∙ entry

      then_other : (d : ℕ) → d ≢ c → get_or then d 0 ≡ get_or places d 0
      then_other d ne = get_or-set_other places c d (get_or next (place - 1) 0) 0 ne

      stands_here : agrees k (channel_id c) ≡ true → Stands c (get_or then c 0) (k + 1)
      stands_here a =
          let f = at_place a (place - 1) is_j in
          let h = here a in
          let left : h.at + (records_in s - h.at) - suc (place - 1) ≡ records_in s - suc (place - 1) = omega (arith, h.low) in
          record {
            at = suc (place - 1);
            low = omega (arith, f.high, h.low);
            is = then_here ∙ ap (λ (d : ℕ). place_behind s (suc (place - 1)) d) f.channel;
            rest =
                h.rest ∙ ap (got c k ++◌) f.words
                ∙ rw (got_here, same_word_lem w (record_word s (place - 1)) same, left) (sym (append_assoc (got c k) (record_word s (place - 1) ∷ []) _));
          }

      pub stage_agrees : Stage (k + 1) then lowest
      stage_agrees =
          record {
            size = length-set places c (get_or next (place - 1) 0) ∙ stage.size;
            few = λ d u. by_cases
                (ℕ_discrete d c)
                (λ (z : d ≡ c). rw (z, then_here) (omega (arith, place_few s (record_channel s (place - 1)) (records_in s - suc (place - 1)) (suc (place - 1)), stage.few c high_c, some)))
                (λ ne. rw (then_other d ne) (stage.few d u));
            stands = λ d l u a. by_cases
                (ℕ_discrete d c)
                (λ (z : d ≡ c). rw z (stands_here (sym same_here ∙ (rw z at a))))
                (λ ne. stands_other d (get_or places d 0) (get_or then d 0) ne (then_other d ne) (stage.stands d l u (sym (other_same d ne) ∙ a)));
            low = lowest_same 128 (agrees k) (agrees (k + 1)) lowest stage.low
                (λ d l u. by_cases (ℕ_discrete d c) (λ (z : d ≡ c). rw z same_here) (λ ne. other_same d ne));
            fine = fine_then;
          }

  -- all records
  pub stage_last : (places : List ℕ) (lowest : ℕ) → Stage (records_in e) places lowest → verdict_of lowest ≡ followed_answer s e
  unfolding followed_answer logged_on log_channels_ok
  stage_last places lowest stage =
      rw stage.fine (ap verdict_of (lowest_only 128 (agrees (records_in e)) lowest _ stage.low (lowest_is 128 (agrees (records_in e)))))

  -- a record that 25 refuses
  pub stage_refused : (k : ℕ) → k < records_in e → within 1 128 (record_channel e k) ≡ false → BadRecord ≡ followed_answer s e
  unfolding followed_answer log_channels_ok
  stage_refused k l bad = rw (below_fails (λ k. within 1 128 (record_channel e k)) (records_in e) k l bad) refl
