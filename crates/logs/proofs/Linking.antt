-- The pass that links a log, record by record from the last: what is linked behind the first `place` records.
use mathlib.Core.Path.{◌≡◌, refl, sym, ap, ◌∙◌}
use mathlib.Core.Bool.{true, false}
use mathlib.Core.List.{List}
use mathlib.Core.Logic.{◌≢◌, by_cases}
use Prim.Native.Nat.{ℕ, zero, suc, ◌-◌, ◌%◌, ◌≤◌, ◌<◌}
use native.Mathlib.Decide.{ℕ_discrete}
use native.Mathlib.Omega.{arith}
use lib.Dec.{eqb, ltb, leb}
use lib.ListN.{length, get_or, set, replicate}
use borrow.Author.Tests.{eq-eqb, ne_eqb, lt-ltb, le-ltb, leb-true}
use Rattle.base.specs.Choice.{pick, within}
use Rattle.base.specs.Lists.{table}
use Rattle.base.proofs.Tables.{all_same, get_d_table, table_same, set_table}
use Rattle.base.proofs.Tests.{below_all, below_fails, and_right, tests_differ, within_high}
use Rattle.rules.specs.LogFiles.{record_channel, records_in, log_length_ok, log_channels_ok}
use Rattle.logs.specs.Places.{place_from, place_behind, next_of, Linked}

-- the places behind those records, in a table of all
abbrev next_behind : List ℕ → ℕ → ℕ → ℕ
next_behind b place k = pick (ltb k place) 0 (next_of b k)

pub record Stage (b : List ℕ) (place : ℕ) (firsts nexts : List ℕ) : Type 0 where
  pub few : place ≤ records_in b
  pub first : firsts ≡ table 129 (place_behind b place)
  pub next : nexts ≡ table 4096 (next_behind b place)
  pub fine : (k : ℕ) → place ≤ k → k < records_in b → within 1 128 (record_channel b k) ≡ true

module _ (b : List ℕ) where
  -- behind the last record there is none
  none_behind : (c k : ℕ) → records_in b ≤ k → place_behind b k c ≡ 0
  unfolding place_from
  none_behind c k l = let z : records_in b - k ≡ 0 = omega arith in rw z refl

  pub stage_first : Stage b (records_in b) (replicate 129 0) (replicate 4096 0)
  stage_first =
      record {
        few = omega arith;
        first = all_same 129 _ 0 (λ c h. none_behind c (records_in b) (omega arith));
        next = all_same 4096 _ 0 (λ k h. by_cases (ℕ_discrete (records_in b - k) 0)
            (λ (e : records_in b - k ≡ 0). rw (le-ltb k (records_in b) (omega arith)) (none_behind (record_channel b k) (suc k) (omega arith)))
            (λ ne. rw (lt-ltb k (records_in b) (omega arith)) refl));
        fine = λ k l u. absurd (omega arith);
      }

  -- one record more
  module _ (k : ℕ) (first next : List ℕ) (stage : Stage b (suc k) first next) (size : records_in b ≤ 4096)
      (on : within 1 128 (record_channel b k) ≡ true) where
    abbrev c : ℕ
    c = record_channel b k

    -- what is behind k records: record k itself on its channel, else what is behind it
    here : place_behind b k c ≡ suc k
    unfolding place_from
    here = let s : records_in b - k ≡ suc (records_in b - suc k) = omega (arith, stage.few) in rw (s, eq-eqb c c refl) refl

    other : (e : ℕ) → e ≢ c → place_behind b (suc k) e ≡ place_behind b k e
    unfolding place_from
    other e ne =
        let s : records_in b - k ≡ suc (records_in b - suc k) = omega (arith, stage.few) in
        rw (s, ne_eqb c e (λ z. ne (sym z))) refl

    entry : get_or first c 0 ≡ next_of b k
    entry = rw stage.first (get_d_table 129 (place_behind b (suc k)) c 0 (omega (arith, within_high 1 128 c on)))

    stage_more : Stage b k (set first c (suc k)) (set next k (get_or first c 0))
    stage_more =
        record {
          few = omega (arith, stage.few);
          first =
              ap (λ (l : List ℕ). set l c (suc k)) stage.first ∙ ap (set (table 129 (place_behind b (suc k))) c) (sym here)
              ∙ set_table 129 (place_behind b (suc k)) (place_behind b k) c 0 (omega (arith, within_high 1 128 c on)) (λ e h ne. other e ne);
          next =
              let same : next_of b k ≡ next_behind b k k = rw (le-ltb k k (omega arith)) refl in
              ap (λ (l : List ℕ). set l k (get_or first c 0)) stage.next ∙ ap (set (table 4096 (next_behind b (suc k))) k) (entry ∙ same)
              ∙ set_table 4096 (next_behind b (suc k)) (next_behind b k) k 0 (omega (arith, stage.few)) (λ j h ne.
              ap (λ t. pick t 0 (next_of b j))
              (by_cases (ℕ_discrete (k - j) 0)
              (λ (e : k - j ≡ 0). le-ltb j (suc k) (omega arith) ∙ sym (le-ltb j k (omega arith)))
              (λ z. lt-ltb j (suc k) (omega arith) ∙ sym (lt-ltb j k (omega arith)))));
          fine = λ j l u. by_cases (ℕ_discrete j k) (λ (e : j ≡ k). rw e on) (λ ne. stage.fine j (omega arith) u);
        }

  -- the same of the record at a place, whose channel is c
  pub stage_next : (place c : ℕ) (first next : List ℕ) → Stage b place first next → records_in b ≤ 4096 → 1 ≤ place
      → c ≡ record_channel b (place - 1) → within 1 128 c ≡ true → Stage b (place - 1) (set first c place) (set next (place - 1) (get_or first c 0))
  stage_next zero c first next stage size some e on = absurd (omega arith)
  stage_next (suc k) c first next stage size some e on =
      let z : suc k - 1 ≡ k = omega arith in
      let here : c ≡ record_channel b k = rw z at e in
      rw (z, here) (stage_more k first next stage size (rw here at on))

  -- all records
  pub stage_last : (first next : List ℕ) → Stage b 0 first next → Linked b (record { ok = true; first = first; next = next })
  unfolding log_channels_ok
  stage_last first next stage =
      record {
        ok = sym (below_all (λ k. within 1 128 (record_channel b k)) (records_in b) (λ k l. stage.fine k (omega arith) l));
        first = λ e. stage.first;
        next = λ e. stage.next ∙ table_same 4096 _ _ (λ k h. rw (le-ltb k 0 (omega arith)) refl);
      }

  -- a record that 25 refuses
  pub stage_refused : (k : ℕ) → k < records_in b → within 1 128 (record_channel b k) ≡ false → (first next : List ℕ)
      → Linked b (record { ok = false; first = first; next = next })
  unfolding log_channels_ok
  stage_refused k l e first next =
      record {
        ok = sym (below_fails (λ k. within 1 128 (record_channel b k)) (records_in b) k l e);
        first = λ z. absurd (tests_differ z refl);
        next = λ z. absurd (tests_differ z refl);
      }

-- what 24 does not refuse has at most 4,096 records
pub records_few : (b : List ℕ) → log_length_ok b ≡ true → records_in b ≤ 4096
unfolding log_length_ok
records_few b e = leb-true (records_in b) 4096 (and_right (eqb (length b % 10) 0) (leb (records_in b) 4096) e)
