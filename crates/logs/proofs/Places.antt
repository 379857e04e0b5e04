-- Laws of places in a log: where there is none there are no words, the words from a place on, and those of a whole log.
use mathlib.Core.Path.{◌≡◌, refl, sym, ap, ◌∙◌}
use mathlib.Core.List.{List, [], ◌∷◌, ◌++◌, append_assoc, append-nil}
use mathlib.Core.Logic.{by_cases}
use Prim.Native.Nat.{ℕ, zero, suc, ◌+◌, ◌-◌, ◌≤◌, ◌<◌}
use native.Mathlib.Decide.{ℕ_discrete}
use native.Mathlib.Nat.{add-zero}
use native.Mathlib.Omega.{arith}
use borrow.Author.Tests.{eq-eqb, ne_eqb}
use Rattle.base.specs.Range.{fold, joined}
use Rattle.rules.specs.LogFiles.{record_channel, record_word}
use Rattle.logs.specs.Places.{place_from, word_at, words_from}

module _ (b : List ℕ) (c : ℕ) where
  pub place_few : (n i : ℕ) → place_from b c n i ≤ i + n
  unfolding place_from
  place_few zero i = omega arith
  place_few (suc n) i =
      by_cases
      (ℕ_discrete (record_channel b i) c)
      (λ (e : record_channel b i ≡ c). rw (eq-eqb (record_channel b i) c e) (omega arith))
      (λ ne. rw (ne_eqb (record_channel b i) c ne) (omega (arith, place_few n (suc i))))

  pub words_none : (n i : ℕ) → place_from b c n i ≡ 0 → words_from b c n i ≡ []
  unfolding place_from words_from
  words_none zero i e = refl
  words_none (suc n) i e =
      by_cases
      (ℕ_discrete (record_channel b i) c)
      (λ (q : record_channel b i ≡ c). let z : suc i ≡ 0 = rw (eq-eqb (record_channel b i) c q) at e in absurd (omega arith))
      (λ ne. rw (ne_eqb (record_channel b i) c ne) (words_none n (suc i) (rw (ne_eqb (record_channel b i) c ne) at e)))

  -- the place of record j: it is on the channel, and the words from there on are its own and those behind it
  pub record Found (n i j : ℕ) : Type 0 where
    pub low : i ≤ j
    pub high : j < i + n
    pub channel : record_channel b j ≡ c
    pub words : words_from b c n i ≡ record_word b j ∷ words_from b c (i + n - suc j) (suc j)

  pub found : (n i j : ℕ) → place_from b c n i ≡ suc j → Found n i j
  unfolding place_from words_from
  found zero i j e = absurd (omega arith)
  found (suc n) i j e =
      by_cases
      (ℕ_discrete (record_channel b i) c)
      (λ (q : record_channel b i ≡ c).
      let z : suc i ≡ suc j = rw (eq-eqb (record_channel b i) c q) at e in
      let s : j ≡ i = omega arith in
      let d : i + suc n - suc i ≡ n = omega arith in
      record { low = omega arith; high = omega arith; channel = rw s q; words = rw (s, eq-eqb (record_channel b i) c q, d) refl })
      (λ ne.
      let f = found n (suc i) j (rw (ne_eqb (record_channel b i) c ne) at e) in
      let d : suc i + n - suc j ≡ i + suc n - suc j = omega arith in
      record {
        low = omega (arith, f.low);
        high = omega (arith, f.high);
        channel = f.channel;
        words = rw (ne_eqb (record_channel b i) c ne, ← d) f.words;
      })

  -- the first i and those behind them are all
  pub words_split : (n i : ℕ) → joined (i + n) (word_at b c) ≡ joined i (word_at b c) ++ words_from b c n i
  unfolding words_from fold
  words_split zero i = rw (add-zero i) (sym (append-nil (joined i (word_at b c))))
  words_split (suc n) i =
      let s : i + suc n ≡ suc i + n = omega arith in
      ap (λ (k : ℕ). joined k (word_at b c)) s ∙ words_split n (suc i)
      ∙ append_assoc (joined i (word_at b c)) (word_at b c i) (words_from b c n (suc i))
