-- Laws of the check of two logs: a list that is a beginning, one word more; the lowest channel of which a test fails.
use mathlib.Core.Path.{◌≡◌, refl, sym, ap, ap₂, ◌∙◌}
use mathlib.Core.Bool.{Bool, true, false, ◌&&◌}
use mathlib.Core.List.{List, [], ◌∷◌, ◌++◌}
use mathlib.Core.Logic.{by_cases}
use Prim.Native.Nat.{ℕ, zero, suc, ◌≤◌, ◌<◌}
use native.Mathlib.Decide.{ℕ_discrete}
use native.Mathlib.Omega.{arith, by_contra}
use lib.Dec.{eqb}
use borrow.Author.Tests.{eqb-true, eq-eqb, ne_eqb}
use Rattle.base.specs.Beginnings.{Beginning}
use Rattle.base.specs.Choice.{pick}
use Rattle.base.proofs.Tests.{and_left, and_right, and_true, tests_differ}
use Rattle.plan.specs.declared.ChannelId.{ChannelId}
use Rattle.plan.specs.declared.Word.{Word}
use Rattle.plan.specs.Numbers.{channel_id}
use Rattle.plan.specs.Words.{levels}
use Rattle.rules.specs.LogFiles.{same_word, begins, lowest_failing}

-- a word is the same as itself, and as no other
pub word_itself : (w : Word) → same_word w w ≡ true
word_itself w = rw (eq-eqb w.0 w.0 refl, eq-eqb w.1 w.1 refl, eq-eqb w.2 w.2 refl, eq-eqb w.3 w.3 refl) refl

pub same_word_lem : (w v : Word) → same_word w v ≡ true → w ≡ v
same_word_lem w v e =
    let r = and_right (eqb w.0 v.0) _ e in
    let s = and_right (eqb w.1 v.1) _ r in
    let a = eqb-true w.0 v.0 (and_left (eqb w.0 v.0) _ e) in
    let b = eqb-true w.1 v.1 (and_left (eqb w.1 v.1) _ r) in
    let c = eqb-true w.2 v.2 (and_left (eqb w.2 v.2) _ s) in
    let d = eqb-true w.3 v.3 (and_right (eqb w.2 v.2) _ s) in
    let same : levels w.0 w.1 w.2 w.3 ≡ levels v.0 v.1 v.2 v.3 = rw (a, b, c, d) refl in
    same

-- what stands behind a list tells whether more of it is a beginning
pub begins_behind : (ws vs us : List Word) → begins (ws ++ vs) (ws ++ us) ≡ begins vs us
unfolding begins
begins_behind [] vs us = refl
begins_behind (w ∷ ws) vs us = rw (word_itself w) (begins_behind ws vs us)

pub begins_nothing : (ws : List Word) → begins [] ws ≡ true
unfolding begins
begins_nothing ws = refl

pub begins_word : (w v : Word) (vs : List Word) → begins (w ∷ []) (v ∷ vs) ≡ same_word w v
unfolding begins
begins_word w v vs = and_true (same_word w v)

pub begins_no_word : (w : Word) → begins (w ∷ []) [] ≡ false
unfolding begins
begins_no_word w = refl

-- a list that is no beginning is none with more words behind it
pub begins_no_more : (ws vs us : List Word) → begins ws us ≡ false → begins (ws ++ vs) us ≡ false
unfolding begins
begins_no_more [] vs us e = absurd (tests_differ refl e)
begins_no_more (w ∷ ws) vs [] e = refl
begins_no_more (w ∷ ws) vs (u ∷ us) e = later (same_word w u) (begins ws us) e (begins_no_more ws vs us)
  where
    later : (a b : Bool) → a && b ≡ false → {c : Bool} → (b ≡ false → c ≡ false) → a && c ≡ false
    later true b e f = f e
    later false b e f = refl

-- the test is the meaning of a beginning
pub begins_is : (ws us : List Word) → begins ws us ≡ true → Beginning ws us
unfolding begins
begins_is [] us e = record { rest = us; whole = refl }
begins_is (w ∷ ws) [] e = absurd (tests_differ e refl)
begins_is (w ∷ ws) (u ∷ us) e =
    let later = begins_is ws us (and_right (same_word w u) _ e) in
    let same = same_word_lem w u (and_left (same_word w u) _ e) in
    record { rest = later.rest; whole = ap₂ ◌∷◌ (sym same) later.whole }

pub is_begins : (ws us : List Word) → Beginning ws us → begins ws us ≡ true
is_begins ws us b = rw b.whole (ap (λ (vs : List Word). begins vs (ws ++ b.rest)) (sym (nothing_behind ws)) ∙ begins_behind ws [] b.rest ∙ begins_nothing b.rest)
  where
    nothing_behind : (ws : List Word) → ws ++ [] ≡ ws
    nothing_behind [] = refl
    nothing_behind (w ∷ ws) = ap (w ∷◌) (nothing_behind ws)

-- what the lowest of 1 .. n is: k, where 0 is none
pub record Lowest (n : ℕ) (test : ChannelId → Bool) (k : ℕ) : Type 0 where
  pub holds : (c : ℕ) → 1 ≤ c → c ≤ n → (1 ≤ k → c < k) → test (channel_id c) ≡ true
  pub few : k ≤ n
  pub fails : 1 ≤ k → test (channel_id k) ≡ false

-- with one channel more
module _ (n : ℕ) (test : ChannelId → Bool) (k : ℕ) (before : Lowest n test k) where
  same_lowest : 1 ≤ k → Lowest (suc n) test k
  same_lowest some =
      record {
        holds = λ c l u h. before.holds c l (omega (arith, h some, before.few)) h;
        few = omega (arith, before.few);
        fails = before.fails;
      }

  first_lowest : (b : Bool) → test (channel_id (suc n)) ≡ b → k ≡ 0 → Lowest (suc n) test (pick b 0 (suc n))
  first_lowest true e none =
      record {
        holds = λ c l u h. by_cases (ℕ_discrete c (suc n)) (λ (q : c ≡ suc n). rw q e) (λ ne. before.holds c l (omega arith) (λ z. absurd (omega arith)));
        few = omega arith;
        fails = λ l. absurd (omega arith);
      }
  first_lowest false e none =
      record { holds = λ c l u h. before.holds c l (omega (arith, h (omega arith))) (λ z. absurd (omega arith)); few = omega arith; fails = λ l. e }

pub lowest_is : (n : ℕ) (test : ChannelId → Bool) → Lowest n test (lowest_failing n test)
unfolding lowest_failing
lowest_is zero test = record { holds = λ c l u h. absurd (omega arith); few = omega arith; fails = λ l. absurd (omega arith) }
lowest_is (suc n) test =
    let k = lowest_failing n test in
    by_cases
    (ℕ_discrete k 0)
    (λ (e : lowest_failing n test ≡ 0). rw (eq-eqb (lowest_failing n test) 0 e) (first_lowest n test (lowest_failing n test) (lowest_is n test) (test (channel_id (suc n))) refl e))
    (λ ne. rw (ne_eqb (lowest_failing n test) 0 ne) (same_lowest n test (lowest_failing n test) (lowest_is n test) (omega arith)))

-- there is one such number
pub lowest_only : (n : ℕ) (test : ChannelId → Bool) (j k : ℕ) → Lowest n test j → Lowest n test k → j ≡ k
lowest_only n test j k p q =
    by_cases
    (ℕ_discrete j 0)
    (λ (e : j ≡ 0). by_cases (ℕ_discrete k 0) (λ (f : k ≡ 0). omega arith) (λ ne. absurd (omega (arith, some k j q p (omega arith)))))
    (λ ne. let l = some j k p q (omega arith) in omega (arith, no_lower j k p q (omega arith) l, no_lower k j q p l (omega arith)))
  where
    -- of two that are some, neither is lower
    no_lower : (j k : ℕ) → Lowest n test j → Lowest n test k → 1 ≤ j → 1 ≤ k → k ≤ j
    no_lower j k p q a b = by_contra k j (λ (l : j < k). absurd (tests_differ (q.holds j a p.few (λ z. l)) (p.fails a)))

    -- where there is one, the other is one too
    some : (j k : ℕ) → Lowest n test j → Lowest n test k → 1 ≤ j → 1 ≤ k
    some j k p q a = by_contra 1 k (λ (l : k < 1). absurd (tests_differ (q.holds j a p.few (λ z. absurd (omega arith))) (p.fails a)))
