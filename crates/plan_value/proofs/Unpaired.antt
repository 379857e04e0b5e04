-- How many channels have one end only: none before any instruction; one task more at an end; none left exactly where no channel has one end.
use mathlib.Core.Path.{◌≡◌, refl, ◌∙◌, ap}
use mathlib.Core.Bool.{Bool, true, false, not}
use mathlib.Core.List.{List, [], ◌∷◌}
use Prim.Native.Nat.{ℕ, suc, ◌+◌, ◌-◌, ◌<◌, ◌≤◌}
use native.Mathlib.Omega.{arith}
use lib.ListN.{length, get_or, set, replicate}
use lib.Seq.{get_or-set_same, get_or-set_other}
use lib.Dec.{eqb, leb}
use borrow.Author.Tests.{ne_eqb}
use Rattle.base.specs.Choice.{pick}
use Rattle.base.specs.Range.{fold, sum_below}
use Rattle.base.specs.Lists.{every}
use Rattle.base.proofs.Folds.{fold_same}
use Rattle.base.proofs.Joins.{part_of_sum}
use Rattle.base.proofs.Sums.{sum_at_most, sum_changed}
use Rattle.plan.specs.Users.{first_of, one_end}
use Rattle.plan_value.specs.Ends.{one_there, unpaired_in, Counted, unpaired_then}
use Rattle.plan_value.proofs.Marked.{first_some}

there_swap : (a b : ℕ) → one_there a b ≡ one_there b a
there_swap a b = go (eqb a 0) (eqb b 0)
  where
    go : (p q : Bool) → pick {A = ℕ} p (pick q 0 1) (pick q 1 0) ≡ pick q (pick p 0 1) (pick p 1 0)
    go true true = refl
    go true false = refl
    go false true = refl
    go false false = refl

pub unpaired_swap : (ends others : List ℕ) → unpaired_in ends others ≡ unpaired_in others ends
unfolding unpaired_in
unpaired_swap ends others = fold_same ◌+◌ 0 128 _ _ (λ k h. there_swap (get_or ends (suc k) 0) (get_or others (suc k) 0))

pub counted_swap : {n : ℕ} {ends others : List ℕ} → Counted n ends others → Counted n others ends
counted_swap {n} {ends} {others} c = record { size = c.other_size; other_size = c.size; count = c.count ∙ unpaired_swap ends others }

-- nobody is at either end of any
pub unpaired_none : unpaired_in (replicate 129 0) (replicate 129 0) ≡ 0
unfolding unpaired_in fold
unpaired_none = refl

few_there : (a b : ℕ) → one_there a b ≤ 1
few_there a b = go (eqb a 0) (eqb b 0)
  where
    go : (p q : Bool) → pick p (pick q 0 1) (pick q 1 0) ≤ 1
    go true true = omega arith
    go true false = omega arith
    go false true = omega arith
    go false false = omega arith

-- n before and m after, where task t is the first at an end
then_is : (n m other t : ℕ) → 1 ≤ t → m + one_there 0 other ≡ n + one_there t other → unpaired_then n other ≡ m
then_is n m other t some h = go (eqb other 0) (rw (ne_eqb t 0 (λ z. omega arith)) at h)
  where
    go : (q : Bool) → m + pick q 0 1 ≡ n + pick q 1 0 → pick q (n + 1) (n - 1) ≡ m
    go true e = omega arith
    go false e = omega arith

module _ (ends others : List ℕ) where
  -- the ends of a channel
  abbrev there : ℕ → ℕ
  there k = one_there (get_or ends (suc k) 0) (get_or others (suc k) 0)

  pub unpaired_few : unpaired_in ends others ≤ 128
  unfolding unpaired_in
  unpaired_few = omega (arith, sum_at_most 1 128 there (λ k h. few_there (get_or ends (suc k) 0) (get_or others (suc k) 0)))

  module _ (a : ℕ) (low : 1 ≤ a) (high : a < 129) where
    at : suc (a - 1) ≡ a
    at = omega arith

    -- a channel with one end is among them
    pub unpaired_part : one_there (get_or ends a 0) (get_or others a 0) ≤ unpaired_in ends others
    unfolding unpaired_in
    unpaired_part = let part = rw at at (part_of_sum 128 there (a - 1) (omega arith)) in omega arith

    -- task t is the first at an end
    pub unpaired_more : (t : ℕ) → 1 ≤ t → length ends ≡ 129 → get_or ends a 0 ≡ 0
        → unpaired_then (unpaired_in ends others) (get_or others a 0) ≡ unpaired_in (set ends a t) others
    unfolding unpaired_in
    unpaired_more t some size none =
        let then : ℕ → ℕ = λ k. one_there (get_or (set ends a t) (suc k) 0) (get_or others (suc k) 0) in
        let here : get_or (set ends a t) a 0 ≡ t = get_or-set_same ends a t 0 (omega arith) in
        let changed =
        sum_changed 128 (a - 1) there then (omega arith)
        (λ j h ne. ap (λ (x : ℕ). one_there x (get_or others (suc j) 0)) (get_or-set_other ends a (suc j) t 0 (λ z. ne (omega arith)))) in
        then_is (sum_below 128 there) (sum_below 128 then) (get_or others a 0) t some (rw (at, here, none) at changed)

-- by the tasks at both ends, none of them 0
pub there_none : (ss rs : List ℕ) → every (leb 1) ss ≡ true → every (leb 1) rs ≡ true → eqb (one_there (first_of ss) (first_of rs)) 0 ≡ not (one_end ss rs)
there_none [] [] h k = refl
there_none [] (r ∷ rs) h k = rw (first_some r rs k) refl
there_none (s ∷ ss) [] h k = rw (first_some s ss h) refl
there_none (s ∷ ss) (r ∷ rs) h k = rw (first_some s ss h, first_some r rs k) refl
