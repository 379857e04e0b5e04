-- Laws of how often an offer can still be forwarded: at most once from each desk, at most as often as the receiver moved after the offer's
-- count, and less often after each forward.
use mathlib.Core.Path.{◌≡◌, refl, sym}
use mathlib.Core.Logic.{◌≢◌, by_cases}
use Prim.Native.Nat.{ℕ, zero, suc, ◌+◌, ◌-◌, ◌≤◌, ◌<◌}
use native.Mathlib.Omega.{arith}
use native.Mathlib.Decide.{ℕ_discrete, dec_lt, dec_le}
use borrow.Author.Tests.{lt-ltb, le-ltb, eq-eqb, ne_eqb}
use Rattle.base.specs.Range.{fold, sum_below}
use Rattle.base.proofs.Folds.{fold_same}
use Rattle.base.proofs.Sums.{sum_at_most, sum_less}
use Rattle.rules.specs.declared.channel.Hint.{Hint}
use Rattle.channel.specs.Hints.{Table, left_with, over, forwards}

over_one_lem : (m k : ℕ) → m < k → over m k ≡ 1
unfolding over
over_one_lem m k l = rw (lt-ltb m k l) refl

over_none : (m k : ℕ) → k ≤ m → over m k ≡ 0
unfolding over
over_none m k l = rw (le-ltb m k l) refl

-- where a count is over m, each larger one is over each smaller bound
over_mono : (m j k l : ℕ) → l ≤ m → j ≤ k → over m j ≤ over l k
over_mono m j k l p q =
    by_cases (dec_lt m j) (λ a. omega (arith, over_one_lem m j a, over_one_lem l k (omega arith))) (λ a. omega (arith, over_none m j (omega arith)))

over_most : (m k : ℕ) → over m k ≤ 1
over_most m k = by_cases (dec_lt m k) (λ a. omega (arith, over_one_lem m k a)) (λ a. omega (arith, over_none m k (omega arith)))

module _ (history : ℕ → ℕ) where
  left_here : (k x : ℕ) → history k ≡ x → left_with history (suc k) x ≡ suc k
  unfolding left_with
  left_here k x e = rw (eq-eqb (history k) x e) refl

  left_there : (k x : ℕ) → history k ≢ x → left_with history (suc k) x ≡ left_with history k x
  unfolding left_with
  left_there k x ne = rw (ne_eqb (history k) x ne) refl

  -- a desk where the task was before its last move was left with a later count
  left_after : (moves x j : ℕ) → j < moves → history j ≡ x → j < left_with history moves x
  left_after zero x j l e = absurd (omega arith)
  left_after (suc k) x j l e =
      by_cases
      (ℕ_discrete (history k) x)
      (λ q. omega (arith, left_here k x q))
      (λ nq.
      by_cases
      (ℕ_discrete j k)
      (λ (z : j ≡ k). absurd (nq (rw (← z) e)))
      (λ nz. omega (arith, left_there k x nq, left_after k x j (omega arith) e)))

  -- .. and with at most the count c, if c is larger than the count of each of its stays there
  left_before : (moves x c : ℕ) → 1 ≤ c → ((j : ℕ) → 1 ≤ j → j < moves → history j ≡ x → j < c) → left_with history moves x ≤ c
  unfolding left_with
  left_before zero x c l f = omega arith
  left_before (suc k) x c l f =
      by_cases
      (ℕ_discrete (history k) x)
      (λ q. by_cases (dec_le 1 k) (λ b. omega (arith, left_here k x q, f k b (omega arith) q)) (λ b. omega (arith, left_here k x q)))
      (λ nq. omega (arith, left_there k x nq, left_before k x c l (λ j u w e. f j u (omega arith) e)))

  left_most : (moves x : ℕ) → left_with history moves x ≤ moves
  unfolding left_with
  left_most zero x = omega arith
  left_most (suc k) x =
      by_cases (ℕ_discrete (history k) x) (λ q. omega (arith, left_here k x q)) (λ nq. omega (arith, left_there k x nq, left_most k x))

-- at most once from each desk
pub forwards_most : (history : ℕ → ℕ) (moves n m : ℕ) → forwards history moves n m ≤ n
unfolding forwards
forwards_most history moves n m =
    omega (arith, sum_at_most 1 n (λ x. over m (left_with history moves (suc x))) (λ x l. over_most m (left_with history moves (suc x))))

-- a forward from desk x, of an offer with count m, by a newer pointer: one desk less
pub forward_falls : {n : ℕ} {history : ℕ → ℕ} {moves at : ℕ} {hints : ℕ → Hint} → Table n history moves at hints
    → (x m : ℕ) → 1 ≤ m → m ≤ moves → x ≡ history m → m < (hints x).moves
    → forwards history moves n (hints x).moves < forwards history moves n m
unfolding forwards
forward_falls {n} {history} {moves} {at} {hints} t zero m l u e s = absurd (omega (arith, t.low m l u))
forward_falls {n} {history} {moves} {at} {hints} t (suc y) m l u e s =
    let c : ℕ = (hints (suc y)).moves in
    let left : ℕ → ℕ = λ z. left_with history moves (suc z) in
    let o : c ≤ moves = (t.right (suc y)).old in
    let high : suc y ≤ n = rw e (t.high m u) in
    let after : m < left y = left_after history moves (suc y) m (omega arith) (sym e) in
    let before : left y ≤ c = left_before history moves (suc y) c (omega arith) (λ j a b (q : history j ≡ suc y). rw (← q) (t.past j a b)) in
    sum_less n (λ z. over c (left z)) (λ z. over m (left z))
    (λ z k. over_mono c (left z) (left z) m (omega arith) (omega arith)) y (omega arith)
    (omega (arith, over_one_lem m (left y) after, over_none c (left y) before))

-- two sums whose parts differ in one place
sum_but_one : (n : ℕ) (f g : ℕ → ℕ) (i : ℕ) → ((x : ℕ) → x ≢ i → f x ≡ g x) → sum_below n f ≤ sum_below n g + f i
unfolding fold
sum_but_one zero f g i h = omega arith
sum_but_one (suc n) f g i h =
    by_cases
    (ℕ_discrete n i)
    (λ (e : n ≡ i). rw (← e) (omega (arith, fold_same ◌+◌ 0 n f g (λ x l. h x (λ q. omega arith)))))
    (λ ne. omega (arith, sum_but_one n f g i h, h n ne))

-- one move more: at most one desk more, and none where the new count is at most m
module _ (history : ℕ → ℕ) (n m : ℕ) where
  forwards_more : (k : ℕ) → forwards history (suc k) n m ≤ forwards history k n m + over m (suc k)
  unfolding forwards
  forwards_more k =
      let i : ℕ = history k - 1 in
      let f : ℕ → ℕ = λ x. over m (left_with history (suc k) (suc x)) in
      let g : ℕ → ℕ = λ x. over m (left_with history k (suc x)) in
      let same : (x : ℕ) → x ≢ i → f x ≡ g x = λ x ne. rw (left_there history k (suc x) (λ q. ne (omega arith))) refl in
      omega (arith, sum_but_one n f g i same, over_mono m (left_with history (suc k) (suc i)) (suc k) m (omega arith) (left_most history (suc k) (suc i)))

-- at most as often as the receiver moved after the offer's count
pub forwards_moves : (history : ℕ → ℕ) (moves n m : ℕ) → forwards history moves n m ≤ moves - m
unfolding forwards left_with
forwards_moves history zero n m = omega (arith, sum_at_most 0 n (λ x. over m 0) (λ x l. omega (arith, over_none m 0 (omega arith))))
forwards_moves history (suc k) n m =
    by_cases
    (dec_le m k)
    (λ l. omega (arith, forwards_moves history k n m, forwards_more history n m k, over_most m (suc k)))
    (λ l. omega (arith, forwards_moves history k n m, forwards_more history n m k, over_none m (suc k) (omega arith)))
