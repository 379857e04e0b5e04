-- A place of a list that others leave and join: the element that is there, and how many up to it pass a test.
use mathlib.Core.Path.{◌≡◌, refl, sym, ◌∙◌, ap}
use mathlib.Core.Bool.{Bool, true}
use mathlib.Core.List.{List, [], ◌∷◌, ◌++◌}
use mathlib.Core.Logic.{◌≢◌, by_cases}
use Prim.Native.Nat.{ℕ, suc, ◌+◌, ◌-◌, ◌<◌, ◌≤◌}
use native.Mathlib.Omega.{arith}
use native.Mathlib.Decide.{ℕ_discrete, dec_lt}
use lib.ListN.{length, get_or, take, drop, length-append, length-drop}
use lib.Seq.{take-suc, take-append-le, take-append-add, get_or-append-add, get_or-take, split_at, length-take-le}
use borrow.Author.Tests.{eq-eqb, ne_eqb, lt-ltb, le-ltb}
use Rattle.base.specs.Choice.{pick}
use Rattle.base.specs.Lists.{count}
use Rattle.base.proofs.Counts.{count_append}
use Rattle.claim.specs.Letters.{position_without}

module _ {A : Type 0} (test : A → Bool) (z : A) where
  -- position j of ys has the element of position k of xs, and at least `less` fewer up to it pass
  pub record Stands (less : ℕ) (xs : List A) (k : ℕ) (ys : List A) (j : ℕ) : Type 0 where
    pub some : 1 ≤ j
    pub there : j ≤ length ys
    pub same : get_or ys (j - 1) z ≡ get_or xs (k - 1) z
    pub fewer : count test (take j ys) + less ≤ count test (take k xs)

  pub stands_itself : (xs : List A) (k : ℕ) → 1 ≤ k → k ≤ length xs → Stands 0 xs k xs k
  stands_itself xs k some there = record { some = some; there = there; same = refl; fewer = omega arith }

  pub stands_then : {a b : ℕ} {xs ys zs : List A} {k j i : ℕ} → Stands a xs k ys j → Stands b ys j zs i → Stands (a + b) xs k zs i
  stands_then f g =
      record { some = g.some; there = g.there; same = g.same ∙ f.same; fewer = omega (arith, f.fewer, g.fewer) }

  -- more at the end
  pub stands_joined : (xs ys : List A) (k : ℕ) → 1 ≤ k → k ≤ length xs → Stands 0 xs k (xs ++ ys) k
  stands_joined xs ys k some there =
      record {
        some = some;
        there = omega (arith, length-append xs ys);
        same =
            sym (get_or-take k (xs ++ ys) (k - 1) z (omega arith)) ∙ ap (λ (l : List A). get_or l (k - 1) z) (take-append-le k xs ys there)
            ∙ get_or-take k xs (k - 1) z (omega arith);
        fewer = rw (take-append-le k xs ys there) (omega arith);
      }

  -- the element after xs leaves
  module _ (xs : List A) (y : A) (zs : List A) where
    stands_before : (k : ℕ) → 1 ≤ k → k ≤ length xs → Stands 0 (xs ++ y ∷ zs) k (xs ++ zs) k
    stands_before k some there =
        record {
          some = some;
          there = omega (arith, length-append xs zs);
          same = (stands_joined xs zs k some there).same ∙ sym (stands_joined xs (y ∷ zs) k some there).same;
          fewer = rw (take-append-le k xs zs there, take-append-le k xs (y ∷ zs) there) (omega arith);
        }

    stands_behind : (i : ℕ) → suc i ≤ length zs → Stands (pick (test y) 1 0) (xs ++ y ∷ zs) (length xs + suc (suc i)) (xs ++ zs) (length xs + suc i)
    unfolding count
    stands_behind i there =
        let one : length xs + suc i - 1 ≡ length xs + i = omega arith in
        let two : length xs + suc (suc i) - 1 ≡ length xs + suc i = omega arith in
        record {
          some = omega arith;
          there = omega (arith, length-append xs zs);
          same = rw (one, two) (get_or-append-add xs zs i z ∙ sym (get_or-append-add xs (y ∷ zs) (suc i) z));
          fewer =
              rw (
                take-append-add xs zs (suc i),
                take-append-add xs (y ∷ zs) (suc (suc i)),
                count_append test xs (take (suc i) zs),
                count_append test xs (y ∷ take (suc i) zs),
              )
              (omega arith);
        }

  -- the element at position j leaves
  module _ (xs : List A) (j k : ℕ) (low : 1 ≤ j) (high : j ≤ length xs) (some : 1 ≤ k) (there : k ≤ length xs) where
    abbrev rest : List A
    rest = take (j - 1) xs ++ drop j xs

    abbrev gone : A
    gone = get_or xs (j - 1) z

    split : take (j - 1) xs ++ gone ∷ drop j xs ≡ xs
    split =
        let e : suc (j - 1) ≡ j = omega arith in
        sym (rw e at (split_at xs (j - 1) z (omega arith)))

    size : length (take (j - 1) xs) ≡ j - 1
    size = length-take-le (j - 1) xs (omega arith)

    before : k < j → Stands 0 xs k rest k
    before l = rw split at (stands_before (take (j - 1) xs) gone (drop j xs) k some (omega (arith, size)))

    behind : j < k → Stands (pick (test gone) 1 0) xs k rest (k - 1)
    behind l =
        let i = k - j - 1 in
        let from : length (take (j - 1) xs) + suc (suc i) ≡ k = omega (arith, size) in
        let to : length (take (j - 1) xs) + suc i ≡ k - 1 = omega (arith, size) in
        rw (from, to, split) at (stands_behind (take (j - 1) xs) gone (drop j xs) i (omega (arith, length-drop j xs)))

    -- where it passes the test and stands before
    pub stands_fewer : test gone ≡ true → j < k → Stands 1 xs k rest (position_without j k)
    stands_fewer passes l = rw (ne_eqb j k (λ e. omega arith), lt-ltb j k l) (rw passes at (behind l))

    -- wherever it stands
    pub stands_left : position_without j k ≢ 0 → Stands 0 xs k rest (position_without j k)
    stands_left ne =
        by_cases
        (ℕ_discrete j k)
        (λ (e : j ≡ k). absurd (ne (rw (eq-eqb j k e) refl)))
        (λ other.
        by_cases
        (dec_lt j k)
        (λ l.
        let b = behind l in
        rw (ne_eqb j k other, lt-ltb j k l) (record { some = b.some; there = b.there; same = b.same; fewer = omega (arith, b.fewer) }))
        (λ l. rw (ne_eqb j k other, le-ltb j k (omega arith)) (before (omega (arith, other)))))

  -- one that passes counts
  pub one_passes : (xs : List A) (k : ℕ) → 1 ≤ k → k ≤ length xs → test (get_or xs (k - 1) z) ≡ true → 1 ≤ count test (take k xs)
  unfolding count
  one_passes xs k some there passes =
      let e : suc (k - 1) ≡ k = omega arith in
      let s : take k xs ≡ take (k - 1) xs ++ (get_or xs (k - 1) z ∷ []) = rw e at (take-suc xs (k - 1) z (omega arith)) in
      let c : count test (get_or xs (k - 1) z ∷ []) ≡ 1 = rw passes refl in
      rw s (omega (arith, count_append test (take (k - 1) xs) (get_or xs (k - 1) z ∷ []), c))
