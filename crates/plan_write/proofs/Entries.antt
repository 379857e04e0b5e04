-- The header's entries put one by one: how long they are, how large their fields, and one entry more.
use mathlib.Core.Path.{◌≡◌, ◌∙◌, ap}
use mathlib.Core.List.{List, [], ◌++◌, append_assoc}
use Prim.Native.Nat.{ℕ, ◌+◌, ◌*◌, ◌≤◌, ◌<◌}
use native.Mathlib.Omega.{arith}
use lib.ListN.{length, get_or, length-append}
use Rattle.base.specs.Range.{joined}
use Rattle.base.proofs.Folds.{fold_none, fold_more}
use Rattle.base.proofs.Joins.{part_of_sum, length_joined}
use Rattle.base.proofs.Sums.{sum_const}
use Rattle.plan.specs.Layout.{bytes16, offset_due}
use Rattle.plan_write.specs.output.Output.{overlay}
use Rattle.plan_write.proofs.output.Overlay.{overlay_none, overlay_more, length_overlay}
use Rattle.plan_write.specs.Header.{total_in, entry_bytes}

pub total_none : (lengths : List ℕ) → total_in lengths 0 ≡ 0
total_none lengths = fold_none ◌+◌ 0 (λ k. get_or lengths k 0)

pub total_more : (lengths : List ℕ) (k : ℕ) → total_in lengths (k + 1) ≡ total_in lengths k + get_or lengths k 0
total_more lengths k = fold_more ◌+◌ 0 k (λ j. get_or lengths j 0)

module _ (lengths : List ℕ) (n : ℕ) where
  pub length_entries : (k : ℕ) → length (joined k (entry_bytes lengths n)) ≡ 4 * k
  length_entries k = length_joined k (entry_bytes lengths n) ∙ sum_const 4 k

  -- the k-th part is in the whole
  pub total_part : (k : ℕ) → k < n → total_in lengths k + get_or lengths k 0 ≤ total_in lengths n
  total_part k h = part_of_sum n (λ j. get_or lengths j 0) k h

  pub due_none : offset_due n (λ j. get_or lengths j 0) 0 ≡ 4 + 4 * n
  due_none = omega (arith, total_none lengths)

  pub due_more : (k : ℕ) → offset_due n (λ j. get_or lengths j 0) (k + 1) ≡ offset_due n (λ j. get_or lengths j 0) k + 4 * get_or lengths k 0
  due_more k = omega (arith, total_more lengths k)

  module _ (out : List ℕ) where
    pub entries_none : overlay out 4 (joined 0 (entry_bytes lengths n)) ≡ out
    entries_none = rw (fold_none ◌++◌ [] (entry_bytes lengths n)) (overlay_none out 4)

    -- the output stays as long
    pub entries_length : (k : ℕ) → 4 + 4 * k ≤ length out → length (overlay out 4 (joined k (entry_bytes lengths n))) ≡ length out
    entries_length k h = length_overlay out 4 (joined k (entry_bytes lengths n)) (rw (length_entries k) h)

    pub entries_step : (k end count : ℕ) (now mid after : List ℕ) → 4 ≤ length out → now ≡ overlay out 4 (joined k (entry_bytes lengths n))
        → end ≡ offset_due n (λ j. get_or lengths j 0) k → count ≡ get_or lengths k 0
        → mid ≡ overlay now (4 + 4 * k) (bytes16 end) → after ≡ overlay mid (6 + 4 * k) (bytes16 count)
        → after ≡ overlay out 4 (joined (k + 1) (entry_bytes lengths n))
    entries_step k end count now mid after h e d l p q =
        let xs = joined k (entry_bytes lengths n) in
        let long : 4 + 4 * k ≡ 4 + length xs = omega (arith, length_entries k) in
        let first : mid ≡ overlay out 4 (xs ++ bytes16 end) = p ∙ rw (e, long) (overlay_more out 4 xs (bytes16 end) h) in
        let longer : 6 + 4 * k ≡ 4 + length (xs ++ bytes16 end) = omega (arith, length_entries k, length-append xs (bytes16 end)) in
        let second : after ≡ overlay out 4 ((xs ++ bytes16 end) ++ bytes16 count) =
        q ∙ rw (first, longer) (overlay_more out 4 (xs ++ bytes16 end) (bytes16 count) h) in
        rw (fold_more ◌++◌ [] k (entry_bytes lengths n), ← d, ← l) (second ∙ ap (overlay out 4) (append_assoc xs (bytes16 end) (bytes16 count)))
