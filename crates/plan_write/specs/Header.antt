-- The entries of a header, from the counts in a plan value.
use Rattle.std.specs.Prelude.{List, ◌++◌, ℕ, get_or}
use Rattle.base.specs.Range.{joined, sum_below}
use Rattle.plan.specs.Layout.{bytes16, offset_due}

-- how many instructions the first n tasks have
abbrev pub total_in : List ℕ → ℕ → ℕ
total_in lengths n = sum_below n (λ k. get_or lengths k 0)

-- the header entries of n tasks with these counts
abbrev pub entry_bytes : List ℕ → ℕ → ℕ → List ℕ
entry_bytes lengths n k = bytes16 (offset_due n (λ j. get_or lengths j 0) k) ++ bytes16 (get_or lengths k 0)

abbrev pub entries_bytes : List ℕ → ℕ → List ℕ
entries_bytes lengths n = joined n (entry_bytes lengths n)
