-- The sizes in a plan value.
use Rattle.std.specs.Prelude.{Bool, ◌&&◌, List, ℕ, get_or}
use Rattle.base.specs.Range.{below}
use Rattle.plan.specs.Refusals.{size_ok}

-- the count of task k + 1 is in range
abbrev pub count_fits : List ℕ → ℕ → Bool
count_fits lengths k = size_ok (get_or lengths k 0)

-- T and the first T counts are in range
abbrev pub sizes_in : ℕ → List ℕ → Bool
sizes_in n lengths = size_ok n && below n (count_fits lengths)
