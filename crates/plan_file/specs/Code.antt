-- The instructions behind a header, which stand one behind the other: the programs that they are, and the slots that they are read into.
use Rattle.std.specs.Prelude.{List, ℕ, ◌+◌, ◌*◌, get_or, ltb}
use Rattle.base.specs.Choice.{pick}
use Rattle.base.specs.Range.{sum_below}
use Rattle.base.specs.Lists.{table}
use Rattle.plan.specs.Programs.{Programs, code_of, in_slot}
use Rattle.plan.specs.Files.{file_instruction}

-- where task k + 1's instruction i + 1 stands, of tasks with these counts
abbrev pub code_place : List ℕ → ℕ → ℕ → ℕ
code_place lengths k i = 4 * (sum_below k (λ j. get_or lengths j 0) + i)

-- the programs of n tasks with these counts
unfoldable pub programs_in : List ℕ → ℕ → List ℕ → Programs
programs_in b n lengths = table n (λ k. table (get_or lengths k 0) (λ i. file_instruction b (code_place lengths k i)))

-- the first s slots of the plan value of some programs, and nothing behind them
abbrev pub codes_to : Programs → ℕ → List ℕ
codes_to m s = table 4096 (λ j. pick (ltb j s) (code_of (in_slot m j)) 0)
