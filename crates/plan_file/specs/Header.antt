-- What the header of a file is read as.
use Rattle.std.specs.Prelude.{Bool, true, false, Option, Some, None, ◌&&◌, List, ℕ, ◌+◌, ◌*◌, replicate, ltb, eqb}
use Rattle.base.specs.Choice.{pick}
use Rattle.base.specs.Range.{below}
use Rattle.base.specs.Lists.{table}
use Rattle.plan.specs.Layout.{offset_due}
use Rattle.plan.specs.Refusals.{size_ok}
use Rattle.plan.specs.Files.{file_tasks, file_count, file_offset, layout_ok}
use Rattle.plan_file.specs.declared.header.Header.{Header}
use Rattle.plan_file.specs.declared.header.Entries.{Entries}

abbrev pub no_header : Header
no_header = record { ok = false; size = 0; tasks = 0; lengths = replicate 64 0 }

-- the counts of the first n tasks, and nothing behind them
abbrev pub counts_to : List ℕ → ℕ → List ℕ
counts_to b n = table 64 (λ k. pick (ltb k n) (file_count b k) 0)

-- the entry of task k + 1 of n is in order
abbrev pub entry_fits : List ℕ → ℕ → ℕ → Bool
entry_fits b n k = size_ok (file_count b k) && eqb (file_offset b k) (offset_due n (file_count b) k)

-- the entries of n tasks, where they are in order: where the last one ends, and their counts
abbrev pub entries_of : List ℕ → ℕ → Option Entries
entries_of b n =
    pick (below n (entry_fits b n))
    (Some (record { end = offset_due n (file_count b) n; lengths = counts_to b n }))
    None

-- what a header that is in order says
abbrev pub good_header : List ℕ → Header
good_header b = record { ok = true; size = 4 + 4 * file_tasks b; tasks = file_tasks b; lengths = counts_to b (file_tasks b) }

unfoldable pub header_of : List ℕ → Header
header_of b = pick (layout_ok b) (good_header b) no_header
