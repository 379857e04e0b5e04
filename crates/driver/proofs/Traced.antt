-- The output of an accepted run holds the lines of the reports that demand 3 speaks of.
use mathlib.Core.Path.{◌≡◌, refl}
use mathlib.Core.List.{List, ◌++◌}
use Prim.Native.Nat.{ℕ}
use lib.ListN.{length, drop}
use Rattle.std.specs.Prelude.{Ok}
use Rattle.rules.specs.StepFiles.{start_of, trace_lines, run_file_answer, run_file_text, run_file_output}
use Rattle.driver.specs.Runs.{trace_text}

pub output_lines : (n : ℕ) (p b before : List ℕ) → run_file_answer n p b before ≡ Ok tt
    → run_file_output n p b before ≡ trace_text n p b ++ drop (length (trace_text n p b)) before
unfolding run_file_output run_file_text trace_lines start_of
output_lines n p b before h = rw h refl
