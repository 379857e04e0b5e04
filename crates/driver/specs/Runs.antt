-- The exported run: its answer, the output then, and demand 3 of the run whose lines are written.
use Rattle.std.specs.Prelude.{◌≡◌, ◌≢◌, List, [], ◌∷◌, ◌++◌, ℕ, ◌+◌, ◌*◌, ◌≤◌, length, drop, Ok, Err}
use Rattle.plan.specs.Files.{file_programs, start_answer}
use Rattle.plan.specs.Programs.{canonical}
use Rattle.rules.specs.declared.step.RunRefusal.TheVariants.{OutputShort}
use Rattle.rules.specs.Answers.{run_number}
use Rattle.rules.specs.Trace.{step_lines, over_lines, end_line}
use Rattle.rules.specs.StepFiles.{file_steps, text, run_file_answer, run_file_text, run_file_output}
use Rattle.trace.specs.Bounds.{longest_trace}
use Rattle.claim.specs.Statement.{Demand3, from}

-- 0 or the refusal's number, and 256 times the number of bytes that are filled
abbrev pub packed : ℕ → ℕ → ℕ
packed number filled = number + 256 * filled

-- as many bytes hold every trace
abbrev pub enough : ℕ
enough = longest_trace

unfoldable pub run_outcome : ℕ → List ℕ → List ℕ → List ℕ → ℕ
run_outcome n p b out = packed (run_number (run_file_answer n p b out)) (length (run_file_text n p b out))

-- the lines of the reports that demand 3 speaks of, and those of the rig that it speaks of
abbrev pub trace_text : ℕ → List ℕ → List ℕ → List ℕ
trace_text n p b =
    let h = from n (canonical (file_programs p)) (file_steps b) in
    text (step_lines 0 h.reports ++ (over_lines h.system ++ (end_line h.system ∷ [])))

-- a run answered and wrote so: `outcome` and `bytes` hold of every call, and `room` says that an output of `enough` bytes is not refused by 20.
-- Where the plan is accepted, `demand_3` is the claim about this plan on these desks and these steps; and where the run is, the output holds
-- just the lines of the reports that the claim is about
pub record RunMeets (n : ℕ) (p b before : List ℕ) (r : ℕ) (after : List ℕ) : Type 0 where
  pub outcome : r ≡ run_outcome n p b before
  pub bytes : after ≡ run_file_output n p b before
  pub room : enough ≤ length before → run_file_answer n p b before ≢ Err OutputShort
  pub demand_3 : start_answer n p ≡ Ok tt → Demand3 n (canonical (file_programs p)) (file_steps b)
  pub lines : run_file_answer n p b before ≡ Ok tt → after ≡ trace_text n p b ++ drop (length (trace_text n p b)) before
