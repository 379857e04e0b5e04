-- The laws of a growing step file, and of refused steps left out, used: a plan of one task, set 7 and finish; steps run 1, deliver 1, which is
-- refused, and run 1 again.
use mathlib.Core.Path.{◌≡◌, refl}
use mathlib.Core.Bool.{false}
use mathlib.Core.List.{List, [], ◌∷◌, ◌++◌}
use Prim.Native.Nat.{ℕ}
use lib.ListN.{replicate}
use Rattle.std.specs.Prelude.{Ok}
use Rattle.base.specs.Beginnings.{Beginning}
use Rattle.rules.specs.declared.step.Step.{Step}
use Rattle.rules.specs.declared.system.System.{System}
use Rattle.rules.specs.Answers.{is_accepted}
use Rattle.rules.specs.Steps.{step_answer, run_step, steps}
use Rattle.rules.specs.StepFiles.{file_steps, start_of, text, run_file_answer, run_file_text}
use Rattle.rules.proofs.Evaluated.{evaluated}
use Rattle.trace.specs.Growing.{lines_of, LeftOut, accepted_steps}
use Rattle.trace.proofs.Growing.{file_of_prefix, refused_steps_left_out}

-- T 1, N 2, the task at byte 8 with 2 instructions
abbrev plan_file : List ℕ
plan_file = 1 ∷ 0 ∷ 2 ∷ 0 ∷ 8 ∷ 0 ∷ 2 ∷ 0 ∷ 6 ∷ 0 ∷ 7 ∷ 0 ∷ 3 ∷ 0 ∷ 0 ∷ 0 ∷ []

-- run 1, deliver 1; then run 1
abbrev two_steps : List ℕ
two_steps = 1 ∷ 1 ∷ 0 ∷ 0 ∷ 2 ∷ 0 ∷ 1 ∷ 0 ∷ []

abbrev one_more : List ℕ
one_more = 1 ∷ 1 ∷ 0 ∷ 0 ∷ []

abbrev room : List ℕ
room = replicate 64 0

-- both runs are answered 0
two_run : run_file_answer 1 plan_file two_steps room ≡ Ok tt
unfolding evaluated
two_run = refl

three_run : run_file_answer 1 plan_file (two_steps ++ one_more) room ≡ Ok tt
unfolding evaluated
three_run = refl

-- the lines `1 0` and `2 14`
abbrev two_lines : List ℕ
two_lines = 49 ∷ 32 ∷ 48 ∷ 10 ∷ 50 ∷ 32 ∷ 49 ∷ 52 ∷ 10 ∷ []

two_lines_lem : text (lines_of (start_of 1 plan_file) (file_steps two_steps)) ≡ two_lines
unfolding evaluated
two_lines_lem = refl

-- so that the longer trace begins with them, and not with the `end 0 0` behind them
pub begins : Beginning two_lines (run_file_text 1 plan_file (two_steps ++ one_more) room)
begins = rw two_lines_lem at (file_of_prefix 1 plan_file two_steps one_more room room two_run three_run).bytes

-- the delivery is refused, and may be left out
abbrev start : System
start = start_of 1 plan_file

abbrev deliver_one : Step
deliver_one = record { kind = 2; task = 0; number = 1 }

refused_there : is_accepted (step_answer (steps start (run_step 1 ∷ [])).system deliver_one) ≡ false
unfolding evaluated
refused_there = refl

pub left_out : LeftOut start (run_step 1 ∷ []) deliver_one (run_step 1 ∷ [])
left_out = refused_steps_left_out start (run_step 1 ∷ []) deliver_one (run_step 1 ∷ []) refused_there

-- the accepted steps are the two runs
pub two_runs : accepted_steps start (file_steps (two_steps ++ one_more)) ≡ run_step 1 ∷ run_step 1 ∷ []
unfolding evaluated accepted_steps
two_runs = refl
