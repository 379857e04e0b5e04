-- "a program writes a plan and a step file for three desks in which one offer is forwarded exactly m times and the rig then comes to rest": a plan
-- that is the same for every m, and steps in m rounds.
use Rattle.std.specs.Prelude.{List, [], ◌∷◌, ◌++◌, ℕ, ◌+◌, ◌%◌}
use Rattle.base.specs.Range.{joined}
use Rattle.plan.specs.declared.Instruction.{Instruction}
use Rattle.plan.specs.Kinds.{op_create, op_finish, op_send, op_receive}
use Rattle.plan.specs.Programs.{Programs}
use Rattle.plan.specs.Layout.{layout}
use Rattle.rules.specs.declared.step.Step.{Step}
use Rattle.rules.specs.Steps.{run_step, deliver_step, move_step}
pub use Rattle.rules.specs.StepFiles.{step_bytes}

-- an instruction that names no level
abbrev pub instruction : ℕ → ℕ → Instruction
instruction k a = record { opcode = k; level = 0; operand = a }

-- task 1: create 2, send 1, finish; task 2: receive 1, finish
abbrev pub chase_programs : Programs
chase_programs =
    (instruction op_create 2 ∷ instruction op_send 1 ∷ instruction op_finish 0 ∷ []) ∷ (instruction op_receive 1 ∷ instruction op_finish 0 ∷ []) ∷ []

-- their plan file, of 32 bytes
unfoldable pub chase_plan : List ℕ
chase_plan = layout chase_programs

-- task 2 is born, leaves for desk 2, and task 1's offer is sent after it
abbrev pub opening : List Step
opening = run_step 1 ∷ move_step 2 2 ∷ run_step 1 ∷ []

-- where task 2 and the offer are on their way to after k forwards: desks 2 and 3 in turn
abbrev pub desk_after : ℕ → ℕ
desk_after k = 2 + k % 2

-- the round after k forwards: task 2 arrives, leaves for the other desk, and the offer is forwarded there
abbrev pub round : ℕ → List Step
round k = deliver_step 1 ∷ move_step 2 (desk_after (k + 1)) ∷ deliver_step 1 ∷ []

-- task 2 arrives and receives; the offer is answered, the call and the word are delivered; task 2 finishes, its ended letter is delivered, and task 1
-- finishes
abbrev pub ending : List Step
ending = deliver_step 1 ∷ run_step 2 ∷ deliver_step 1 ∷ deliver_step 1 ∷ deliver_step 1 ∷ run_step 2 ∷ deliver_step 1 ∷ run_step 1 ∷ []

-- 3 m + 11 steps
unfoldable pub chase_steps : ℕ → List Step
chase_steps m = opening ++ (joined m round ++ ending)

-- the file of a list of steps
unfoldable pub step_file : List Step → List ℕ
step_file [] = []
step_file (s ∷ ss) = step_bytes s ++ step_file ss

abbrev pub chase_file : ℕ → List ℕ
chase_file m = step_file (chase_steps m)
