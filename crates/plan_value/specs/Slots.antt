-- The slots of a plan value.
use Rattle.std.specs.Prelude.{List, ℕ, get_or}
use Rattle.plan.specs.declared.Instruction.{Instruction}
use Rattle.plan.specs.declared.Plan.{Plan}
use Rattle.plan.specs.Programs.{instruction_of}

-- slot s of these
abbrev pub slot_in : List ℕ → ℕ → Instruction
slot_in codes s = instruction_of (get_or codes s 0)

-- the plan value of n tasks with these slots
abbrev pub plan_in : ℕ → List ℕ → List ℕ → Plan
plan_in n lengths codes = record { tasks = n; lengths = lengths; codes = codes }
