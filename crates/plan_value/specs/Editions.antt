-- What an edition of the plan file allows, and 3 by it: its kinds are an argument of the test of one instruction.
use Rattle.std.specs.Prelude.{Bool, ◌&&◌, ℕ, leb}
use Rattle.plan.specs.declared.Instruction.{Instruction}
use Rattle.plan.specs.RepeatRefusals.{new_instruction_ok}
use Rattle.plan_value.specs.declared.instruction.Edition.{Edition}

-- "Kinds: 1 create .. 7 add"
abbrev pub present_edition : Edition
present_edition = record { kinds = 7 }

-- the kinds of plan/specs/Repeats as well
abbrev pub new_edition : Edition
new_edition = record { kinds = 9 }

-- "3, kind unknown, second byte not zero, or argument out of range", in a plan of n tasks
abbrev pub allowed : Edition → ℕ → Instruction → Bool
allowed e n x = leb x.opcode e.kinds && new_instruction_ok n x
