-- What a plan means: for each task in order the list of its instructions, its program. And the plan value with that meaning whose
-- unused slots are zero.
use Rattle.std.specs.Prelude.{ℕ, ◌+◌, ◌*◌, ◌/◌, ◌%◌, List, [], length, slice_index, slice_index_or}
use Rattle.base.specs.Lists.{table}
use Rattle.plan.specs.declared.Instruction.{Instruction}
use Rattle.plan.specs.declared.Plan.{Plan}
use Rattle.plan.specs.Kinds.{no_instruction}

abbrev pub Program : Type 0
Program = List Instruction

abbrev pub Programs : Type 0
Programs = List Program

-- the program of task k + 1, and its instruction i + 1
abbrev pub program_at : Programs → ℕ → Program
program_at m k = slice_index_or m k []

abbrev pub instruction_at : Program → ℕ → Instruction
instruction_at g i = slice_index_or g i no_instruction

-- an instruction as one number: its four bytes, little-endian; and the instruction of such a number
abbrev pub code_of : Instruction → ℕ
code_of i = i.opcode + 256 * i.level + 65536 * i.operand

abbrev pub instruction_of : ℕ → Instruction
instruction_of code = record { opcode = code % 256; level = code / 256 % 256; operand = code / 65536 }

-- the instruction in slot s of a plan value; 64 tasks of 64 instructions: task k + 1's instruction i + 1 is in slot 64 k + i
abbrev pub slot_of : Plan → ℕ → Instruction
slot_of p s = instruction_of (slice_index p.codes s)

abbrev pub program_of : Plan → ℕ → Program
program_of p k = table (slice_index p.lengths k) (λ i. slot_of p (64 * k + i))

-- the meaning of a plan value
unfoldable pub programs : Plan → Programs
programs p = table p.tasks (program_of p)

-- the instruction that belongs in slot s
abbrev pub in_slot : Programs → ℕ → Instruction
in_slot m s = instruction_at (program_at m (s / 64)) (s % 64)

-- the plan value of up to 64 programs of up to 64 instructions, with nothing in its unused slots
unfoldable pub canonical : Programs → Plan
canonical m =
    record {
      tasks = length m;
      lengths = table 64 (λ k. length (program_at m k));
      codes = table 4096 (λ s. code_of (in_slot m s));
    }
