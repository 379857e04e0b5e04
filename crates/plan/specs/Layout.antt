-- The file of a plan, as bytes.
use Rattle.std.specs.Prelude.{ℕ, ◌+◌, ◌*◌, ◌/◌, ◌%◌, List, [], ◌∷◌, ◌++◌, length}
use Rattle.base.specs.Range.{sum_below, joined}
use Rattle.plan.specs.declared.Instruction.{Instruction}
use Rattle.plan.specs.Programs.{Program, Programs, program_at, instruction_at}

-- "All fields are little-endian": a 16-bit field
abbrev pub bytes16 : ℕ → List ℕ
bytes16 n = n % 256 ∷ n / 256 ∷ []

-- "Offsets follow without gaps: task 1 at 4 + 4T, each next one after 4 × the count before": the offset of task k + 1 of n tasks with
-- these counts
abbrev pub offset_due : ℕ → (ℕ → ℕ) → ℕ → ℕ
offset_due n counts k = 4 + 4 * n + 4 * sum_below k counts

-- how many instructions task k + 1 has
abbrev pub count_of : Programs → ℕ → ℕ
count_of m k = length (program_at m k)

-- "N (.. instructions in all)"
abbrev pub total_of : Programs → ℕ
total_of m = sum_below (length m) (count_of m)

-- "for each task in order the byte offset of its first instruction and its count (16 bits each)"
abbrev pub head_bytes : Programs → ℕ → List ℕ
head_bytes m k = bytes16 (offset_due (length m) (count_of m) k) ++ bytes16 (count_of m k)

-- "instructions of 4 bytes: kind, a zero byte, a 16-bit argument"; "The second byte of set and add, 0 to 3, says which one is meant"
abbrev pub instruction_bytes : Instruction → List ℕ
instruction_bytes i = i.opcode ∷ i.level ∷ bytes16 i.operand

abbrev pub code_bytes : Program → List ℕ
code_bytes g = joined (length g) (λ i. instruction_bytes (instruction_at g i))

-- "A header of counts and offsets: T (16 bits, tasks), N (16 bits, instructions in all), then for each task .. Then N instructions"
unfoldable pub layout : Programs → List ℕ
layout m =
    (bytes16 (length m) ++ bytes16 (total_of m)) ++ (joined (length m) (head_bytes m) ++ joined (length m) (λ k. code_bytes (program_at m k)))
