-- A file read: its fields, the programs that it holds, and when it is refused.
use Rattle.std.specs.Prelude.{ℕ, ◌+◌, ◌*◌, Bool, ◌&&◌, List, length, ◌==◌, nat_le, slice_index, Err}
use Rattle.base.specs.Choice.{unless, within}
use Rattle.base.specs.Range.{below, sum_below}
use Rattle.base.specs.Lists.{table}
use Rattle.plan.specs.declared.Instruction.{Instruction}
use Rattle.plan.specs.Answers.{PlanAnswer}
use Rattle.plan.specs.declared.Refusal.TheVariants.{BadProcessors, BadLayout, BadInstruction}
use Rattle.plan.specs.Programs.{Program, Programs}
use Rattle.plan.specs.Layout.{offset_due}
use Rattle.plan.specs.Refusals.{size_ok, instructions_ok, structure_answer}

-- the byte at a place, 0 behind the end
abbrev pub byte_at : List ℕ → ℕ → ℕ
byte_at b at = slice_index b at

-- "All fields are little-endian": the 16-bit field at a place
abbrev pub word16 : List ℕ → ℕ → ℕ
word16 b at = byte_at b at + 256 * byte_at b (at + 1)

-- "T (16 bits, tasks), N (16 bits, instructions in all)"
abbrev pub file_tasks : List ℕ → ℕ
file_tasks b = word16 b 0

abbrev pub file_total : List ℕ → ℕ
file_total b = word16 b 2

-- "then for each task in order the byte offset of its first instruction and its count (16 bits each)": of task k + 1
abbrev pub file_offset : List ℕ → ℕ → ℕ
file_offset b k = word16 b (4 + 4 * k)

abbrev pub file_count : List ℕ → ℕ → ℕ
file_count b k = word16 b (6 + 4 * k)

-- the count of task k + 1 is in range; its offset is where the tasks before it end
abbrev pub count_ok : List ℕ → ℕ → Bool
count_ok b k = size_ok (file_count b k)

abbrev pub offset_ok : List ℕ → ℕ → Bool
offset_ok b k = file_offset b k == offset_due (file_tasks b) (file_count b) k

-- "2, under 4 bytes, T or a count out of range, N not the counts' sum, a wrong offset or length"
unfoldable pub layout_ok : List ℕ → Bool
layout_ok b =
    nat_le 4 (length b)
    && (size_ok (file_tasks b)
    && (below (file_tasks b) (count_ok b)
    && (file_total b == sum_below (file_tasks b) (file_count b)
    && (below (file_tasks b) (offset_ok b)
    && length b == 4 + 4 * file_tasks b + 4 * file_total b))))

-- "instructions of 4 bytes: kind, a zero byte, a 16-bit argument"; "The second byte of set and add, 0 to 3, says which one is meant": the
-- instruction at a place
abbrev pub file_instruction : List ℕ → ℕ → Instruction
file_instruction b at = record { opcode = byte_at b at; level = byte_at b (at + 1); operand = word16 b (at + 2) }

-- the place of task k + 1's instruction i + 1
abbrev pub place_of : List ℕ → ℕ → ℕ → ℕ
place_of b k i = file_offset b k + 4 * i

-- the program of task k + 1, and the programs of a file
abbrev pub file_program : List ℕ → ℕ → Program
file_program b k = table (file_count b k) (λ i. file_instruction b (place_of b k i))

unfoldable pub file_programs : List ℕ → Programs
file_programs b = table (file_tasks b) (file_program b)

-- refusals 2 to 6 of a file
unfoldable pub file_answer : List ℕ → PlanAnswer
file_answer b =
    unless (layout_ok b) (Err BadLayout)
    (unless (instructions_ok (file_programs b)) (Err BadInstruction)
    (structure_answer (file_programs b)))

-- "Start: 1, desks not 1..6", then 2 to 6
unfoldable pub start_answer : ℕ → List ℕ → PlanAnswer
start_answer n b = unless (within 1 6 n) (Err BadProcessors) (file_answer b)
