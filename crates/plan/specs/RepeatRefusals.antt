-- When a file of the new edition is refused.
use Rattle.std.specs.Prelude.{ℕ, Bool, true, false, not, ◌&&◌, List, [], ◌∷◌, length, ◌==◌, nat_le, Err}
use Rattle.base.specs.Choice.{pick, unless, within}
use Rattle.base.specs.Lists.{every}
use Rattle.plan.specs.declared.Instruction.{Instruction}
use Rattle.plan.specs.Answers.{PlanAnswer}
use Rattle.plan.specs.declared.Refusal.TheVariants.{BadLayout, BadInstruction, BadRepeat, RepeatedCreate, TooLong}
use Rattle.plan.specs.Kinds.{op_create}
use Rattle.plan.specs.Programs.{Program, Programs}
use Rattle.plan.specs.Refusals.{instruction_ok, structure_answer}
use Rattle.plan.specs.Files.{layout_ok, file_programs}
use Rattle.plan.specs.Repeats.{is_repeat, is_repeat_end, written_out, written_out_plan}

-- "refusals 2 and 3 with the two kinds allowed": a repeat and its end with the arguments that specs/Repeats gives them; the second byte is "for other kinds"
-- than set and add zero
unfoldable pub new_instruction_ok : ℕ → Instruction → Bool
new_instruction_ok n i =
    pick (is_repeat i) (i.level == 0 && within 1 64 i.operand)
    (pick (is_repeat_end i) (i.level == 0 && i.operand == 0)
    (instruction_ok n i))

unfoldable pub new_instructions_ok : Programs → Bool
new_instructions_ok m = every (every (new_instruction_ok (length m))) m

-- whether one is within a repeat behind instruction i, by whether one is before it
abbrev pub inside_after : Bool → Instruction → Bool
inside_after inside i = pick (is_repeat i) true (pick (is_repeat_end i) false inside)

-- "21 a repeat or end nested or unpaired in its task": a repeat stands outside, an end within one, and the last instruction leaves none
abbrev pub marks_fit : Bool → Instruction → Bool
marks_fit inside i = pick (is_repeat i) (not inside) (pick (is_repeat_end i) inside true)

unfoldable pub paired_from : Bool → Program → Bool
paired_from inside [] = not inside
paired_from inside (i ∷ g) = marks_fit inside i && paired_from (inside_after inside i) g

-- "22 a create within a repeat"
unfoldable pub creates_from : Bool → Program → Bool
creates_from inside [] = true
creates_from inside (i ∷ g) = not (inside && i.opcode == op_create) && creates_from (inside_after inside i) g

unfoldable pub paired_ok : Programs → Bool
paired_ok m = every (paired_from false) m

unfoldable pub repeated_ok : Programs → Bool
repeated_ok m = every (creates_from false) m

-- "23 a task over 64 instructions when written out"
unfoldable pub lengths_ok : Programs → Bool
lengths_ok m = every (λ g. nat_le (length (written_out g)) 64) m

-- "It refuses by 21 .., by 22 .., by 23 .., in that order after 3 and before 4, each over the whole file before the next; 4 to 6 are tested on the
-- written-out plan"; "a task left empty is refused by 4", by which the last instruction is a finish
unfoldable pub repeats_answer : List ℕ → PlanAnswer
repeats_answer b =
    unless (layout_ok b) (Err BadLayout)
    (unless (new_instructions_ok (file_programs b)) (Err BadInstruction)
    (unless (paired_ok (file_programs b)) (Err BadRepeat)
    (unless (repeated_ok (file_programs b)) (Err RepeatedCreate)
    (unless (lengths_ok (file_programs b)) (Err TooLong)
    (structure_answer (written_out_plan (file_programs b)))))))
