-- Repeats, in the programmers' new edition of the plan file: the two kinds, and a program with every repeat written out.
use Rattle.std.specs.Prelude.{ℕ, zero, suc, Bool, true, false, not, List, [], ◌∷◌, ◌++◌, map, ◌==◌}
use Rattle.base.specs.Choice.{pick}
use Rattle.plan.specs.declared.Instruction.{Instruction}
use Rattle.plan.specs.Programs.{Program, Programs}

-- "kind 8, repeat (argument 1..64), and kind 9, end of repeat (0)"
abbrev pub op_repeat : ℕ
op_repeat = 8

abbrev pub op_repeat_end : ℕ
op_repeat_end = 9

abbrev pub is_repeat : Instruction → Bool
is_repeat i = i.opcode == op_repeat

abbrev pub is_repeat_end : Instruction → Bool
is_repeat_end i = i.opcode == op_repeat_end

-- a list n times in a row
unfoldable pub times : {A : Type 0} → ℕ → List A → List A
times zero l = []
times (suc n) l = l ++ times n l

-- "the instructions up to its end", of what stands behind a repeat
unfoldable pub body_of : Program → Program
body_of [] = []
body_of (i ∷ g) = pick (is_repeat_end i) [] (i ∷ body_of g)

-- "a repeat with argument n runs the instructions up to its end n times in a row, then goes on behind the end": the instructions of g written out;
-- where the test holds, only of those behind the next end
unfoldable pub written_from : Bool → Program → Program
written_from true [] = []
written_from true (i ∷ g) = written_from (not (is_repeat_end i)) g
written_from false [] = []
written_from false (i ∷ g) = pick (is_repeat i) (times i.operand (body_of g) ++ written_from true g) (i ∷ written_from false g)

-- a program and a plan "with every repeat written out"
abbrev pub written_out : Program → Program
written_out g = written_from false g

abbrev pub written_out_plan : Programs → Programs
written_out_plan m = map written_out m
