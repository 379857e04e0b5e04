-- A task's word and its two operations. Nothing else looks inside a word but what the trace prints of it.
use Rattle.std.specs.Prelude.{ℕ, ◌+◌, ◌%◌, List, [], ◌∷◌, ◌==◌, nat_lt}
use Rattle.base.specs.Choice.{pick}
use Rattle.plan.specs.declared.Instruction.{Instruction}
use Rattle.plan.specs.declared.Word.{Word}
use Rattle.plan.specs.declared.Sum.{Sum}

-- "A task's word .. hold four numbers, level 0 first"; "a word (0 at birth)"
abbrev pub levels : ℕ → ℕ → ℕ → ℕ → Word
levels a b c d = record { 0 = a; 1 = b; 2 = c; 3 = d }

abbrev pub zero_word : Word
zero_word = levels 0 0 0 0

-- level k of a word, 0 to 3; the word with another number there
unfoldable pub level_of : Word → ℕ → ℕ
level_of w k = pick (k == 0) w.0 (pick (k == 1) w.1 (pick (k == 2) w.2 w.3))

unfoldable pub with_level : Word → ℕ → ℕ → Word
with_level w k n =
    pick (k == 0) (levels n w.1 w.2 w.3)
    (pick (k == 1) (levels w.0 n w.2 w.3)
    (pick (k == 2) (levels w.0 w.1 n w.3)
    (levels w.0 w.1 w.2 n)))

-- "Set stores the task's word"; "The second byte of set and add, 0 to 3, says which one is meant": the word w after the set instruction i
unfoldable pub set_word : Word → Instruction → Word
set_word w i = with_level w i.level i.operand

-- "add is taken modulo 65,536"; "Adding now tells whether the sum passed 65,535, besides the wrapped word."; "A sum over the top in any of the
-- four sets the mark.": the add instruction i of a task with word w
unfoldable pub add_word : Word → Instruction → Sum
add_word w i =
    let sum = level_of w i.level + i.operand in
    record { word = with_level w i.level (sum % 65536); overflow = nat_lt 65535 sum }

-- the numbers that stand for a word in a trace line
abbrev pub word_numbers : Word → List ℕ
word_numbers w = w.0 ∷ w.1 ∷ w.2 ∷ w.3 ∷ []
