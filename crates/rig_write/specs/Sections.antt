-- The sections of the parts that a step can change, from what is lent: each number of a board as what it holds has it.
use Rattle.std.specs.Prelude.{List, [], ◌∷◌, ◌++◌, ℕ, suc, ◌+◌, ◌*◌, ltb, get_or}
use Rattle.base.specs.Choice.{pick}
use Rattle.base.specs.Range.{joined}
use Rattle.base.specs.Lists.{table}
use Rattle.rules.specs.declared.message.Network.{Network}
use Rattle.rules.specs.Networks.{message_at}
use Rattle.board.specs.packing.Packed.{channel_of, channel_word, task_of, task_word, word_of, word_number, hint_of, hint_word}
use Rattle.board.specs.Lent.{set_on}
use Rattle.image.specs.Letters.{letter_numbers}

-- the number of the channel, of the task, of the word and of the pointer that a number holds
unfoldable pub channel_tidy : ℕ → ℕ
channel_tidy v = channel_word (channel_of v)

unfoldable pub task_tidy : ℕ → ℕ
task_tidy v = task_word (task_of v 0 0)

unfoldable pub word_tidy : ℕ → ℕ
word_tidy v = word_number (word_of v)

unfoldable pub hint_tidy : ℕ → ℕ
hint_tidy v = hint_word (hint_of v)

-- the sections of a board
abbrev pub channel_at : List ℕ → ℕ → ℕ
channel_at x k = channel_tidy (get_or x k 0)

abbrev pub task_at : List ℕ → ℕ → List ℕ
task_at x k = task_tidy (get_or x (128 + 2 * k) 0) ∷ get_or x (129 + 2 * k) 0 ∷ []

abbrev pub word_at : List ℕ → ℕ → ℕ
word_at x k = word_tidy (get_or x (256 + k) 0)

abbrev pub parent_at : List ℕ → ℕ → List ℕ
parent_at x k = hint_tidy (get_or x (320 + 2 * k) 0) ∷ get_or x (321 + 2 * k) 0 ∷ []

-- its numbers, section by section
unfoldable pub tidy_numbers : List ℕ → List ℕ
tidy_numbers x = table 128 (channel_at x) ++ (joined 64 (task_at x) ++ (table 64 (word_at x) ++ (joined 384 (parent_at x) ++ table 6 (set_on x))))

-- the two numbers of a slot of the mail
abbrev pub slot_at : Network → ℕ → List ℕ
slot_at n k = pick (ltb k n.used) (letter_numbers (message_at n (suc k))) (0 ∷ 0 ∷ [])
