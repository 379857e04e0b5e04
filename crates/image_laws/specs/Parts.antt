-- When bytes are an image, said part by part: what a program tests.
use Rattle.std.specs.Prelude.{Bool, ◌&&◌, List, [], ◌∷◌, ℕ, ◌+◌, ◌-◌, ◌*◌, eqb, ltb, get_or}
use Rattle.base.specs.Choice.{pick}
use Rattle.base.specs.Range.{below}
use Rattle.plan.specs.declared.Plan.{Plan}
use Rattle.rules.specs.declared.message.Network.{Network}
use Rattle.rules.specs.declared.system.System.{System}
use Rattle.board.specs.packing.Packed.{channel_of, channel_word, task_word, hint_of, hint_word}
use Rattle.board.specs.Lent.{Lent, lent, tasks_of, store_of, task_on, channels_on, parents_on}
use Rattle.image.specs.Numbers.{number_at, numbers_at, same_bytes}
use Rattle.image.specs.Letters.{letter_numbers, letter_of}
use Rattle.image.specs.Image.{board_in}

-- the four bytes of the version
abbrev pub version_ok : List ℕ → Bool
version_ok b = eqb (get_or b 0 0) 82 && (eqb (get_or b 1 0) 73 && (eqb (get_or b 2 0) 71 && eqb (get_or b 3 0) 49))

-- zeros behind a plan file of n bytes
unfoldable pub zeros_behind : ℕ → List ℕ → Bool
zeros_behind n b = below (16644 - n) (λ k. eqb (get_or b (20 + n + k) 0) 0)

-- each number of a board is that of what it holds: of a channel, of a task's record, of a pointer to a parent
unfoldable pub board_tidy : List ℕ → Bool
board_tidy x =
    below 128 (λ k. eqb (channel_word (channel_of (get_or x k 0))) (get_or x k 0))
    && (below 64 (λ k. eqb (task_word (task_on x k)) (get_or x (128 + 2 * k) 0))
    && below 384 (λ k. eqb (hint_word (hint_of (get_or x (320 + 2 * k) 0))) (get_or x (320 + 2 * k) 0)))

-- the two numbers v and w of slot k, of so many letters in use, are those of the letter that they hold, or zeros
abbrev pub slot_tidy : ℕ → ℕ → ℕ → ℕ → Bool
slot_tidy used k v w = same_bytes (pick (ltb k used) (letter_numbers (letter_of v w)) (0 ∷ 0 ∷ [])) (v ∷ w ∷ [])

unfoldable pub mail_tidy : List ℕ → Bool
mail_tidy b = below 256 (λ k. slot_tidy (number_at 4 b 8) k (number_at 8 b (30024 + 16 * k)) (number_at 8 b (30032 + 16 * k)))

-- all of it, beside a plan file that 2 to 6 do not refuse
unfoldable pub image_parts : List ℕ → Bool
image_parts b = version_ok b && (eqb (get_or b 13 0) 0 && (zeros_behind (number_at 4 b 4) b && (board_tidy (board_in b) && mail_tidy b)))

-- what is lent, as an image has it
abbrev pub lent_in : List ℕ → Lent
lent_in b = lent (numbers_at 1 768 b 25416) (numbers_at 2 768 b 26184) (numbers_at 1 768 b 27720) (numbers_at 1 768 b 28488) (numbers_at 1 768 b 29256) (board_in b)

-- a rig of n desks, of a plan and what is lent, the mail and the last choices
abbrev pub system_on : ℕ → Plan → Lent → Network → List ℕ → System
system_on n p l k chosen =
    record {
      processors = n;
      plan = p;
      tasks = tasks_of l;
      tables = (store_of l).tables;
      channels = channels_on l.board;
      parents = parents_on l.board;
      network = k;
      chosen = chosen;
    }
