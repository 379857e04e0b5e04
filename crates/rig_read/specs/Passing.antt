-- What is tested of one number or two of a board: that they are those of what they hold, and that 9 does not refuse it, in a rig of n desks
-- and m tasks.
use Rattle.std.specs.Prelude.{◌≡◌, Bool, ◌&&◌, List, [], ◌∷◌, ℕ, ◌+◌, ◌*◌, ◌^◌, ◌≤◌, eqb, leb, ltb, length, get_or}
use Rattle.base.specs.Range.{below}
use Rattle.base.specs.Sets.{set_of}
use Rattle.rules.specs.Numbers.{task_id, processor_id}
use Rattle.rules.specs.Cells.{offer}
use Rattle.rules.specs.Systems.{task_in, is_ready_at}
use Rattle.rules.specs.Sound.{offer_ok, hint_ok, origin_ok, ready_ok, message_ok, network_ok}
use Rattle.rig_check.specs.tasks.Tests.{task_with}
use Rattle.rig_check.specs.system.Tasks.{last_kind}
use Rattle.board.specs.packing.Packed.{byte3, byte4, byte5, hint_of, hint_word, channel_of, channel_word, task_of, task_word}
use Rattle.board.specs.Lent.{task_on, tasks_on}
use Rattle.image.specs.Numbers.{number_at, same_bytes}
use Rattle.image.specs.Letters.{letter_of, letter_numbers}
use Rattle.image.specs.Image.{network_in}
use Rattle.image_laws.specs.Parts.{version_ok, zeros_behind, mail_tidy}

-- a channel's own entry
abbrev pub channel_passes : ℕ → ℕ → Bool
channel_passes n v =
    eqb (channel_word (channel_of v)) v && (leb (byte5 v) 64 && (offer_ok n (offer (processor_id (byte3 v)) (byte4 v)) && hint_ok n (hint_of v)))

unfoldable pub channels_pass : ℕ → List ℕ → Bool
channels_pass n x = below 128 (λ k. channel_passes n (get_or x k 0))

-- what a desk keeps for a parent: a pointer, and the children that are held
abbrev pub parent_passes : ℕ → ℕ → ℕ → ℕ → Bool
parent_passes n m v s = eqb (hint_word (hint_of v)) v && (hint_ok n (hint_of v) && ltb s (2 ^ m))

-- of sixteen parents, after b times as many: their 32 numbers are zeros, and what is kept for each
abbrev pub block_zero : List ℕ → ℕ → Bool
block_zero x b = below 32 (λ i. eqb (get_or x (320 + 32 * b + i) 0) 0)

abbrev pub block_passes : ℕ → ℕ → List ℕ → ℕ → Bool
block_passes n m x b = below 16 (λ i. parent_passes n m (get_or x (320 + 2 * (16 * b + i)) 0) (get_or x (321 + 2 * (16 * b + i)) 0))

unfoldable pub parents_pass : ℕ → ℕ → List ℕ → Bool
parents_pass n m x = below 384 (λ k. parent_passes n m (get_or x (320 + 2 * k) 0) (get_or x (321 + 2 * k) 0))

-- a first number of a task's record is that of what it holds
unfoldable pub task_tidy : ℕ → Bool
task_tidy v = eqb (task_word (task_of v 0 0)) v

-- the number of each of 64 tasks' records is that of the record
unfoldable pub tasks_tidy : List ℕ → Bool
tasks_tidy x = below 64 (λ k. eqb (task_word (task_on x k)) (get_or x (128 + 2 * k) 0))

-- task k + 1 and its own pointer, with these programs
abbrev pub task_passes : List ℕ → List ℕ → ℕ → ℕ → List ℕ → ℕ → Bool
task_passes lengths codes n m x k =
    task_with n m (get_or lengths k 0) (last_kind lengths codes k (task_on x k).pc) (task_on x k) && origin_ok n (k + 1) (task_on x k)

unfoldable pub tasks_pass : List ℕ → List ℕ → ℕ → ℕ → List ℕ → Bool
tasks_pass lengths codes n m x = below m (task_passes lengths codes n m x)

-- those of tasks 1 to m that are ready at desk d
abbrev pub ready_at : ℕ → List ℕ → ℕ → ℕ
ready_at m x d = set_of m (λ t. is_ready_at (processor_id d) (task_in (tasks_on x) (task_id t)))

-- each desk's set, at its number
pub record ReadySets (m : ℕ) (x sets : List ℕ) : Type 0 where
  pub long : length sets ≡ 7
  pub set : (d : ℕ) → 1 ≤ d → d ≤ 6 → get_or sets d 0 ≡ ready_at m x d

-- the numbers of a board, and its sets of ready tasks
unfoldable pub board_passes : List ℕ → List ℕ → ℕ → ℕ → List ℕ → Bool
board_passes lengths codes n m x =
    channels_pass n x && (tasks_tidy x && (parents_pass n m x && (tasks_pass lengths codes n m x && ready_ok m (tasks_on x))))

-- what is tested of the bytes themselves
unfoldable pub bytes_pass : List ℕ → Bool
bytes_pass b = (version_ok b && eqb (get_or b 13 0) 0) && zeros_behind (number_at 4 b 4) b

-- so many zeros from a place on
abbrev pub zeros_at : List ℕ → ℕ → ℕ → Bool
zeros_at b first count = below count (λ k. eqb (get_or b (first + k) 0) 0)

-- the two numbers of a slot in use
abbrev pub slot_passes : ℕ → ℕ → ℕ → ℕ → Bool
slot_passes n m v w = same_bytes (letter_numbers (letter_of v w)) (v ∷ w ∷ []) && message_ok n m (letter_of v w)

-- the mail
abbrev pub mail_passes : ℕ → ℕ → List ℕ → Bool
mail_passes n m b = mail_tidy b && network_ok n m (network_in b)
