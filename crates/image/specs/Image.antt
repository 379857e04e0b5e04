-- A rig as bytes that a caller lends and keeps: "a fixed layout of all numbers of a rig .., little-endian", "with a first field that names the
-- layout's version". Places and sizes in bytes:
--
--       0      4  the version: RIG1
--       4      4  the length of the plan file
--       8      4  how many letters are in the mail
--      12      1  desks
--      13      1  0
--      14      6  the last choices of desks 1 to 6
--      20  16644  the plan file, and zeros behind it
--   16664   8752  a board, 1094 numbers of 8 bytes (crates/board/specs/Lent.antt): channels, tasks, what desks keep for parents, ready sets
--   25416    768  the desks of pointers, of desk d and channel c at 128 (d - 1) + (c - 1), as all that follow
--   26184   1536  the counts of pointers, 2 bytes each
--   27720    768  the desks of held offers
--   28488    768  the numbers of held offers
--   29256    768  noted adverts
--   30024   4096  the mail, 256 letters of 16 bytes (specs/Letters)
--   34120
use Rattle.std.specs.Prelude.{Bool, List, [], ◌∷◌, ◌++◌, ℕ, ◌+◌, ◌*◌, ◌-◌, length, get_or, take, drop, replicate}
use Rattle.base.specs.Range.{joined}
use Rattle.base.specs.Lists.{table}
use Rattle.plan.specs.Programs.{programs}
use Rattle.plan.specs.Layout.{layout}
use Rattle.plan.specs.Outcomes.{plan_read}
use Rattle.rules.specs.declared.message.Network.{Network}
use Rattle.rules.specs.declared.system.Tables.{Tables}
use Rattle.rules.specs.declared.system.System.{System}
use Rattle.rules.specs.Tasks.{no_task}
use Rattle.rules.specs.Networks.{slot}
use Rattle.rules.specs.Systems.{read_channel, read_parent}
use Rattle.board.specs.packing.Packed.{channel_word, task_word, word_number, hint_word}
use Rattle.board.specs.Lent.{tasks_on, channels_on, parents_on}
use Rattle.image.specs.Numbers.{number_bytes, numbers_bytes, number_at, numbers_at, same_bytes}
use Rattle.image.specs.Letters.{letter_of, mail_numbers}

-- "size a constant in the header"
abbrev pub rig_size : ℕ
rig_size = 34120

-- the longest plan file: 4 bytes, 4 for each of 64 tasks, 4 for each of 4,096 instructions
abbrev pub plan_room : ℕ
plan_room = 16644

-- "a first field that names the layout's version": the bytes of RIG1
abbrev pub version : List ℕ
version = 82 ∷ 73 ∷ 71 ∷ 49 ∷ []

-- the numbers of a board: of each channel its own entry; of each task its record's fields and its children, and then of each its word; what
-- each desk keeps for each parent, a pointer and the children that are held; the ready sets
unfoldable pub board_numbers : System → List ℕ
board_numbers r =
    table 128 (λ k. channel_word (read_channel r.channels k))
    ++ (joined 64 (λ k. task_word (get_or r.tasks.records k no_task) ∷ (get_or r.tasks.records k no_task).children ∷ [])
    ++ (table 64 (λ k. word_number (get_or r.tasks.records k no_task).word)
    ++ (joined 384 (λ k. hint_word (read_parent r.parents k).hint ∷ (read_parent r.parents k).held ∷ [])
    ++ r.tasks.ready)))

-- the plan file of a rig
abbrev pub plan_bytes : System → List ℕ
plan_bytes r = layout (programs r.plan)

-- the image of a rig, part by part
unfoldable pub head_bytes : System → List ℕ
head_bytes r =
    version
    ++ (number_bytes 4 (length (plan_bytes r)) ++ (number_bytes 4 r.network.used ++ (r.processors ∷ 0 ∷ r.chosen)))

unfoldable pub plan_part : System → List ℕ
plan_part r = plan_bytes r ++ replicate (plan_room - length (plan_bytes r)) 0

unfoldable pub table_bytes : Tables → List ℕ
table_bytes x =
    x.hintprocessors ++ (numbers_bytes 2 x.hintmoves ++ (x.heldprocessors ++ (x.heldnumbers ++ x.notes)))

unfoldable pub image : System → List ℕ
image r =
    head_bytes r
    ++ (plan_part r
    ++ (numbers_bytes 8 (board_numbers r)
    ++ (table_bytes r.tables
    ++ numbers_bytes 8 (mail_numbers r.network))))

-- the parts of an image read
abbrev pub plan_file : List ℕ → List ℕ
plan_file b = take (number_at 4 b 4) (drop 20 b)

unfoldable pub board_in : List ℕ → List ℕ
board_in b = numbers_at 8 1094 b 16664

unfoldable pub tables_in : List ℕ → Tables
tables_in b =
    record {
      hintprocessors = numbers_at 1 768 b 25416;
      hintmoves = numbers_at 2 768 b 26184;
      heldprocessors = numbers_at 1 768 b 27720;
      heldnumbers = numbers_at 1 768 b 28488;
      notes = numbers_at 1 768 b 29256;
    }

unfoldable pub network_in : List ℕ → Network
network_in b =
    record {
      slots = table 256 (λ k. slot (letter_of (number_at 8 b (30024 + 16 * k)) (number_at 8 b (30032 + 16 * k))));
      used = number_at 4 b 8;
    }

unfoldable pub chosen_in : List ℕ → List ℕ
chosen_in b = numbers_at 1 6 b 14

-- the rig that bytes hold
unfoldable pub rig_of : List ℕ → System
rig_of b =
    record {
      processors = get_or b 12 0;
      plan = (plan_read (plan_file b)).plan;
      tasks = tasks_on (board_in b);
      tables = tables_in b;
      channels = channels_on (board_in b);
      parents = parents_on (board_in b);
      network = network_in b;
      chosen = chosen_in b;
    }

-- bytes are an image, where they are the image of the rig that they hold; so none is "that is not canonical (unused slots, unknown letter kinds,
-- another version)"
unfoldable pub is_image : List ℕ → Bool
is_image b = same_bytes b (image (rig_of b))
