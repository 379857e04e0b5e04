-- The sections of an image: how long they are, and what stands where.
use mathlib.Core.Path.{◌≡◌, refl}
use mathlib.Core.List.{List, [], ◌∷◌, ◌++◌}
use Prim.Native.Nat.{ℕ, ◌+◌, ◌-◌, ◌≤◌}
use native.Mathlib.Omega.{arith}
use lib.ListN.{length, get_or, replicate, length-append, length-replicate}
use Rattle.plan_laws.proofs.Held.{Held, held_left, held_all}
use Rattle.rules.specs.declared.system.System.{System}
use Rattle.image.specs.Numbers.{number_bytes, numbers_bytes}
use Rattle.image.specs.Letters.{mail_numbers}
use Rattle.image.specs.Image.{version, board_numbers, plan_bytes, head_bytes, plan_part, table_bytes, image, plan_room, rig_size}
use Rattle.image_laws.proofs.Numbers.{length_number, length_numbers}
use Rattle.image_laws.proofs.Pieces.{held_next}
use Rattle.image_laws.proofs.BoardsHeld.{length_numbers_of}
use Rattle.image_laws.proofs.Mails.{length_mail}

-- the arrays of a rig have their sizes, and its plan file fits
pub record Sizes (r : System) : Type 0 where
  pub plan : length (plan_bytes r) ≤ 16644
  pub chosen : length r.chosen ≡ 6
  pub ready : length r.tasks.ready ≡ 6
  pub hintprocessors : length r.tables.hintprocessors ≡ 768
  pub hintmoves : length r.tables.hintmoves ≡ 768
  pub heldprocessors : length r.tables.heldprocessors ≡ 768
  pub heldnumbers : length r.tables.heldnumbers ≡ 768
  pub notes : length r.tables.notes ≡ 768

-- the parts of a head and of the tables
module _ (r : System) where
  abbrev pub last : List ℕ
  last = r.processors ∷ 0 ∷ r.chosen

  abbrev pub used_on : List ℕ
  used_on = number_bytes 4 r.network.used ++ last

  abbrev pub long_on : List ℕ
  long_on = number_bytes 4 (length (plan_bytes r)) ++ used_on

  abbrev pub zeros : List ℕ
  zeros = replicate (plan_room - length (plan_bytes r)) 0

  abbrev pub numbers_on : List ℕ
  numbers_on = r.tables.heldnumbers ++ r.tables.notes

  abbrev pub held_on : List ℕ
  held_on = r.tables.heldprocessors ++ numbers_on

  abbrev pub moves_on : List ℕ
  moves_on = numbers_bytes 2 r.tables.hintmoves ++ held_on

  abbrev pub mail_on : List ℕ
  mail_on = numbers_bytes 8 (mail_numbers r.network)

  abbrev pub tables_on : List ℕ
  tables_on = table_bytes r.tables ++ mail_on

  abbrev pub board_on : List ℕ
  board_on = numbers_bytes 8 (board_numbers r) ++ tables_on

  abbrev pub plan_on : List ℕ
  plan_on = plan_part r ++ board_on

  pub image_is_all : image r ≡ head_bytes r ++ plan_on
  unfolding image
  image_is_all = refl

  pub head_is_all : head_bytes r ≡ version ++ long_on
  unfolding head_bytes
  head_is_all = refl

  pub plan_is_all : plan_part r ≡ plan_bytes r ++ zeros
  unfolding plan_part
  plan_is_all = refl

  pub tables_is_all : table_bytes r.tables ≡ r.tables.hintprocessors ++ moves_on
  unfolding table_bytes
  tables_is_all = refl

-- lengths
module _ (r : System) (s : Sizes r) where
  pub length_head : length (head_bytes r) ≡ 20
  length_head =
      rw (head_is_all r)
      (omega (
        arith,
        length-append (number_bytes 4 (length (plan_bytes r))) (used_on r),
        length-append (number_bytes 4 r.network.used) (last r),
        length_number 4 (length (plan_bytes r)),
        length_number 4 r.network.used,
        s.chosen,
      ))

  pub length_plan : length (plan_part r) ≡ 16644
  length_plan = rw (plan_is_all r) (omega (arith, length-append (plan_bytes r) (zeros r), length-replicate {A = ℕ} (plan_room - length (plan_bytes r)) 0, s.plan))

  pub length_board_bytes : length (numbers_bytes 8 (board_numbers r)) ≡ 8752
  length_board_bytes = omega (arith, length_numbers 8 (board_numbers r), length_numbers_of r s.ready)

  pub length_tables : length (table_bytes r.tables) ≡ 4608
  length_tables =
      rw (tables_is_all r)
      (omega (
        arith,
        length-append r.tables.hintprocessors (moves_on r),
        length-append (numbers_bytes 2 r.tables.hintmoves) (held_on r),
        length-append r.tables.heldprocessors (numbers_on r),
        length-append r.tables.heldnumbers r.tables.notes,
        length_numbers 2 r.tables.hintmoves,
        s.hintprocessors,
        s.hintmoves,
        s.heldprocessors,
        s.heldnumbers,
        s.notes,
      ))

  pub length_mail_bytes : length (mail_on r) ≡ 4096
  length_mail_bytes = omega (arith, length_numbers 8 (mail_numbers r.network), length_mail r.network)

  pub length_image : length (image r) ≡ rig_size
  length_image =
      rw (image_is_all r)
      (omega (
        arith,
        length-append (head_bytes r) (plan_on r),
        length-append (plan_part r) (board_on r),
        length-append (numbers_bytes 8 (board_numbers r)) (tables_on r),
        length-append (table_bytes r.tables) (mail_on r),
        length_head,
        length_plan,
        length_board_bytes,
        length_tables,
        length_mail_bytes,
      ))

-- what bytes hold that are the image of a rig
module _ (b : List ℕ) (r : System) (same : b ≡ image r) (s : Sizes r) where
  all : Held b 0 (head_bytes r ++ plan_on r)
  all = rw (← image_is_all r, ← same) (held_all b)

  head : Held b 0 (version ++ long_on r)
  head = rw (head_is_all r) at (held_left b 0 (head_bytes r) (plan_on r) all)

  pub version_held : Held b 0 version
  version_held = held_left b 0 version (long_on r) head

  long : Held b 4 (long_on r)
  long = held_next b 0 4 version (long_on r) refl head

  pub long_held : Held b 4 (number_bytes 4 (length (plan_bytes r)))
  long_held = held_left b 4 (number_bytes 4 (length (plan_bytes r))) (used_on r) long

  used : Held b 8 (used_on r)
  used = held_next b 4 4 (number_bytes 4 (length (plan_bytes r))) (used_on r) (length_number 4 (length (plan_bytes r))) long

  pub used_held : Held b 8 (number_bytes 4 r.network.used)
  used_held = held_left b 8 (number_bytes 4 r.network.used) (last r) used

  end : Held b 12 (last r)
  end = held_next b 8 4 (number_bytes 4 r.network.used) (last r) (length_number 4 r.network.used) used

  pub desks_held : get_or b 12 0 ≡ r.processors
  desks_held = end 0 (omega arith)

  pub zero_held : get_or b 13 0 ≡ 0
  zero_held = end 1 (omega arith)

  pub chosen_held : Held b 14 r.chosen
  chosen_held = held_next b 12 2 (r.processors ∷ 0 ∷ []) r.chosen refl end

  from_plan : Held b 20 (plan_on r)
  from_plan = held_next b 0 20 (head_bytes r) (plan_on r) (length_head r s) all

  pub plan_part_held : Held b 20 (plan_part r)
  plan_part_held = held_left b 20 (plan_part r) (board_on r) from_plan

  plan_part_lem : Held b 20 (plan_bytes r ++ zeros r)
  plan_part_lem = rw (plan_is_all r) at plan_part_held

  pub plan_bytes_held : Held b 20 (plan_bytes r)
  plan_bytes_held = held_left b 20 (plan_bytes r) (zeros r) plan_part_lem

  pub zeros_held : Held b (20 + length (plan_bytes r)) (zeros r)
  zeros_held = held_next b 20 (length (plan_bytes r)) (plan_bytes r) (zeros r) refl plan_part_lem

  from_board : Held b 16664 (board_on r)
  from_board = held_next b 20 16644 (plan_part r) (board_on r) (length_plan r s) from_plan

  pub board_bytes_held : Held b 16664 (numbers_bytes 8 (board_numbers r))
  board_bytes_held = held_left b 16664 (numbers_bytes 8 (board_numbers r)) (tables_on r) from_board

  from_tables : Held b 25416 (tables_on r)
  from_tables = held_next b 16664 8752 (numbers_bytes 8 (board_numbers r)) (tables_on r) (length_board_bytes r s) from_board

  tables : Held b 25416 (r.tables.hintprocessors ++ moves_on r)
  tables = rw (tables_is_all r) at (held_left b 25416 (table_bytes r.tables) (mail_on r) from_tables)

  pub hintprocessors_held : Held b 25416 r.tables.hintprocessors
  hintprocessors_held = held_left b 25416 r.tables.hintprocessors (moves_on r) tables

  moves : Held b 26184 (moves_on r)
  moves = held_next b 25416 768 r.tables.hintprocessors (moves_on r) s.hintprocessors tables

  pub hintmoves_held : Held b 26184 (numbers_bytes 2 r.tables.hintmoves)
  hintmoves_held = held_left b 26184 (numbers_bytes 2 r.tables.hintmoves) (held_on r) moves

  helds : Held b 27720 (held_on r)
  helds =
      held_next b 26184 1536 (numbers_bytes 2 r.tables.hintmoves) (held_on r) (omega (arith, length_numbers 2 r.tables.hintmoves, s.hintmoves)) moves

  pub heldprocessors_held : Held b 27720 r.tables.heldprocessors
  heldprocessors_held = held_left b 27720 r.tables.heldprocessors (numbers_on r) helds

  numbers : Held b 28488 (numbers_on r)
  numbers = held_next b 27720 768 r.tables.heldprocessors (numbers_on r) s.heldprocessors helds

  pub heldnumbers_held : Held b 28488 r.tables.heldnumbers
  heldnumbers_held = held_left b 28488 r.tables.heldnumbers r.tables.notes numbers

  pub notes_held : Held b 29256 r.tables.notes
  notes_held = held_next b 28488 768 r.tables.heldnumbers r.tables.notes s.heldnumbers numbers

  pub mail_bytes_held : Held b 30024 (mail_on r)
  mail_bytes_held = held_next b 25416 4608 (table_bytes r.tables) (mail_on r) (length_tables r s) from_tables
