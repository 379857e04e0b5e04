-- The parts of a rig that a step can change, written into its bytes; the version, the desks and the plan file stay.
use Rattle.std.specs.Prelude.{◌≡◌, List, ◌++◌, ℕ, length, take, drop}
use Rattle.rules.specs.declared.message.Network.{Network}
use Rattle.rules.specs.declared.system.Tables.{Tables}
use Rattle.rules.specs.declared.system.System.{System}
use Rattle.board.specs.Lent.{Lent, store_of}
use Rattle.plan_write.specs.output.Output.{overlay}
use Rattle.image.specs.Numbers.{number_bytes, numbers_bytes}
use Rattle.image.specs.Letters.{mail_numbers}
use Rattle.image.specs.Image.{board_numbers, table_bytes, rig_of, plan_room}
use Rattle.image_laws.specs.Parts.{system_on}
use Rattle.rig_write.specs.Sections.{tidy_numbers}

-- the tables of desks and channels
abbrev pub tables : List ℕ → List ℕ → List ℕ → List ℕ → List ℕ → Tables
tables hintprocessors hintmoves heldprocessors heldnumbers notes =
    record { hintprocessors = hintprocessors; hintmoves = hintmoves; heldprocessors = heldprocessors; heldnumbers = heldnumbers; notes = notes }

-- they were put at their place, and take so many bytes
pub record TablesPut (before : List ℕ) (x : Tables) (after : List ℕ) : Type 0 where
  pub bytes : after ≡ overlay before 25416 (table_bytes x)
  pub long : length (table_bytes x) ≡ 4608

-- the bytes with other parts but for the mail, which stays, and with another number of letters
unfoldable pub lent_written : List ℕ → Lent → ℕ → List ℕ → List ℕ
lent_written b l used chosen =
    take 8 b
    ++ (number_bytes 4 used
    ++ (take 2 (drop 12 b)
    ++ (chosen
    ++ (take plan_room (drop 20 b)
    ++ (numbers_bytes 8 (tidy_numbers l.board)
    ++ (table_bytes (store_of l).tables
    ++ drop 30024 b))))))

-- the rig of bytes b with other parts
abbrev pub rig_with : List ℕ → Lent → Network → List ℕ → System
rig_with b l k chosen = system_on (rig_of b).processors (rig_of b).plan l k chosen

-- the bytes then
unfoldable pub parts_written : List ℕ → Lent → Network → List ℕ → List ℕ
parts_written b l k chosen =
    take 8 b
    ++ (number_bytes 4 k.used
    ++ (take 2 (drop 12 b)
    ++ (chosen
    ++ (take plan_room (drop 20 b)
    ++ (numbers_bytes 8 (board_numbers (rig_with b l k chosen))
    ++ (table_bytes (rig_with b l k chosen).tables
    ++ numbers_bytes 8 (mail_numbers k)))))))
