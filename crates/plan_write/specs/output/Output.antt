-- Bytes put at a place, and the bytes of slots.
use Rattle.std.specs.Prelude.{◌≡◌, List, [], ◌++◌, ℕ, ◌+◌, ◌/◌, ◌%◌, length, get_or, take, drop, ltb}
use Rattle.base.specs.Choice.{pick}
use Rattle.base.specs.Range.{joined}
use Rattle.plan.specs.Layout.{instruction_bytes}
use Rattle.plan_value.specs.Slots.{slot_in}

-- the bytes xs put at a place
unfoldable pub overlay : List ℕ → ℕ → List ℕ → List ℕ
overlay out at xs = take at out ++ (xs ++ drop (at + length xs) out)

-- the bytes of slot j, none for an unused one, and of the first s slots
abbrev pub slot_at : List ℕ → List ℕ → ℕ → List ℕ
slot_at lengths codes j = pick (ltb (j % 64) (get_or lengths (j / 64) 0)) (instruction_bytes (slot_in codes j)) []

abbrev pub slots_bytes : List ℕ → List ℕ → ℕ → List ℕ
slots_bytes lengths codes s = joined s (slot_at lengths codes)

-- xs was put at a place, and r is the place behind it
pub record Put (before : List ℕ) (at : ℕ) (xs : List ℕ) (r : ℕ) (after : List ℕ) : Type 0 where
  pub next : r ≡ at + length xs
  pub bytes : after ≡ overlay before at xs
