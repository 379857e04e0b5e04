-- A place in a program, with the place behind the last repeat beside it.
use Rattle.std.specs.Prelude.{◌≡◌, ℕ, ◌+◌, ◌-◌, ltb}
use Rattle.base.specs.Choice.{pick}
use Rattle.plan.specs.declared.Instruction.{Instruction}
use Rattle.plan.specs.Programs.{Program}
use Rattle.plan.specs.Repeats.{is_repeat, is_repeat_end}
use Rattle.plan.specs.RepeatPlaces.{Place, place, behind_repeat}
use Rattle.convert.specs.declared.spot.Spot.{Spot}

abbrev pub spot : ℕ → ℕ → ℕ → Spot
spot at rounds back = record { at = at; rounds = rounds; back = back }

abbrev pub start_spot : Spot
start_spot = spot 0 0 0

-- from the instruction x to the next
unfoldable pub next_spot : Spot → Instruction → Spot
next_spot s x =
    pick (is_repeat x) (spot (s.at + 1) x.operand (s.at + 1))
    (pick (is_repeat_end x) (pick (ltb 1 s.rounds) (spot s.back (s.rounds - 1) s.back) (spot (s.at + 1) 0 s.back))
    (spot (s.at + 1) s.rounds s.back))

-- as a place
abbrev pub place_of : Spot → Place
place_of s = place s.at s.rounds

-- it knows the place behind the last repeat of g
abbrev pub Knows : Program → Spot → Type 0
Knows g s = s.back ≡ behind_repeat g s.at
