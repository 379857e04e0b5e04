-- What is left of a program of the new edition from a place on, written out, and by how many goings on; and what holds of each place that is
-- reached.
use Rattle.std.specs.Prelude.{◌≡◌, Bool, true, false, not, ◌||◌, [], ◌∷◌, ◌++◌, ℕ, suc, ◌+◌, ◌*◌, ◌-◌, ◌≤◌, eqb, length, take, drop}
use Rattle.base.specs.Choice.{pick}
use Rattle.plan.specs.declared.Instruction.{Instruction}
use Rattle.plan.specs.Kinds.{op_create}
use Rattle.plan.specs.Programs.{Program, instruction_at}
use Rattle.plan.specs.Repeats.{is_repeat, is_repeat_end, times, body_of, written_from}
use Rattle.plan.specs.RepeatPlaces.{Place, behind_repeat, go_on}
use Rattle.plan.specs.RepeatRefusals.{paired_from, creates_from}

-- a place is outside every repeat
abbrev pub is_outside : Place → Bool
is_outside p = eqb p.rounds 0

-- the instructions of the repeat that a place is in
abbrev pub body_at : Program → Place → Program
body_at g p = body_of (drop (behind_repeat g p.at) g)

-- what is left, written out: within a repeat the rest of this round, then the other rounds, then what stands behind the end
unfoldable pub left_from : Program → Place → Program
left_from g p =
    let z = drop p.at g in
    pick (is_outside p) (written_from false z) (body_of z ++ (times (p.rounds - 1) (body_at g p) ++ written_from true z))

-- how often a task goes on through g; where the test holds, only through what stands behind the next end
unfoldable pub goings_from : Bool → Program → ℕ
goings_from true [] = 0
goings_from true (i ∷ g) = goings_from (not (is_repeat_end i)) g
goings_from false [] = 0
goings_from false (i ∷ g) = pick (is_repeat i) (suc (i.operand * suc (length (body_of g)) + goings_from true g)) (suc (goings_from false g))

-- how often from a place on
unfoldable pub goings : Program → Place → ℕ
goings g p =
    let z = drop p.at g in
    pick (is_outside p) (goings_from false z) (suc (length (body_of z)) + (p.rounds - 1) * suc (length (body_at g p)) + goings_from true z)

-- the creates among some instructions
unfoldable pub creates_in : Program → Program
creates_in [] = []
creates_in (i ∷ g) = pick (eqb i.opcode op_create) (i ∷ creates_in g) (creates_in g)

-- behind the first q instructions stands what may stand in a repeat; with more, to the first k, there is no create more and no end
pub record Inside (g : Program) (q k : ℕ) : Type 0 where
  pub paired : paired_from true (drop q g) ≡ true
  pub creates : creates_from true (drop q g) ≡ true
  pub written : written_from true (drop q g) ≡ written_from true (drop k g)
  pub goings : goings_from true (drop q g) ≡ goings_from true (drop k g)
  pub created : creates_in (take q g) ≡ creates_in (take k g)

-- what holds of each place that is reached
pub record Stands (g : Program) (p : Place) : Type 0 where
  pub fits : p.at ≤ length g
  pub paired : paired_from (not (is_outside p)) (drop p.at g) ≡ true
  pub creates : creates_from (not (is_outside p)) (drop p.at g) ≡ true
  pub inside : 1 ≤ p.rounds → Inside g (behind_repeat g p.at) p.at

-- a repeat or its end
abbrev pub is_mark : Instruction → Bool
is_mark i = is_repeat i || is_repeat_end i

-- what is written of one instruction: nothing of a repeat and its end
abbrev pub said_by : Instruction → Program
said_by i = pick (is_mark i) [] (i ∷ [])

-- a task goes on from a place
pub record On (g : Program) (p : Place) : Type 0 where
  pub stands : Stands g (go_on g p)
  pub goings : suc (goings g (go_on g p)) ≡ goings g p
  pub left : left_from g p ≡ said_by (instruction_at g p.at) ++ left_from g (go_on g p)
  pub created : creates_in (take (go_on g p).at g) ≡ creates_in (take p.at g) ++ creates_in (said_by (instruction_at g p.at))
