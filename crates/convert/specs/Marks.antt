-- What is kept of the instructions of a task that have been looked at, for 21 to 23.
use Rattle.std.specs.Prelude.{◌≡◌, Bool, true, false, not, ◌&&◌, ℕ, ◌+◌, ◌*◌, eqb, leb, length}
use Rattle.base.specs.Choice.{pick}
use Rattle.base.specs.Range.{below}
use Rattle.plan.specs.declared.Instruction.{Instruction}
use Rattle.plan.specs.Kinds.{op_create}
use Rattle.plan.specs.Programs.{Program, Programs, program_at}
use Rattle.plan.specs.Repeats.{is_repeat, is_repeat_end, body_of, written_from, written_out}
use Rattle.plan.specs.RepeatRefusals.{paired_from, creates_from, paired_ok, repeated_ok, lengths_ok}
use Rattle.convert.specs.declared.marks.Marks.{Marks}
use Rattle.convert.specs.declared.find.Found.{Found}

-- of none
abbrev pub start_marks : Marks
start_marks = record { inside = false; paired = true; creates = true; rounds = 1; length = 0 }

-- of one more
unfoldable pub next_marks : Marks → Instruction → Marks
next_marks m x =
    pick (is_repeat x)
    (record { inside = true; paired = m.paired && not m.inside; creates = m.creates; rounds = x.operand; length = m.length })
    (pick (is_repeat_end x)
    (record { inside = false; paired = m.paired && m.inside; creates = m.creates; rounds = 1; length = m.length })
    (record {
      inside = m.inside;
      paired = m.paired;
      creates = m.creates && not (m.inside && eqb x.opcode op_create);
      rounds = m.rounds;
      length = m.length + m.rounds;
    }))

-- how much is still to be written, where z is left to look at
unfoldable pub waiting : Marks → Program → ℕ
waiting m z = pick m.inside (m.rounds * length (body_of z) + length (written_from true z)) (length (written_from false z))

-- m is kept of the instructions of g before z
pub record Marked (g z : Program) (m : Marks) : Type 0 where
  pub paired : m.paired && paired_from m.inside z ≡ paired_from false g
  pub creates : m.creates && creates_from m.inside z ≡ creates_from false g
  pub length : m.paired ≡ true → m.length + waiting m z ≡ length (written_out g)
  pub once : m.inside ≡ false → m.rounds ≡ 1

-- m is kept of all of them
pub record MarksOf (g : Program) (m : Marks) : Type 0 where
  pub paired : m.paired && not m.inside ≡ paired_from false g
  pub creates : m.creates ≡ creates_from false g
  pub length : paired_from false g ≡ true → m.length ≡ length (written_out g)

-- what 21 to 23 find of a plan; a length is asked for only where repeats and ends are in order
pub record FoundIn (m : Programs) (r : Found) : Type 0 where
  pub paired : r.paired ≡ paired_ok m
  pub creates : r.creates ≡ repeated_ok m
  pub short : r.paired ≡ true → r.short ≡ lengths_ok m

-- of its first k tasks
pub record FoundTo (m : Programs) (k : ℕ) (p c s : Bool) : Type 0 where
  pub paired : p ≡ below k (λ j. paired_from false (program_at m j))
  pub creates : c ≡ below k (λ j. creates_from false (program_at m j))
  pub short : p ≡ true → s ≡ below k (λ j. leb (length (written_out (program_at m j))) 64)
