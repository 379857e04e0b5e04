-- A state of the machine of a plan of the new edition beside one of its written-out plan's net.
use Rattle.std.specs.Prelude.{◌≡◌, ℕ, ◌≤◌, length, take, drop}
use Rattle.plan.specs.declared.TaskId.{TaskId}
use Rattle.plan.specs.Programs.{Program, Programs}
use Rattle.plan.specs.Repeats.{written_out}
use Rattle.plan.specs.RepeatPlaces.{Place}
use Rattle.net.specs.States.{Net}
use Rattle.net.specs.Guards.{program_for}
use Rattle.repeat_laws.specs.Left.{left_from, creates_in, Stands}
use Rattle.repeats.specs.Machine.{Repeated, place_in}

-- a task at a place of g, which has completed k instructions of g written out
pub record Beside (g : Program) (p : Place) (k : ℕ) : Type 0 where
  pub stands : Stands g p
  pub fits : k ≤ length (written_out g)
  pub left : drop k (written_out g) ≡ left_from g p
  pub created : creates_in (take k (written_out g)) ≡ creates_in (take p.at g)

-- all tasks; the rest is the same
pub record Alike (m : Programs) (s : Repeated) (n : Net) : Type 0 where
  pub born : s.net.born ≡ n.born
  pub word : s.net.word ≡ n.word
  pub overflow : s.net.overflow ≡ n.overflow
  pub passed : s.net.passed ≡ n.passed
  pub tasks : (t : TaskId) → Beside (program_for m t) (place_in s t) (n.completed t)
