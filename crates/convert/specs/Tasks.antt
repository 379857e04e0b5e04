-- The instructions of a task in a file, and what is asked of them before they are written out.
use Rattle.std.specs.Prelude.{◌≡◌, true, false, List, map, ℕ, ◌+◌, ◌*◌, ◌≤◌, length, drop}
use Rattle.std.proofs.Math.Seq.{paste}
use Rattle.base.specs.Lists.{every, table}
use Rattle.plan.specs.Programs.{Program, Programs, code_of}
use Rattle.plan.specs.Files.{file_instruction}
use Rattle.plan.specs.Repeats.{written_out}
use Rattle.repeat_laws.specs.Left.{left_from, Stands}
use Rattle.convert.specs.declared.spot.Spot.{Spot}
use Rattle.convert.specs.Spots.{place_of, Knows}
use Rattle.plan.specs.RepeatRefusals.{new_instruction_ok, new_instructions_ok, paired_from, creates_from, paired_ok, repeated_ok, lengths_ok}

-- the instructions that stand from a place on
unfoldable pub task_in : List ℕ → ℕ → ℕ → Program
task_in b at count = table count (λ i. file_instruction b (at + 4 * i))

-- a program that has passed 3, 21, 22 and 23, in a plan of so many tasks
pub record Fine (g : Program) : Type 0 where
  pub tasks : ℕ
  pub instructions : every (new_instruction_ok tasks) g ≡ true
  pub paired : paired_from false g ≡ true
  pub creates : creates_from false g ≡ true
  pub short : length (written_out g) ≤ 64

-- a plan that has
pub record AllFine (m : Programs) : Type 0 where
  pub instructions : new_instructions_ok m ≡ true
  pub paired : paired_ok m ≡ true
  pub creates : repeated_ok m ≡ true
  pub short : lengths_ok m ≡ true

-- the program g was put into the slots from `first` on; r is how many instructions it has
pub record WrittenTask (g : Program) (first : ℕ) (before : List ℕ) (r : ℕ) (after : List ℕ) : Type 0 where
  pub count : r ≡ length g
  pub slots : after ≡ paste before first (map code_of g) (length g)

-- in g a task stands at s; w instructions are written, into the slots from `first` on
pub record Put (g : Program) (first : ℕ) (before : List ℕ) (s : Spot) (w : ℕ) (after : List ℕ) : Type 0 where
  pub fits : w ≤ length (written_out g)
  pub slots : after ≡ paste before first (map code_of (written_out g)) w
  pub left : drop w (written_out g) ≡ left_from g (place_of s)
  pub stands : Stands g (place_of s)
  pub knows : Knows g s
