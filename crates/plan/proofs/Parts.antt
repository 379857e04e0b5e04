-- The parts of programs that are given by a rule, and so of what a plan value means and of what a file holds.
use Rattle.std.proofs.Common.{◌≡◌, ℕ, ◌+◌, ◌*◌, ◌<◌, ◌≤◌, List, [], length, get_or}
use lib.ListN.{get_or-eq_default}
use Rattle.base.specs.Lists.{table}
use Rattle.base.proofs.Tables.{length_table, get_d_table}
use Rattle.plan.specs.declared.Instruction.{Instruction}
use Rattle.plan.specs.declared.Plan.{Plan}
use Rattle.plan.specs.Kinds.{no_instruction}
use Rattle.plan.specs.Programs.{Programs, program_at, instruction_at, slot_of, program_of, programs}
use Rattle.plan.specs.Layout.{count_of}
use Rattle.plan.specs.Files.{file_tasks, file_count, file_instruction, place_of, file_program, file_programs}

-- n programs, of which the k-th from 0 has count k instructions
abbrev pub ruled : ℕ → (ℕ → ℕ) → (ℕ → ℕ → Instruction) → Programs
ruled n count at = table n (λ k. table (count k) (at k))

module _ (n : ℕ) (count : ℕ → ℕ) (at : ℕ → ℕ → Instruction) where
  pub ruled_tasks : length (ruled n count at) ≡ n
  ruled_tasks = length_table n (λ k. table (count k) (at k))

  ruled_program : (k : ℕ) → k < n → program_at (ruled n count at) k ≡ table (count k) (at k)
  ruled_program k h = get_d_table n (λ k. table (count k) (at k)) k [] h

  pub ruled_none : (k : ℕ) → n ≤ k → program_at (ruled n count at) k ≡ []
  ruled_none k h = get_or-eq_default (ruled n count at) [] (rw ruled_tasks h)

  pub ruled_count : (k : ℕ) → k < n → count_of (ruled n count at) k ≡ count k
  ruled_count k h = rw (ruled_program k h) (length_table (count k) (at k))

  pub ruled_instruction : (k i : ℕ) → k < n → i < count k → instruction_at (program_at (ruled n count at) k) i ≡ at k i
  ruled_instruction k i h q = rw (ruled_program k h) (get_d_table (count k) (at k) i no_instruction q)

-- of a plan value's meaning
module _ (p : Plan) where
  abbrev size_in : ℕ → ℕ
  size_in k = get_or p.lengths k 0

  abbrev slot_in_lem : ℕ → ℕ → Instruction
  slot_in_lem k i = slot_of p (64 * k + i)

  pub tasks_of_lem : length (programs p) ≡ p.tasks
  unfolding programs
  tasks_of_lem = ruled_tasks p.tasks size_in slot_in_lem

  pub program_of_lem : (k : ℕ) → k < p.tasks → program_at (programs p) k ≡ program_of p k
  unfolding programs
  program_of_lem = ruled_program p.tasks size_in slot_in_lem

  pub no_program_of : (k : ℕ) → p.tasks ≤ k → program_at (programs p) k ≡ []
  unfolding programs
  no_program_of = ruled_none p.tasks size_in slot_in_lem

  pub count_of_lem : (k : ℕ) → k < p.tasks → count_of (programs p) k ≡ get_or p.lengths k 0
  unfolding programs
  count_of_lem = ruled_count p.tasks size_in slot_in_lem

  pub instruction_of_lem : (k i : ℕ) → k < p.tasks → i < get_or p.lengths k 0 → instruction_at (program_at (programs p) k) i ≡ slot_of p (64 * k + i)
  unfolding programs
  instruction_of_lem = ruled_instruction p.tasks size_in slot_in_lem

-- of a file's programs
module _ (b : List ℕ) where
  abbrev placed : ℕ → ℕ → Instruction
  placed k i = file_instruction b (place_of b k i)

  pub tasks_in : length (file_programs b) ≡ file_tasks b
  unfolding file_programs
  tasks_in = ruled_tasks (file_tasks b) (file_count b) placed

  pub program_in_lem : (k : ℕ) → k < file_tasks b → program_at (file_programs b) k ≡ file_program b k
  unfolding file_programs
  program_in_lem = ruled_program (file_tasks b) (file_count b) placed

  pub no_program_in : (k : ℕ) → file_tasks b ≤ k → program_at (file_programs b) k ≡ []
  unfolding file_programs
  no_program_in = ruled_none (file_tasks b) (file_count b) placed

  pub count_in : (k : ℕ) → k < file_tasks b → count_of (file_programs b) k ≡ file_count b k
  unfolding file_programs
  count_in = ruled_count (file_tasks b) (file_count b) placed

  pub instruction_in_lem : (k i : ℕ) → k < file_tasks b → i < file_count b k → instruction_at (program_at (file_programs b) k) i ≡ file_instruction b (place_of b k i)
  unfolding file_programs
  instruction_in_lem = ruled_instruction (file_tasks b) (file_count b) placed
