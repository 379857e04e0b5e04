-- A plan value whose unused slots are zero.
use Rattle.std.specs.Prelude.{◌≡◌, ℕ, ◌≤◌, ◌<◌, ◌/◌, ◌%◌, length, get_or}
use Rattle.plan.specs.declared.Plan.{Plan}

pub record Clear (p : Plan) : Type 0 where
  -- at most 64 tasks of at most 64 instructions
  pub few : p.tasks ≤ 64
  pub short : (k : ℕ) → get_or p.lengths k 0 ≤ 64
  -- the sizes of the fields
  pub lengths_size : length p.lengths ≡ 64
  pub codes_size : length p.codes ≡ 4096
  -- no length behind the last task, nothing behind a task's last instruction
  pub no_length : (k : ℕ) → p.tasks ≤ k → get_or p.lengths k 0 ≡ 0
  pub no_code : (s : ℕ) → s < 4096 → get_or p.lengths (s / 64) 0 ≤ s % 64 → get_or p.codes s 0 ≡ 0
