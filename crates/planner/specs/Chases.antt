-- The exported chase: its answer, both outputs then, and what the written files do.
use Rattle.std.specs.Prelude.{◌≡◌, List, ℕ, ◌+◌, ◌*◌, length, take, Ok, Err}
use Rattle.chase.specs.Construction.{chase_plan, chase_file}
use Rattle.chase.specs.Chase.{Chase}
use Rattle.chase.specs.Outcomes.{ChaseAnswer, chase_number, chase_answer, holds}
use Rattle.driver.specs.Runs.{packed}

-- how many bytes of steps are written; the plan always has as many as `chase_plan`
abbrev pub chase_size : ChaseAnswer → ℕ
chase_size (Ok n) = n
chase_size (Err e) = 0

-- the longest chase has 500 rounds of three steps and 11 more, of 4 bytes each
abbrev pub longest_chase : ℕ
longest_chase = 4 * (3 * 500 + 11)

-- 0 or the refusal's number, and 256 times the number of bytes of steps
abbrev pub chase_packed : ChaseAnswer → ℕ
chase_packed a = packed (chase_number a) (chase_size a)

-- a chase of m forwards answered and wrote so: `result` and the bytes hold of every call, and where it was written, `chase` says what both files do
pub record ChaseWrites (m : ℕ) (plan steps : List ℕ) (r : ℕ) (planThen stepsThen : List ℕ) : Type 0 where
  pub result : r ≡ chase_packed (chase_answer m (length plan) (length steps))
  pub plan_bytes_lem : planThen ≡ holds (chase_answer m (length plan) (length steps)) chase_plan plan
  pub step_bytes_lem : stepsThen ≡ holds (chase_answer m (length plan) (length steps)) (chase_file m) steps
  pub chase : (n : ℕ) → chase_answer m (length plan) (length steps) ≡ Ok n → Chase m (take (length chase_plan) planThen) (take n stepsThen)
