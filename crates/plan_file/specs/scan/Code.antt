-- The instructions of a file behind a header that is in order: what is answered about them, and who uses what.
use Rattle.std.specs.Prelude.{◌≡◌, true, List, ℕ, ◌≤◌, length, Ok}
use Rattle.plan.specs.Answers.{PlanAnswer}
use Rattle.plan.specs.Programs.{canonical}
use Rattle.plan.specs.Refusals.{plan_answer}
use Rattle.plan_value.specs.Firsts.{Firsts}
use Rattle.plan_value.specs.Sizes.{sizes_in}
use Rattle.plan_file.specs.Code.{code_place, programs_in}

-- the sizes are in range, no count stands behind the last task's, and the instructions of all tasks are there
pub record Whole (b : List ℕ) (n : ℕ) (lengths : List ℕ) : Type 0 where
  pub sizes : sizes_in n lengths ≡ true
  pub counts : lengths ≡ (canonical (programs_in b n lengths)).lengths
  pub bytes : code_place lengths n 0 ≤ length b

-- the answer about them, and who uses what, where it is accepted; else the tables are of no use
pub record CodeChecked (b : List ℕ) (n : ℕ) (lengths : List ℕ) (a : PlanAnswer) (x y z : List ℕ) : Type 0 where
  pub answer : a ≡ plan_answer (programs_in b n lengths)
  pub firsts : a ≡ Ok tt → Firsts (programs_in b n lengths) x y z
