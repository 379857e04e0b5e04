-- What opening a plan file leaves.
use Rattle.std.specs.Prelude.{◌≡◌, List, ℕ, Ok}
use Rattle.plan.specs.declared.Plan.{Plan}
use Rattle.plan.specs.Programs.{programs, canonical}
use Rattle.plan.specs.Files.{file_programs, file_answer}
use Rattle.plan_value.specs.Firsts.{Firsts}
use Rattle.plan_file.specs.declared.opening.Opened.{Opened}

-- the plan value of a file
abbrev pub file_plan : List ℕ → Plan
file_plan p = canonical (file_programs p)

-- the answer about file p, and where it is accepted its plan value, and who uses what
pub record PlanOpened (p : List ℕ) (o : Opened) (codes parents senders receivers : List ℕ) : Type 0 where
  pub answered : o.answer ≡ file_answer p
  pub plan : o.answer ≡ Ok tt → ◌≡◌ {A = Plan} (record { tasks = o.tasks; lengths = o.lengths; codes = codes }) (file_plan p)
  pub firsts : o.answer ≡ Ok tt → Firsts (programs (file_plan p)) parents senders receivers
