-- What comes out of reading and writing again, and of writing and reading again.
use Rattle.std.specs.Prelude.{◌≡◌, List, ◌++◌, ℕ, ◌≤◌, length, drop, Ok}
use Rattle.plan.specs.declared.Plan.{Plan}
use Rattle.plan.specs.declared.PlanRead.{PlanRead}
use Rattle.plan.specs.Answers.{WriteAnswer}
use Rattle.plan.specs.Programs.{programs, canonical}
use Rattle.plan.specs.Refusals.{plan_answer}
use Rattle.plan.specs.Layout.{layout}
use Rattle.plan.specs.Files.{file_answer}
use Rattle.plan_laws.specs.Clear.{Clear}

-- a file that is accepted and fits the output is written as it was, and what stood behind it is kept
pub record Rewritten (file before : List ℕ) (r : WriteAnswer) (after : List ℕ) : Type 0 where
  pub answer : file_answer file ≡ Ok tt → length file ≤ length before → r ≡ Ok (length file)
  pub bytes : file_answer file ≡ Ok tt → length file ≤ length before → after ≡ file ++ drop (length file) before

-- a plan that is accepted and fits the output comes back with its unused slots zero, and as the very value if they were
pub record Reread (p : Plan) (before : List ℕ) (r : PlanRead) : Type 0 where
  pub meaning : plan_answer (programs p) ≡ Ok tt → length (layout (programs p)) ≤ length before
      → r ≡ record { answer = Ok tt; plan = canonical (programs p) }
  pub value : plan_answer (programs p) ≡ Ok tt → length (layout (programs p)) ≤ length before → Clear p
      → r ≡ record { answer = Ok tt; plan = p }
