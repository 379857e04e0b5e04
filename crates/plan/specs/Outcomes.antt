-- What reading, writing and checking a plan answer and leave behind.
use Rattle.std.specs.Prelude.{◌≡◌, ℕ, List, [], ◌++◌, length, drop, nat_le, Ok, Err}
use Rattle.base.specs.Choice.{pick, unless}
use Rattle.plan.specs.declared.Refusal.TheVariants.{OutputShort}
use Rattle.plan.specs.Answers.{PlanAnswer}
use Rattle.plan.specs.Answers.{WriteAnswer}
use Rattle.plan.specs.declared.PlanRead.{PlanRead}
use Rattle.plan.specs.Answers.{answer_number, is_accepted}
use Rattle.plan.specs.Programs.{Programs, canonical}
use Rattle.plan.specs.Refusals.{plan_answer}
use Rattle.plan.specs.Layout.{layout}
use Rattle.plan.specs.Files.{file_programs, file_answer, start_answer}

-- what reading a file gives: its plan, or, where it is refused, the plan of no task
unfoldable pub plan_read : List ℕ → PlanRead
plan_read b = record { answer = file_answer b; plan = canonical (pick (is_accepted (file_answer b)) (file_programs b) []) }

-- "Writing a plan: 2 to 6 by the same conditions, 20 if the output is short": the answer after 2 to 6
abbrev pub write_answer_after : PlanAnswer → ℕ → ℕ → WriteAnswer
write_answer_after (Ok tt) size room = unless (nat_le size room) (Err OutputShort) (Ok size)
write_answer_after (Err r) size room = Err r

unfoldable pub write_answer : Programs → List ℕ → WriteAnswer
write_answer m out = write_answer_after (plan_answer m) (length (layout m)) (length out)

-- "it then stays as it was. Bytes behind a written plan are unchanged."
abbrev pub output_after : WriteAnswer → List ℕ → List ℕ → List ℕ
output_after (Ok size) file out = file ++ drop size out
output_after (Err r) file out = out

unfoldable pub write_output : Programs → List ℕ → List ℕ
write_output m out = output_after (write_answer m out) (layout m) out

-- a plan was written or refused so: the answer, and the output then
pub record WritePlan (m : Programs) (before : List ℕ) (r : WriteAnswer) (after : List ℕ) : Type 0 where
  pub answer : r ≡ write_answer m before
  pub bytes : after ≡ write_output m before

-- 0 or the refusal's number, of a number of desks and a file
unfoldable pub start_number : ℕ → List ℕ → ℕ
start_number n b = answer_number (start_answer n b)
