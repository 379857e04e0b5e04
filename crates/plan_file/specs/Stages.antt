-- What a header and the bytes behind it are read as.
use Rattle.std.specs.Prelude.{◌≡◌, true, List, [], ℕ, Ok, Err}
use Rattle.base.specs.Choice.{unless}
use Rattle.plan.specs.declared.Refusal.{Refusal}
use Rattle.plan.specs.declared.Refusal.TheVariants.{BadLayout}
use Rattle.plan.specs.Answers.{PlanAnswer}
use Rattle.plan.specs.declared.PlanRead.{PlanRead}
use Rattle.plan.specs.Programs.{Programs, programs, canonical}
use Rattle.plan.specs.Refusals.{plan_answer}
use Rattle.plan_file.specs.declared.header.Header.{Header}
use Rattle.plan_file.specs.Code.{programs_in}
use Rattle.plan_value.specs.Firsts.{Firsts}
use Rattle.plan_file.specs.scan.Code.{Whole}
use Rattle.plan_file.specs.declared.Loaded.{Loaded}

-- what a refused file gives
abbrev pub read_refused : Refusal → PlanRead
read_refused r = record { answer = Err r; plan = canonical [] }

-- what programs give that are answered so
abbrev pub answered : Programs → PlanAnswer → PlanRead
answered m (Ok tt) = record { answer = Ok tt; plan = canonical m }
answered m (Err r) = read_refused r

abbrev pub of_programs : Programs → PlanRead
of_programs m = answered m (plan_answer m)

unfoldable pub plan_of : Header → List ℕ → PlanRead
plan_of h b = unless h.ok (read_refused BadLayout) (of_programs (programs_in b h.tasks h.lengths))

-- behind a header that is in order stand the instructions of its tasks
abbrev pub Fits : Header → List ℕ → Type 0
Fits h b = h.ok ≡ true → Whole b h.tasks h.lengths

-- what is loaded is what is read, and, where it is accepted, who uses what
pub record Loads (r : PlanRead) (l : Loaded) : Type 0 where
  pub read : record { answer = l.answer; plan = l.plan } ≡ r
  pub firsts : l.answer ≡ Ok tt → Firsts (programs l.plan) l.parents l.senders l.receivers
