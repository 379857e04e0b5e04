-- A plan file that was opened and accepted: its plan passes, and a run of it begins.
use mathlib.Core.Path.{◌≡◌, sym, ◌∙◌, ap}
use mathlib.Core.Bool.{true}
use mathlib.Core.List.{List}
use Prim.Native.Nat.{ℕ}
use Rattle.std.specs.Prelude.{Ok}
use Rattle.base.specs.Choice.{within}
use Rattle.base.proofs.Tests.{within_low, within_high}
use Rattle.plan.specs.declared.Plan.{Plan}
use Rattle.plan.specs.Programs.{programs}
use Rattle.plan.specs.Refusals.{plan_answer}
use Rattle.plan.specs.Files.{file_answer}
use Rattle.plan_file.specs.declared.opening.Opened.{Opened}
use Rattle.plan_file.specs.Opens.{file_plan, PlanOpened}
use Rattle.plan_index.specs.ends.Derived.{ends_of}
use Rattle.rig_parts.specs.Facts.{facts}
use Rattle.run.specs.file.Begins.{Begins}
use Rattle.run.proofs.file.Outcomes.{plan_ok}

module _ {p : List ℕ} {o : Opened} {codes parents senders receivers : List ℕ} (h : PlanOpened p o codes parents senders receivers) (a : o.answer ≡ Ok tt) where
  pub opened_file : file_answer p ≡ Ok tt
  opened_file = sym h.answered ∙ a

  pub opened_passes : plan_answer (programs (record { tasks = o.tasks; lengths = o.lengths; codes = codes })) ≡ Ok tt
  opened_passes = rw (h.plan a) (plan_ok p opened_file)

  pub opened_begins : (n : ℕ) → within 1 6 n ≡ true → {numbers : List ℕ} → numbers ≡ (ends_of (record { tasks = o.tasks; lengths = o.lengths; codes = codes })).numbers
      → Begins n (file_plan p) (facts o.tasks codes numbers senders receivers parents)
  unfolding ends_of
  opened_begins n d e =
      let plan = h.plan a in
      let users = h.firsts a in
      let numbers = e ∙ ap (λ (x : Plan). (ends_of x).numbers) plan in
      record {
        some = within_low 1 6 n d;
        most = within_high 1 6 n d;
        accepted = plan_ok p opened_file;
        derived = λ i. facts (plan i).tasks (plan i).codes (numbers i) (users.senders i) (users.receivers i) (users.parents i);
      }
