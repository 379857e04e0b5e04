-- "Designers don't want unreleased levels on tablets.": what tablets show does not depend on the arguments of sets and adds. Said of the definitions
-- of `rules` and of the statement alone.
use Rattle.std.specs.Prelude.{◌≡◌, true, List, map, ℕ, ◌≤◌, Ok}
use Rattle.plan.specs.declared.Plan.{Plan}
use Rattle.plan.specs.declared.TaskId.{TaskId}
use Rattle.plan.specs.Programs.{programs}
use Rattle.plan.specs.Refusals.{plan_answer}
use Rattle.rules.specs.declared.step.Step.{Step}
use Rattle.rules.specs.declared.system.System.{System}
use Rattle.rules.specs.Sound.{system_ok}
use Rattle.rules.specs.Steps.{step, quiescent}
use Rattle.rules.specs.Views.{tablet_of}
use Rattle.rules.specs.Erasures.{erased_programs, erase, erased_stepped}
use Rattle.claim.specs.Statement.{from}

-- `erase_commutes`: "Words don't reach a tablet at all." A step of a rig without words is that of the rig, without words
abbrev pub EraseCommutes : Type 0
EraseCommutes = (r : System) (s : Step) → system_ok r ≡ true → step (erase r) s ≡ erased_stepped (step r s)

-- `tablet_erased`: what a tablet shows of a task is what it shows of the rig without words
abbrev pub TabletErased : Type 0
TabletErased = (r : System) (t : TaskId) → system_ok r ≡ true → tablet_of (erase r) t ≡ tablet_of r t

-- "the same steps must give tablets the same records, answers, mail counts and rest report after every step": after the list ss, of two plans on n
-- desks. It is said of every list, so of every beginning of one: after every step
pub record SameTablets (n : ℕ) (p q : Plan) (ss : List Step) : Type 0 where
  pub records : (t : TaskId) → tablet_of (from n p ss).system t ≡ tablet_of (from n q ss).system t
  pub answers : map (λ x. x.answer) (from n p ss).reports ≡ map (λ x. x.answer) (from n q ss).reports
  pub mail : (from n p ss).system.network.used ≡ (from n q ss).system.network.used
  pub rest : quiescent (from n p ss).system ≡ quiescent (from n q ss).system

-- `same_tablets`: "For two accepted plans that differ only in arguments of set and add, started on as many desks". Whether sums go over the top may
-- differ, and then marks do
abbrev pub TabletsAlike : Type 0
TabletsAlike =
    (n : ℕ) (p q : Plan) (ss : List Step) → 1 ≤ n → n ≤ 6
    → plan_answer (programs p) ≡ Ok tt → plan_answer (programs q) ≡ Ok tt
    → erased_programs (programs p) ≡ erased_programs (programs q)
    → SameTablets n p q ss
