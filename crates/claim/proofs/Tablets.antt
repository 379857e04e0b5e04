-- What tablets show does not depend on the arguments of sets and adds.
use mathlib.Core.Path.{◌≡◌, refl, ap, sym, ◌∙◌}
use mathlib.Core.Bool.{true}
use mathlib.Core.List.{List, [], ◌∷◌, map}
use Prim.Native.Nat.{ℕ, ◌≤◌}
use Rattle.std.specs.Prelude.{Ok}
use Rattle.plan.specs.declared.Plan.{Plan}
use Rattle.plan.specs.Programs.{programs, canonical}
use Rattle.plan.specs.Refusals.{plan_answer}
use Rattle.rules.specs.declared.step.Report.{Report}
use Rattle.rules.specs.declared.step.Step.{Step}
use Rattle.rules.specs.Answers.{StepAnswer}
use Rattle.rules.specs.declared.system.System.{System}
use Rattle.rules.specs.Sound.{system_ok}
use Rattle.rules.specs.Starts.{started}
use Rattle.rules.specs.Steps.{History, quiescent, steps}
use Rattle.rules.specs.Views.{tablet_of}
use Rattle.rules.specs.Erasures.{erased_programs, erased_plan, erased_report, erase}
use Rattle.rules_laws.proofs.Shapes.{started_shaped}
use Rattle.rules_sound.proofs.Kept.{steps_kept}
use Rattle.rules_sound.proofs.Starts.{started_ok}
use Rattle.erasure.specs.Erased.{erased_history}
use Rattle.erasure.proofs.Systems.{task_erased, tasks_same}
use Rattle.erasure.proofs.Sound.{system_erased}
use Rattle.erasure.proofs.Steps.{step_erased, quiescent_erased, steps_erased, started_erased}
use Rattle.claim.specs.Statement.{from}
use Rattle.claim.specs.Tablets.{EraseCommutes, TabletErased, SameTablets, TabletsAlike}

pub erase_commutes : EraseCommutes
erase_commutes r s ok = step_erased r ok s

pub tablet_erased : TabletErased
unfolding tablet_of
tablet_erased r t ok = rw (system_erased r ok, ok, tasks_same r, task_erased r t) refl

-- the reports have their answers without words
answers_erased : (qs : List Report) → map (λ (x : Report). x.answer) (map erased_report qs) ≡ map (λ (x : Report). x.answer) qs
answers_erased [] = refl
answers_erased (q ∷ qs) = ap (λ (rest : List StepAnswer). q.answer ∷ rest) (answers_erased qs)

-- how many letters there are
mail_erased : (r : System) → (erase r).network.used ≡ r.network.used
unfolding erase
mail_erased r = refl

-- of a function of rigs that is the same without words, what it is of two rigs that are the same without words
same_of : {A : Type 0} (f : System → A) (r q : System) → f (erase r) ≡ f r → f (erase q) ≡ f q → erase r ≡ erase q → f r ≡ f q
same_of f r q hr hq e = sym hr ∙ ap f e ∙ hq

module _ (n : ℕ) (ss : List Step) (some : 1 ≤ n) (few : n ≤ 6) where
  -- the rig that is reached is not refused by 9
  reached : (p : Plan) → plan_answer (programs p) ≡ Ok tt → system_ok (from n p ss).system ≡ true
  reached p a = steps_kept (started n p) ss (started_shaped n p) (started_ok n p some few a)

  -- the run of a plan, without words, is that of the plan without arguments
  run_erased : (p : Plan) → plan_answer (programs p) ≡ Ok tt → from n (erased_plan p) ss ≡ erased_history (from n p ss)
  run_erased p a =
      ap (λ (r : System). steps r ss) (started_erased n p a) ∙ steps_erased (started n p) (started_shaped n p) (started_ok n p some few a) ss

  module _ (p q : Plan) (a : plan_answer (programs p) ≡ Ok tt) (b : plan_answer (programs q) ≡ Ok tt)
      (same : erased_programs (programs p) ≡ erased_programs (programs q)) where
    same_plan : erased_plan p ≡ erased_plan q
    unfolding erased_plan
    same_plan = ap canonical same

    same_run : erased_history (from n p ss) ≡ erased_history (from n q ss)
    same_run = sym (run_erased p a) ∙ ap (λ (x : Plan). from n x ss) same_plan ∙ run_erased q b

    alike : SameTablets n p q ss
    alike =
        let r = (from n p ss).system in
        let s = (from n q ss).system in
        let e = ap (λ (h : History). h.system) same_run in
        record {
          records = λ t. same_of (λ x. tablet_of x t) r s (tablet_erased r t (reached p a)) (tablet_erased s t (reached q b)) e;
          answers =
              sym (answers_erased (from n p ss).reports) ∙ ap (λ (h : History). map (λ (x : Report). x.answer) h.reports) same_run
              ∙ answers_erased (from n q ss).reports;
          mail = same_of (λ x. x.network.used) r s (mail_erased r) (mail_erased s) e;
          rest = same_of quiescent r s (quiescent_erased r (reached p a)) (quiescent_erased s (reached q b)) e;
        }

pub same_tablets : TabletsAlike
same_tablets n p q ss some few a b same = alike n ss some few p q a b same
