-- Two rigs that are the same but for the last choices: they answer and do the same.
use mathlib.Core.Path.{◌≡◌, refl, sym, ◌∙◌, ap, subst}
use mathlib.Core.Bool.{not, ◌&&◌, true}
use mathlib.Core.List.{List, [], ◌∷◌}
use Prim.Native.Nat.{suc}
use lib.Dec.{eqb}
use Rattle.base.proofs.Folds.{fold_same}
use Rattle.plan.specs.declared.Plan.{Plan}
use Rattle.rules.specs.declared.step.Step.{Step}
use Rattle.rules.specs.declared.step.Stepped.{Stepped}
use Rattle.rules.specs.declared.system.System.{System}
use Rattle.rules.specs.Answers.{is_accepted}
use Rattle.rules.specs.Systems.{with_chosen}
use Rattle.rules.specs.Sound.{chosen_ok, system_ok}
use Rattle.rules.specs.Steps.{step_answer, step, steps_by, steps, run_step, quiescent}
use Rattle.rules_laws.proofs.Shapes.{step_plan, step_chosen}
use Rattle.rules_laws.proofs.Blind.{system_blind, step_answer_blind, step_blind}

-- r is q but for the last choices, which 9 refuses in both or in neither
pub record ButChosen (r q : System) : Type 0 where
  pub is : r ≡ with_chosen q r.chosen
  pub same : chosen_ok q.plan.tasks r.chosen ≡ chosen_ok q.plan.tasks q.chosen

pub but_itself : (r : System) → ButChosen r r
but_itself r = record { is = refl; same = refl }

pub but_then : {r q w : System} → ButChosen r q → ButChosen q w → ButChosen r w
but_then {r} {q} {w} a b =
    let plan : q.plan ≡ w.plan = ap (λ (z : System). z.plan) b.is in
    record {
      is = a.is ∙ ap (λ (z : System). with_chosen z r.chosen) b.is;
      same = subst (λ (z : Plan). chosen_ok z.tasks r.chosen ≡ chosen_ok z.tasks q.chosen) plan a.same ∙ b.same;
    }

module _ {r q : System} (b : ButChosen r q) where
  pub but_system : system_ok r ≡ system_ok q
  but_system = ap system_ok b.is ∙ system_blind q r.chosen b.same

  pub but_answer : (s : Step) → step_answer r s ≡ step_answer q s
  but_answer s = ap (λ (z : System). step_answer z s) b.is ∙ step_answer_blind q r.chosen b.same s

  pub but_report : (s : Step) → (step r s).report ≡ (step q s).report
  but_report s = ap (λ (z : System). (step z s).report) b.is ∙ ap (λ (o : Stepped). o.report) (step_blind q r.chosen b.same s)

  pub but_step : (s : Step) → ButChosen (step r s).system (step q s).system
  but_step s =
      let there = ap (λ (z : System). (step z s).system) b.is ∙ ap (λ (o : Stepped). o.system) (step_blind q r.chosen b.same s) in
      record {
        is = there ∙ ap (with_chosen (step q s).system) (sym (step_chosen r s));
        same = rw (step_plan q s, step_chosen q s, step_chosen r s) b.same;
      }

  pub but_quiescent : quiescent r ≡ quiescent q
  unfolding quiescent
  but_quiescent =
      ap quiescent b.is
      ∙ ap (◌&&◌ (eqb q.network.used 0))
      (fold_same ◌&&◌ true q.plan.tasks (λ t. not (is_accepted (step_answer (with_chosen q r.chosen) (run_step (suc t)))))
      (λ t. not (is_accepted (step_answer q (run_step (suc t)))))
      (λ t l. rw (step_answer_blind q r.chosen b.same (run_step (suc t))) refl))

-- after steps
pub but_steps : {r q : System} → ButChosen r q → (ss : List Step) → ButChosen (steps r ss).system (steps q ss).system
unfolding steps_by
but_steps b [] = b
but_steps {r = r} {q = q} b (s ∷ ss) = but_steps {r = (step r s).system} {q = (step q s).system} (but_step b s) ss

pub but_reports : {r q : System} → ButChosen r q → (ss : List Step) → (steps r ss).reports ≡ (steps q ss).reports
unfolding steps_by
but_reports b [] = refl
but_reports {r = r} {q = q} b (s ∷ ss) = rw (but_report b s, but_reports {r = (step r s).system} {q = (step q s).system} (but_step b s) ss) refl
