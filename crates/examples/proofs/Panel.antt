-- What is said of panels, used: of a plan with two tasks on two desks. At its start task 1 can run; after the steps the rig rests, and no run and no
-- delivery can be pressed. Either way the counts are 262 together.
use mathlib.Core.Path.{◌≡◌, refl, sym, ap, ◌∙◌}
use mathlib.Core.Bool.{true, false}
use mathlib.Core.List.{List, []}
use native.Mathlib.Omega.{arith}
use lib.Dec.{eqb}
use lib.ListN.{get_or}
use borrow.Author.Tests.{eqb-true}
use Rattle.std.specs.Prelude.{Ok}
use Rattle.base.specs.Range.{sum_below}
use Rattle.plan.specs.Programs.{programs}
use Rattle.plan.specs.Refusals.{plan_answer}
use Rattle.rules.specs.declared.step.Step.{Step}
use Rattle.rules.specs.Panel.{answering, panel}
use Rattle.rules.specs.Sound.{system_ok}
use Rattle.rules.specs.Starts.{started}
use Rattle.rules.specs.Steps.{History, ruled_steps, quiescent}
use Rattle.rules.proofs.Evaluated.{evaluated}
use Rattle.rules_laws.proofs.Shapes.{started_shaped}
use Rattle.rules_sound.proofs.Kept.{ruled_steps_lem, steps_kept}
use Rattle.rules_sound.proofs.Starts.{started_ok}
use Rattle.claim.specs.Statement.{from}
use Rattle.claim.specs.Panel.{total_in, runs_and_deliveries}
use Rattle.claim.proofs.Panel.{counts_together, run_rest_shown}
use Rattle.examples.specs.Tablets.{low_plan, level_steps}

accepted : plan_answer (programs low_plan) ≡ Ok tt
unfolding evaluated
accepted = refl

module _ (ss : List Step) where
  -- the run on two desks, with 9 tested at the end only
  as_ruled : from 2 low_plan ss ≡ ruled_steps (started 2 low_plan) ss
  as_ruled = sym (ruled_steps_lem (started 2 low_plan) ss (started_shaped 2 low_plan) (started_ok 2 low_plan (omega arith) (omega arith) accepted))

  reached : system_ok (from 2 low_plan ss).system ≡ true
  reached = steps_kept (started 2 low_plan) ss (started_shaped 2 low_plan) (started_ok 2 low_plan (omega arith) (omega arith) accepted)

  together : sum_below 27 (λ a. get_or (panel (from 2 low_plan ss).system) a 0) ≡ total_in (from 2 low_plan ss).system
  together = let p = counts_together (from 2 low_plan ss).system in p.together (p.inside reached)

ruled_total : total_in (ruled_steps (started 2 low_plan) level_steps).system ≡ 262
unfolding evaluated
ruled_total = refl

pub total : sum_below 27 (λ a. get_or (panel (from 2 low_plan level_steps).system) a 0) ≡ 262
total = together level_steps ∙ ap (λ (h : History). total_in h.system) (as_ruled level_steps) ∙ ruled_total

-- where it rests
ruled_rests : quiescent (ruled_steps (started 2 low_plan) level_steps).system ≡ true
unfolding evaluated
ruled_rests = refl

pub none_pressed : let r = (from 2 low_plan level_steps).system in answering r 0 (runs_and_deliveries r.plan.tasks) ≡ 0
none_pressed =
    eqb-true _ 0
    (sym (run_rest_shown 2 low_plan level_steps (omega arith) (omega arith) accepted).rest
    ∙ ap (λ (h : History). quiescent h.system) (as_ruled level_steps)
    ∙ ruled_rests)

-- at the start it does not
ruled_starts : quiescent (ruled_steps (started 2 low_plan) []).system ≡ false
unfolding evaluated
ruled_starts = refl

pub some_pressed : let r = (from 2 low_plan []).system in eqb (answering r 0 (runs_and_deliveries r.plan.tasks)) 0 ≡ false
some_pressed =
    sym (run_rest_shown 2 low_plan [] (omega arith) (omega arith) accepted).rest
    ∙ ap (λ (h : History). quiescent h.system) (as_ruled [])
    ∙ ruled_starts
