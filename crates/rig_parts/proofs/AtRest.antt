-- Rest: what is computed on the parts of a rig is what the rules say of the rig.
use mathlib.Core.Path.{◌≡◌, refl, ap, fun_ext}
use mathlib.Core.Bool.{Bool, true, false, not, ◌&&◌}
use Prim.Native.Nat.{ℕ}
use lib.Dec.{eqb}
use Rattle.std.specs.Prelude.{Ok, Err}
use Rattle.base.specs.Range.{up_to}
use Rattle.rules.specs.Answers.{StepAnswer}
use Rattle.rules.specs.declared.system.System.{System}
use Rattle.rules.specs.Numbers.{task_id}
use Rattle.rules.specs.Answers.{is_accepted}
use Rattle.rules.specs.Runs.{next_of, run_answer}
use Rattle.rules.specs.Sound.{system_ok}
use Rattle.rules.specs.Steps.{well_formed, kind_answer, ruled_answer, step_answer, run_step, quiescent}
use Rattle.rules_laws.specs.Shapes.{Shaped}
use Rattle.rules_sound.proofs.Sound.{sound}
use Rattle.rig_parts.specs.Answers.{Verdict}
use Rattle.rig_parts.specs.Facts.{facts_of, kept_in}
use Rattle.rig_parts.specs.RunVerdicts.{judged_run}
use Rattle.rig_parts.specs.Rests.{is_refused, rest_in}
use Rattle.rig_parts.specs.Effects.{ran_of}
use Rattle.rig_parts.specs.Answers.{unless_refused}
use Rattle.rig_parts.proofs.Answers.{not_accepted}
use Rattle.rig_parts.proofs.Runs.{run_answer_lem}

-- where v refuses nothing, the answer alone refuses
pub refused_by : (a : StepAnswer) (v : Verdict) → is_refused v ≡ false → is_refused (unless_refused a v) ≡ not (is_accepted a)
refused_by (Ok tt) v h = h
refused_by (Err q) v h = rw (not_accepted q) refl

module _ (r : System) (z : Shaped r) (o : system_ok r ≡ true) where
  -- a run of task t
  run_refused : (t : ℕ)
      → is_refused (judged_run (facts_of r.plan) r.processors r.tasks (kept_in r) r.network.used (task_id t))
      ≡ not (is_accepted (step_answer r (run_step t)))
  unfolding step_answer ruled_answer well_formed kind_answer
  run_refused t =
      rw (o, run_answer_lem r (sound r z o) (task_id t)) (refused_by (run_answer r (task_id t)) (Ok (ran_of r (task_id t) (next_of r (task_id t)))) refl)

  pub rest_is : rest_in (facts_of r.plan) r.processors r.tasks (kept_in r) r.network.used ≡ quiescent r
  unfolding rest_in quiescent
  rest_is = ap (λ (test : ℕ → Bool). eqb r.network.used 0 && up_to r.plan.tasks test) (fun_ext run_refused)
