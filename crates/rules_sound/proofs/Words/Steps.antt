-- A property of words that a plan keeps holds of every word of a run from its start: of the tasks, of the letters, and received.
use mathlib.Core.Path.{◌≡◌, refl, sym, ◌∙◌}
use mathlib.Core.Bool.{Bool, true}
use mathlib.Core.List.{List, [], ◌∷◌}
use Prim.Native.Nat.{ℕ, ◌≤◌}
use Rattle.std.specs.Prelude.{Ok}
use Rattle.base.specs.Lists.{every}
use Rattle.base.proofs.Choices.{pick_cases}
use Rattle.base.proofs.Tests.{and_both, within_low, within_high}
use Rattle.plan.specs.declared.Plan.{Plan}
use Rattle.plan.specs.declared.TaskId.{TaskId}
use Rattle.plan.specs.declared.Word.{Word as WordOf}
use Rattle.plan.specs.Programs.{programs}
use Rattle.plan.specs.Refusals.{plan_answer}
use Rattle.rules.specs.declared.step.Step.{Step}
use Rattle.rules.specs.declared.system.System.{System}
use Rattle.rules.specs.Numbers.{task_id, processor_id}
use Rattle.rules.specs.Systems.{meaning}
use Rattle.rules.specs.Runs.{next_of, ran, run_answer}
use Rattle.rules.specs.Sound.{system_ok}
use Rattle.rules.specs.Starts.{started}
use Rattle.rules.specs.Steps.{is_run, is_deliver, step_answer, performed, step, steps_by, steps}
use Rattle.rules_laws.specs.Shapes.{Shaped}
use Rattle.rules_laws.proofs.Shapes.{started_shaped, started_plan, step_shaped, step_plan}
use Rattle.rules_laws.proofs.Steps.{step_cases, step_passed}
use Rattle.rules_laws.proofs.StepKinds.{answer_run, answer_deliver, deliver_passed}
use Rattle.rules_sound.specs.Words.{Keeps, KeptBy, received_good, report_good, GoodSystem, GoodEffect, GoodHistory}
use Rattle.rules_sound.proofs.Answers.{run_passed}
use Rattle.rules_sound.proofs.Kept.{whole, step_kept}
use Rattle.rules_sound.proofs.Network.{message_fine}
use Rattle.rules_sound.proofs.Runs.{next_in_lem, next_fine}
use Rattle.rules_sound.proofs.Sound.{sound}
use Rattle.rules_sound.proofs.Starts.{started_ok}
use Rattle.rules_sound.proofs.Words.Systems.{completed_good, started_good}
use Rattle.rules_sound.proofs.Words.Runs.{executed_good, moved_good}
use Rattle.rules_sound.proofs.Words.Deliveries.{delivered_good}

module _ {good : WordOf → Bool} (r : System) (z : Shaped r) (ok : system_ok r ≡ true) (k : KeptBy good (meaning r)) (h : GoodSystem good r) where
  run_good : (t : TaskId) → run_answer r t ≡ Ok tt → GoodEffect good (ran r t)
  unfolding ran
  run_good t a =
      let f = sound r z ok in
      let p = run_passed r t a in
      let low = within_low 1 r.plan.tasks t.0 p.task in
      let high = within_high 1 r.plan.tasks t.0 p.task in
      let keeps = next_in_lem r f.frame (whole r z f) t low high p.ready (Keeps good) k.instructions in
      executed_good r h t r.plan.tasks (next_of r t) (next_fine r f.frame (whole r z f) t low high p.ready) keeps

  performed_good : (s : Step) → step_answer r s ≡ Ok tt → GoodEffect good (performed r s)
  unfolding performed
  performed_good s a =
      let rule = (step_passed r s a).rule in
      pick_cases (GoodEffect good) (is_run s) _ _
      (λ u. run_good (task_id s.task) (sym (answer_run r s u) ∙ rule))
      (λ u.
      pick_cases (GoodEffect good) (is_deliver s) _ _
      (λ d.
      let (some, there) = deliver_passed r s.number (sym (answer_deliver r s d) ∙ rule) in
      let fine = message_fine r.processors r.plan r.network z.slots (sound r z ok).network s.number some there in
      delivered_good r h _ _ s.number fine)
      (λ d. moved_good r h (task_id s.task) (processor_id s.number)))

  step_good : (s : Step) → (GoodSystem good (step r s).system) × (report_good good (step r s).report ≡ true)
  unfolding received_good
  step_good s =
      step_cases r s (λ o. (GoodSystem good o.system) × (report_good good o.report ≡ true)) (λ e. (h, refl))
      (λ e. let p = performed_good s e in (completed_good (performed r s) p, p.received))

module _ {good : WordOf → Bool} where
  steps_good : (r : System) → Shaped r → system_ok r ≡ true → KeptBy good (meaning r) → GoodSystem good r → (ss : List Step) → GoodHistory good (steps r ss)
  unfolding steps_by every
  steps_good r z ok k h [] = record { system = h; reports = refl }
  steps_good r z ok k h (s ∷ ss) =
      let (system, report) = step_good r z ok k h s in
      let more = steps_good (step r s).system (step_shaped r s z) (step_kept r s z ok) (rw (step_plan r s) k) system ss in
      record { system = more.system; reports = and_both _ _ report more.reports }

  -- any list of steps from the start of an accepted plan
  pub words_good : (n : ℕ) (p : Plan) (ss : List Step) → 1 ≤ n → n ≤ 6 → plan_answer (programs p) ≡ Ok tt → KeptBy good (programs p)
      → GoodHistory good (steps (started n p) ss)
  words_good n p ss some few a k =
      steps_good (started n p) (started_shaped n p) (started_ok n p some few a) (rw (started_plan n p) k) (started_good k.birth n p) ss
