-- A step of a rig without words: its answer, what it does, lists of steps, rest, and the start.
use mathlib.Core.Path.{◌≡◌, refl, ap, sym, ◌∙◌}
use mathlib.Core.Bool.{Bool, true, false, not, ◌&&◌}
use mathlib.Core.List.{List, [], ◌∷◌}
use Prim.Native.Nat.{ℕ, suc}
use lib.Dec.{eqb}
use Rattle.std.specs.Prelude.{Ok}
use Rattle.base.specs.Choice.{unless}
use Rattle.base.specs.Range.{up_to}
use Rattle.base.proofs.Folds.{fold_same}
use Rattle.base.proofs.Tests.{within_high}
use Rattle.plan.specs.declared.TaskId.{TaskId}
use Rattle.plan.specs.declared.ProcessorId.{ProcessorId}
use Rattle.plan.specs.declared.Instruction.{Instruction}
use Rattle.plan.specs.declared.Plan.{Plan}
use Rattle.plan.specs.Programs.{programs}
use Rattle.plan.specs.Refusals.{plan_answer}
use Rattle.rules.specs.declared.task.Task.{Task}
use Rattle.rules.specs.declared.step.Step.{Step}
use Rattle.rules.specs.declared.system.System.{System}
use Rattle.rules.specs.Numbers.{task_id, processor_id, task_number_ok}
use Rattle.rules.specs.Answers.{is_accepted}
use Rattle.rules.specs.Hints.{unknown}
use Rattle.rules.specs.Systems.{task_at}
use Rattle.rules.specs.Effects.{Effect}
use Rattle.rules.specs.Runs.{next_of, ran, fits, run_tests, run_answer}
use Rattle.rules.specs.Deliver.{deliver_answer}
use Rattle.rules.specs.Moves.{move_tests, moved, move_answer}
use Rattle.rules.specs.Sound.{system_ok}
use Rattle.rules.specs.Starts.{birth, blank, started}
use Rattle.rules.specs.Steps.{is_run, is_deliver, kind_answer, ruled_answer, step_answer, performed, accepted, step, run_step, quiescent, steps_by, steps}
use Rattle.rules.specs.Erasures.{erased_instruction, erased_plan, erased_task, erased_message, erased_received, erased_stepped, erase}
use Rattle.rules_laws.specs.Shapes.{Shaped}
use Rattle.rules_laws.proofs.Shapes.{step_shaped}
use Rattle.rules_laws.proofs.StepKinds.{answer_run}
use Rattle.rules_laws.proofs.Steps.{step_refused, step_accepted, step_cases, step_passed}
use Rattle.rules_sound.proofs.Answers.{run_passed}
use Rattle.rules_sound.proofs.Kept.{step_kept}
use Rattle.erasure.specs.Erased.{erased_effect, erased_history}
use Rattle.erasure.proofs.Deliveries.{delivered_erased}
use Rattle.erasure.proofs.Lists.{pick_map}
use Rattle.erasure.proofs.Moves.{moved_erased}
use Rattle.erasure.proofs.Networks.{posted_length}
use Rattle.erasure.proofs.Programs.{finish_erased}
use Rattle.erasure.proofs.Runs.{next_of_lem, ran_erased}
use Rattle.erasure.proofs.Sound.{readable, system_erased}
use Rattle.erasure.proofs.Systems.{task_erased, tasks_same, birth_erased, completed_erased}

unless_same : {A : Type 0} (ok : Bool) (refusal x y : A) → (ok ≡ true → x ≡ y) → unless ok refusal x ≡ unless ok refusal y
unless_same true refusal x y h = h refl
unless_same false refusal x y h = refl

-- the letters of a step fit in the mail of both, or of neither
fits_erased : (r : System) (e : Effect) → fits (erase r) (erased_effect e) ≡ fits r e
unfolding fits erase
fits_erased r e = rw (posted_length r.processors e.posting) refl

-- a run is refused by the same number; only of a task that there is need it be known whether the letters fit
run_tests_lem : (n : ℕ) (t : TaskId) (x : Task) (i : Instruction) (a b : Bool) → (task_number_ok n t ≡ true → a ≡ b)
    → run_tests n t (erased_task x) (erased_instruction i) a ≡ run_tests n t x i b
run_tests_lem n t x i a b h = unless_same (task_number_ok n t) _ _ _ (λ e. rw (h e, finish_erased i) refl)

module _ (r : System) (ok : system_ok r ≡ true) where
  run_answer_lem : (t : TaskId) → run_answer (erase r) t ≡ run_answer r t
  unfolding run_answer
  run_answer_lem t =
      let k = readable r ok in
      ap (λ n. run_tests n t (task_at (erase r) t) (next_of (erase r) t) (fits (erase r) (ran (erase r) t))) (tasks_same r)
      ∙ rw (next_of_lem r k t, task_erased r t)
      (run_tests_lem r.plan.tasks t (task_at r t) (next_of r t) (fits (erase r) (ran (erase r) t)) (fits r (ran r t))
      (λ e. ap (fits (erase r)) (ran_erased r k t (within_high 1 r.plan.tasks t.0 e)) ∙ fits_erased r (ran r t)))

  move_answer_lem : (t : TaskId) (e : ProcessorId) → move_answer (erase r) t e ≡ move_answer r t e
  unfolding move_answer erase
  move_answer_lem t e =
      let m = r.plan.tasks in
      ap (λ n. move_tests n r.processors t (task_at (erase r) t) e (fits (erase r) (moved (erase r) t e))) (tasks_same r)
      ∙ ap (λ x. move_tests m r.processors t x e (fits (erase r) (moved (erase r) t e))) (task_erased r t)
      ∙ ap (move_tests m r.processors t (task_at r t) e) (ap (fits (erase r)) (moved_erased r (readable r ok).plan t e) ∙ fits_erased r (moved r t e))

  deliver_answer_lem : (p : ℕ) → deliver_answer (erase r) p ≡ deliver_answer r p
  unfolding deliver_answer erase
  deliver_answer_lem p = refl

  pub answer_erased : (s : Step) → step_answer (erase r) s ≡ step_answer r s
  unfolding step_answer ruled_answer kind_answer
  answer_erased s =
      rw
      (system_erased r ok, ok, run_answer_lem (task_id s.task), deliver_answer_lem s.number, move_answer_lem (task_id s.task) (processor_id s.number))
      refl

  performed_erased : (s : Step) → step_answer r s ≡ Ok tt → performed (erase r) s ≡ erased_effect (performed r s)
  unfolding performed
  performed_erased s a =
      let t = task_id s.task in
      let k = readable r ok in
      pick_map erased_effect (is_run s)
      (λ u.
      ran_erased r k t (within_high 1 r.plan.tasks s.task (run_passed r t (sym (answer_run r s u) ∙ (step_passed r s a).rule)).task))
      (λ u. pick_map erased_effect (is_deliver s) (λ d. delivered_erased r k s.number) (λ d. moved_erased r k.plan t (processor_id s.number)))

  accepted_erased : (e : Effect) → accepted (erased_effect e) ≡ erased_stepped (accepted e)
  accepted_erased e = rw (completed_erased e) refl

  pub step_erased : (s : Step) → step (erase r) s ≡ erased_stepped (step r s)
  unfolding erased_received
  step_erased s =
      step_cases r s (λ o. step (erase r) s ≡ erased_stepped o)
      (λ e. step_refused (erase r) s (step_answer r s) (answer_erased s) e)
      (λ e. step_accepted (erase r) s (answer_erased s ∙ e) ∙ ap accepted (performed_erased s e) ∙ accepted_erased (performed r s))

  pub quiescent_erased : quiescent (erase r) ≡ quiescent r
  unfolding quiescent erase
  quiescent_erased =
      ap (λ n. eqb r.network.used 0 && up_to n (λ t. not (is_accepted (step_answer (erase r) (run_step t))))) (tasks_same r)
      ∙ ap (λ b. eqb r.network.used 0 && b)
      (fold_same _ _ r.plan.tasks _ _ (λ i l. ap (λ a. not (is_accepted a)) (answer_erased (run_step (suc i)))))

-- a list of steps
pub steps_erased : (r : System) → Shaped r → system_ok r ≡ true → (ss : List Step) → steps (erase r) ss ≡ erased_history (steps r ss)
unfolding steps_by
steps_erased r z ok [] = refl
steps_erased r z ok (s ∷ ss) = rw (step_erased r ok s, steps_erased (step r s).system (step_shaped r s z) (step_kept r s z ok) ss) refl

-- the start
blank_erased : (n : ℕ) (p : Plan) → blank n (erased_plan p) ≡ erase (blank n p)
unfolding blank erase erased_message
blank_erased n p = refl

pub started_erased : (n : ℕ) (p : Plan) → plan_answer (programs p) ≡ Ok tt → started n (erased_plan p) ≡ erase (started n p)
unfolding started blank
started_erased n p a =
    ap (λ (q : System). birth q (task_id 1) (processor_id 1) unknown) (blank_erased n p) ∙ birth_erased (blank n p) a (task_id 1) (processor_id 1) unknown
