-- What an accepted run and an accepted move have passed, and which answers a rig that 9 does not refuse never gets.
use mathlib.Core.Path.{◌≡◌, refl, ap}
use mathlib.Core.Bool.{Bool, true, false, not}
use mathlib.Core.Logic.{◌≢◌}
use Prim.Native.Nat.{ℕ}
use lib.Dec.{eqb}
use borrow.Author.Tests.{eqb-true, eqb-false, not-true}
use Rattle.std.specs.Prelude.{Ok, Err}
use Rattle.base.specs.Choice.{unless, within}
use Rattle.base.proofs.Choices.{pick_either, unless_not_refused}
use Rattle.plan.specs.declared.TaskId.{TaskId}
use Rattle.plan.specs.declared.ProcessorId.{ProcessorId}
use Rattle.rules.specs.declared.task.TaskState.TheVariants.{Ready}
use Rattle.rules.specs.declared.step.Step.{Step}
use Rattle.rules.specs.Answers.{StepAnswer}
use Rattle.rules.specs.declared.step.StepRefusal.TheVariants.{BadSystem, NoTask, NotReady, FinishWithChildren, NetworkFull, NoMessage, NoProcessor, AlreadyThere, MovesSpent, BadStep}
use Rattle.rules.specs.declared.system.System.{System}
use Rattle.rules.specs.Numbers.{task_id, processor_id}
use Rattle.rules.specs.Answers.{step_number}
use Rattle.rules.specs.Tasks.{is_in, is_at}
use Rattle.rules.specs.Systems.{task_at}
use Rattle.rules.specs.Runs.{ran, fits, finishes_early, run_answer}
use Rattle.rules.specs.Deliver.{deliver_answer}
use Rattle.rules.specs.Moves.{moved, move_answer}
use Rattle.rules.specs.Sound.{system_ok}
use Rattle.rules.specs.Steps.{is_run, is_deliver, well_formed, kind_answer, ruled_answer, step_answer}

-- an answer of another number is no acceptance
passed : (ok : Bool) (a rest : StepAnswer) → eqb (step_number a) 0 ≡ false → unless ok a rest ≡ Ok tt → (ok ≡ true) × (rest ≡ Ok tt)
passed ok a rest z h = unless_not_refused ok a rest (Ok tt) (λ e. eqb-false (step_number a) 0 z (ap step_number e)) h

pub record RunPassed (r : System) (t : TaskId) : Type 0 where
  pub task : within 1 r.plan.tasks t.0 ≡ true
  pub ready : is_in Ready (task_at r t) ≡ true
  pub timely : finishes_early r t ≡ false
  pub fitting : fits r (ran r t) ≡ true

pub run_passed : (r : System) (t : TaskId) → run_answer r t ≡ Ok tt → RunPassed r t
unfolding run_answer
run_passed r t h =
    let (i, h₁) = passed (within 1 r.plan.tasks t.0) (Err NoTask) _ refl h in
    let (y, h₂) = passed (is_in Ready (task_at r t)) (Err NotReady) _ refl h₁ in
    let (e, h₃) = passed (not (finishes_early r t)) (Err FinishWithChildren) _ refl h₂ in
    let (f, _) = passed (fits r (ran r t)) (Err NetworkFull) (Ok tt) refl h₃ in
    record { task = i; ready = y; timely = not-true _ e; fitting = f }

pub record MovePassed (r : System) (t : TaskId) (e : ProcessorId) : Type 0 where
  pub task : within 1 r.plan.tasks t.0 ≡ true
  pub processor : within 1 r.processors e.0 ≡ true
  pub ready : is_in Ready (task_at r t) ≡ true
  pub elsewhere : is_at e (task_at r t) ≡ false
  pub count : eqb (task_at r t).moves 9999 ≡ false
  pub fitting : fits r (moved r t e) ≡ true

pub move_passed : (r : System) (t : TaskId) (e : ProcessorId) → move_answer r t e ≡ Ok tt → MovePassed r t e
unfolding move_answer
move_passed r t e h =
    let (i, h₁) = passed (within 1 r.plan.tasks t.0) (Err NoTask) _ refl h in
    let (d, h₂) = passed (within 1 r.processors e.0) (Err NoProcessor) _ refl h₁ in
    let (y, h₃) = passed (is_in Ready (task_at r t)) (Err NotReady) _ refl h₂ in
    let (a, h₄) = passed (not (is_at e (task_at r t))) (Err AlreadyThere) _ refl h₃ in
    let (k, h₅) = passed (not (eqb (task_at r t).moves 9999)) (Err MovesSpent) _ refl h₄ in
    let (f, _) = passed (fits r (moved r t e)) (Err NetworkFull) (Ok tt) refl h₅ in
    record { task = i; processor = d; ready = y; elsewhere = not-true _ a; count = not-true _ k; fitting = f }

-- what holds of every answer but 9, 17 and 18
pub record Answers (P : StepAnswer → Type 0) : Type 0 where
  pub accepted : P (Ok tt)
  pub no_task_lem : P (Err NoTask)
  pub not_ready : P (Err NotReady)
  pub finish_with_children : P (Err FinishWithChildren)
  pub network_full : P (Err NetworkFull)
  pub no_message : P (Err NoMessage)
  pub no_processor_lem : P (Err NoProcessor)
  pub already_there : P (Err AlreadyThere)
  pub bad_step : P (Err BadStep)

-- holds of the answer of a rig that 9 does not refuse, if it holds of 18 where the task has that count
module _ (r : System) (P : StepAnswer → Type 0) (all : Answers P) where
  either : (ok : Bool) (a rest : StepAnswer) → P a → P rest → P (unless ok a rest)
  either true a rest p q = q
  either false a rest p q = p

  run_either : (t : TaskId) → P (run_answer r t)
  unfolding run_answer
  run_either t =
      either (within 1 r.plan.tasks t.0) (Err NoTask) _ all.no_task_lem
      (either (is_in Ready (task_at r t)) (Err NotReady) _ all.not_ready
      (either (not (finishes_early r t)) (Err FinishWithChildren) _ all.finish_with_children
      (either (fits r (ran r t)) (Err NetworkFull) (Ok tt) all.network_full all.accepted)))

  deliver_either : (p : ℕ) → P (deliver_answer r p)
  unfolding deliver_answer
  deliver_either p = either (within 1 r.network.used p) (Err NoMessage) (Ok tt) all.no_message all.accepted

  move_either : (t : TaskId) (e : ProcessorId) → ((task_at r t).moves ≡ 9999 → P (Err MovesSpent)) → P (move_answer r t e)
  unfolding move_answer
  move_either t e spent =
      let rest = either (fits r (moved r t e)) (Err NetworkFull) (Ok tt) all.network_full all.accepted in
      either (within 1 r.plan.tasks t.0) (Err NoTask) _ all.no_task_lem
      (either (within 1 r.processors e.0) (Err NoProcessor) _ all.no_processor_lem
      (either (is_in Ready (task_at r t)) (Err NotReady) _ all.not_ready
      (either (not (is_at e (task_at r t))) (Err AlreadyThere) _ all.already_there
      (count (eqb (task_at r t).moves 9999) refl (unless (fits r (moved r t e)) (Err NetworkFull) (Ok tt)) rest))))
    where
      count : (b : Bool) → eqb (task_at r t).moves 9999 ≡ b → (a : StepAnswer) → P a → P (unless (not b) (Err MovesSpent) a)
      count true f a p = spent (eqb-true (task_at r t).moves 9999 f)
      count false f a p = p

  pub each_answer : (s : Step) → system_ok r ≡ true → ((task_at r (task_id s.task)).moves ≡ 9999 → P (Err MovesSpent)) → P (step_answer r s)
  unfolding step_answer ruled_answer kind_answer
  each_answer s h spent =
      rw h
      (either (well_formed s) (Err BadStep) _ all.bad_step
      (pick_either P (is_run s) _ _ (run_either (task_id s.task))
      (pick_either P (is_deliver s) _ _ (deliver_either s.number) (move_either (task_id s.task) (processor_id s.number) spent))))

-- it is not answered by 9 or 17, and by 18 only where the task has that count
module _ (r : System) (s : Step) (ok : system_ok r ≡ true) where
  -- an answer with a number other than n
  abbrev pub Other : ℕ → StepAnswer → Type 0
  Other n a = eqb (step_number a) n ≡ false

  pub number_not_9 : Other 9 (step_answer r s)
  number_not_9 = each_answer r (Other 9) others s ok (λ m. refl)
    where
      others : Answers (Other 9)
      others = search

  pub number_not_17 : Other 17 (step_answer r s)
  number_not_17 = each_answer r (Other 17) others s ok (λ m. refl)
    where
      others : Answers (Other 17)
      others = search

  pub number_not_18 : (task_at r (task_id s.task)).moves ≢ 9999 → Other 18 (step_answer r s)
  number_not_18 few = each_answer r (Other 18) others s ok (λ m. absurd (few m))
    where
      others : Answers (Other 18)
      others = search

  pub not_bad : step_answer r s ≢ Err BadSystem
  not_bad e = eqb-false (step_number (step_answer r s)) 9 number_not_9 (ap step_number e)
