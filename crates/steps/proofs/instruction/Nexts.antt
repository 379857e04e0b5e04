-- What a run finds: the verdict by it, and what is known of a task that it finds.
use mathlib.Core.Path.{◌≡◌, refl, sym, ap}
use mathlib.Core.Bool.{true, false, not, ◌&&◌}
use mathlib.Core.List.{List}
use Prim.Native.Nat.{ℕ}
use Rattle.std.specs.Prelude.{Ok, Err}
use Rattle.base.specs.Choice.{within}
use Rattle.plan.specs.declared.TaskId.{TaskId}
use Rattle.plan.specs.declared.Instruction.{Instruction}
use Rattle.plan.specs.Kinds.{is_finish}
use Rattle.rules.specs.declared.task.Task.{Task}
use Rattle.rules.specs.declared.task.TaskState.TheVariants.{Ready}
use Rattle.rules.specs.Answers.{StepAnswer}
use Rattle.rules.specs.declared.step.StepRefusal.TheVariants.{NoTask, NotReady, FinishWithChildren}
use Rattle.rules.specs.declared.system.TaskTable.{TaskTable}
use Rattle.rig_parts.specs.declared.kept.Kept.{Kept}
use Rattle.rules.specs.Answers.{is_accepted}
use Rattle.rules.specs.Tasks.{is_in, is_childless}
use Rattle.rules.specs.Systems.{task_in}
use Rattle.rig_parts.specs.Answers.{Verdict, unless_refused as refused_else}
use Rattle.rig_parts.specs.Facts.{Facts, PartsOf}
use Rattle.rig_parts.specs.Fetches.{instruction_in}
use Rattle.rig_parts.specs.RunVerdicts.{run_refusal, judged_run, ran_in, fitting_in}
use Rattle.rig_parts.proofs.Passed.{run_passed}
use Rattle.rig_parts.proofs.BoundsReady.{next_at}
use Rattle.steps.specs.instruction.Nexts.{Next, unless_refused, next_of}

-- the answer to a run that finds this
abbrev pub answer_to : Next → StepAnswer
answer_to (Err q) = Err q
answer_to (Ok k) = Ok tt

answered : (q : StepAnswer) (k : Task × Instruction) → answer_to (unless_refused q k) ≡ q
answered (Ok tt) k = refl
answered (Err q) k = refl

module _ (codes : List ℕ) (count : ℕ) (ts : TaskTable) (t : TaskId) where
  -- the answer by what is found
  pub next_answer : answer_to (next_of codes count ts t) ≡ run_refusal codes count ts t
  unfolding next_of
  next_answer = answered (run_refusal codes count ts t) _

  -- it is found by three tests
  pub no_task_lem : within 1 count t.0 ≡ false → Err NoTask ≡ next_of codes count ts t
  unfolding next_of run_refusal
  no_task_lem w = rw w refl

  module _ (w : within 1 count t.0 ≡ true) where
    pub not_ready : is_in Ready (task_in ts t) ≡ false → Err NotReady ≡ next_of codes count ts t
    unfolding next_of run_refusal
    not_ready e = rw (w, e) refl

    module _ (ready : is_in Ready (task_in ts t) ≡ true) where
      -- the next instruction
      abbrev next : Instruction
      next = instruction_in codes t (task_in ts t).pc

      pub with_children_lem : is_finish next && not (is_childless (task_in ts t)) ≡ true → Err FinishWithChildren ≡ next_of codes count ts t
      unfolding next_of run_refusal
      with_children_lem e = rw (w, ready, e) refl

      pub can_run_lem : is_finish next && not (is_childless (task_in ts t)) ≡ false → Ok ((task_in ts t), next) ≡ next_of codes count ts t
      unfolding next_of run_refusal
      can_run_lem e = rw (w, ready, e) refl

-- in the parts of a rig task t is ready, with record x and next instruction i, which 12 does not refuse
pub record ReadyWith (f : Facts) (n : ℕ) (ts : TaskTable) (s : Kept) (used : ℕ) (t : TaskId) (x : Task) (i : Instruction) : Type 0 where
  pub parts : PartsOf f n ts s used
  pub counted : within 1 f.tasks t.0 ≡ true
  pub ready : is_in Ready (task_in ts t) ≡ true
  pub task : x ≡ task_in ts t
  pub next : i ≡ next_at f ts t
  pub judged : judged_run f n ts s used t ≡ fitting_in n used (ran_in f ts s t i)

module _ (f : Facts) (n : ℕ) (ts : TaskTable) (s : Kept) (used : ℕ) (t : TaskId) where
  -- what is found
  abbrev found : Next
  found = next_of f.codes f.tasks ts t

  -- the verdict on a run that finds this
  abbrev verdict_on : Next → Verdict
  verdict_on (Err q) = Err q
  verdict_on (Ok k) = fitting_in n used (ran_in f ts s t k.1)

  judged : (q : StepAnswer) (k : Task × Instruction) → refused_else q (fitting_in n used (ran_in f ts s t k.1)) ≡ verdict_on (unless_refused q k)
  judged (Ok tt) k = refl
  judged (Err q) k = refl

  -- the verdict by what is found
  pub next_judged : (k : Next) → found ≡ k → judged_run f n ts s used t ≡ verdict_on k
  unfolding next_of judged_run
  next_judged k e = rw (sym e) (judged (run_refusal f.codes f.tasks ts t) (task_in ts t, next_at f ts t))

  -- what is known where it finds this
  abbrev Known : Next → Type 0
  Known (Err q) = Unit {0}
  Known (Ok k) = (within 1 f.tasks t.0 ≡ true) × (is_in Ready (task_in ts t) ≡ true) × (k.0 ≡ task_in ts t) × (k.1 ≡ next_at f ts t)

  known_by : (q : StepAnswer) → run_refusal f.codes f.tasks ts t ≡ q → Known (unless_refused q (task_in ts t, next_at f ts t))
  known_by (Ok tt) e = let h = run_passed f.codes f.tasks ts t (ap is_accepted e) in (h.0, h.1, refl, refl)
  known_by (Err q) e = tt

  -- it is known
  known : Known found
  unfolding next_of
  known = known_by (run_refusal f.codes f.tasks ts t) refl

  -- a task is found
  pub ready_with : PartsOf f n ts s used → (x : Task) (i : Instruction) → found ≡ Ok (x, i) → ReadyWith f n ts s used t x i
  ready_with p x i e =
      let k : Known (Ok (x, i)) = rw e at known in
      record { parts = p; counted = k.0; ready = k.1; task = k.2; next = k.3; judged = next_judged (Ok (x, i)) e }
