-- What a verdict accepts, in the parts of a rig that 9 does not refuse, can be carried out.
use mathlib.Core.Path.{◌≡◌, refl}
use mathlib.Core.Bool.{Bool, true}
use Prim.Native.Nat.{ℕ, ◌+◌}
use native.Mathlib.Omega.{arith}
use lib.Dec.{eqb, leb}
use lib.ListN.{length}
use borrow.Author.Tests.{eqb-true}
use Rattle.std.specs.Prelude.{Ok, Err}
use Rattle.base.specs.Choice.{unless, within}
use Rattle.base.proofs.Choices.{pick_cases, pick_either}
use Rattle.base.proofs.Tests.{within_high}
use Rattle.plan.specs.declared.TaskId.{TaskId}
use Rattle.plan.specs.declared.ProcessorId.{ProcessorId}
use Rattle.plan.specs.declared.Instruction.{Instruction}
use Rattle.plan.specs.Kinds.{op_create, op_sync, op_finish, op_send, op_receive, op_set}
use Rattle.rules.specs.declared.task.TaskState.TheVariants.{Ready}
use Rattle.rules.specs.declared.rule.Site.{Site}
use Rattle.rules.specs.declared.system.TaskTable.{TaskTable}
use Rattle.rules.specs.declared.system.ParentEntry.{ParentEntry}
use Rattle.rules.specs.Answers.{StepAnswer}
use Rattle.rules.specs.declared.step.StepRefusal.TheVariants.{NetworkFull}
use Rattle.rules.specs.Answers.{is_accepted}
use Rattle.rules.specs.Tasks.{is_in}
use Rattle.rules.specs.Networks.{messages_of}
use Rattle.rules.specs.Systems.{task_in}
use Rattle.rig_parts.specs.declared.kept.Kept.{Kept}
use Rattle.rig_parts.specs.Sweeps.{sweep_ok}
use Rattle.rig_parts.specs.declared.change.Scope.{Scope}
use Rattle.rig_parts.specs.declared.change.Change.{Change}
use Rattle.rig_parts.specs.Answers.{Verdict}
use Rattle.rig_parts.specs.Facts.{Facts, PartsOf}
use Rattle.rig_parts.specs.Fetches.{scope_ok, site_in}
use Rattle.rig_parts.specs.Scopes.{alone, run_scope}
use Rattle.rig_parts.specs.Answers.{unless_refused}
use Rattle.rig_parts.specs.RunVerdicts.{run_change, fitting_in, ran_in, run_refusal, judged_run}
use Rattle.rig_parts.specs.MoveVerdicts.{move_change, move_refusal, judged_move}
use Rattle.rig_parts.specs.Feasible.{verdict_ok}
use Rattle.rig_parts.proofs.Answers.{fitting_answer, passed}
use Rattle.rig_parts.proofs.Passed.{run_passed, move_passed}
use Rattle.rig_parts.proofs.BoundsScope.{scope_reached}
use Rattle.rig_parts.proofs.BoundsReady.{next_at, processor_in}
use Rattle.rig_parts.proofs.BoundsRun.{run_reached}

-- about tasks and channels, and at a desk
abbrev pub Placed : Change → Type 0
Placed k = (scope_ok k.scope ≡ true) × (sweep_ok k.sweep ≡ true)

module _ (n used : ℕ) where
  -- behind an answer
  answered_ok : (a : StepAnswer) (v : Verdict) → (is_accepted a ≡ true → verdict_ok n used v ≡ true) → verdict_ok n used (unless_refused a v) ≡ true
  answered_ok (Ok tt) v h = h refl
  answered_ok (Err q) v h = refl

  fitting_ok : (k : Change) → Placed k → verdict_ok n used (fitting_in n used k) ≡ true
  fitting_ok k (a, b) =
      let ok = leb (used + length (messages_of n k.outcome.posting)) 256 in
      rw (fitting_answer k ok) (answered_ok (unless ok (Err NetworkFull) (Ok tt)) (Ok k) (λ e. simp (a, b, (passed ok (Err NetworkFull) (Ok tt) refl e).0)))

-- an instruction changes its scope, a birth is at the desk of the creating task, and an end at the desk of the scope
run_placed : (k : Scope) (t : TaskId) (i : Instruction) (w : ℕ) (x : Site) (y : ParentEntry) → scope_ok k ≡ true → within 1 6 k.processor.0 ≡ true
    → (eqb i.opcode op_create ≡ true → within 1 6 x.sender.processor.0 ≡ true)
    → Placed (run_change k t i w x y)
unfolding run_change
run_placed k t i w x y ok there processor =
    let is : ℕ → Bool = eqb i.opcode in
    pick_cases Placed (is op_create) _ _ (λ e. (ok, processor e))
    (λ e.
    pick_either Placed (is op_sync) _ _ (ok, refl)
    (pick_either Placed (is op_finish) _ _ (ok, there)
    (pick_either Placed (is op_send) _ _ (ok, refl)
    (pick_either Placed (is op_receive) _ _ (ok, refl)
    (pick_either Placed (is op_set) _ _ (ok, refl) (ok, refl))))))

module _ {f : Facts} {n : ℕ} {ts : TaskTable} {s : Kept} {used : ℕ} (p : PartsOf f n ts s used) (t : TaskId) where
  ran_placed : (w : within 1 f.tasks t.0 ≡ true) (ready : is_in Ready (task_in ts t) ≡ true)
      → Placed (ran_in f ts s t (next_at f ts t))
  unfolding ran_in site_in run_scope
  ran_placed w ready =
      let i = next_at f ts t in
      let reached = run_reached p t w ready in
      run_placed _ t i _ _ _ reached.ok reached.processor (λ e. rw (eqb-true i.opcode op_create e) (processor_in p t w ready))

  pub run_feasible : verdict_ok n used (judged_run f n ts s used t) ≡ true
  unfolding judged_run
  run_feasible =
      let k = ran_in f ts s t (next_at f ts t) in
      answered_ok n used (run_refusal f.codes f.tasks ts t) (fitting_in n used k)
      (λ a. let (w, ready) = run_passed f.codes f.tasks ts t a in fitting_ok n used k (ran_placed w ready))

  pub move_feasible : (e : ProcessorId) → verdict_ok n used (judged_move f.tasks n ts used t e) ≡ true
  unfolding judged_move
  move_feasible e =
      let x = task_in ts t in
      answered_ok n used (move_refusal f.tasks n ts used t e) (Ok (move_change t x e))
      (λ a.
      let q = move_passed f.tasks n ts used t e a in
      let processor = processor_in p t q.task q.ready in
      let ok = (scope_reached p (alone t x.processor) (within_high 1 f.tasks t.0 q.task) (omega arith) (omega arith) processor).ok in
      simp (ok, processor, q.fitting))
