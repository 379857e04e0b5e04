-- A run: what is computed on the parts of a rig is what the rules say of the rig.
use mathlib.Core.Path.{◌≡◌, refl, ◌∙◌, ap}
use mathlib.Core.Bool.{true, not, ◌&&◌}
use mathlib.Core.Logic.{by_cases}
use Prim.Native.Nat.{◌-◌, ◌≤◌}
use native.Mathlib.Omega.{arith}
use native.Mathlib.Decide.{ℕ_discrete}
use Rattle.std.specs.Prelude.{Ok, Err}
use Rattle.base.specs.Choice.{unless, within}
use Rattle.base.proofs.Tests.{within_low, within_high}
use Rattle.plan.specs.declared.TaskId.{TaskId}
use Rattle.plan.specs.declared.Instruction.{Instruction}
use Rattle.plan.specs.Kinds.{op_create, op_sync, op_finish, op_send, op_receive, op_set, is_finish}
use Rattle.plan.specs.Programs.{programs}
use Rattle.plan.specs.Refusals.{instruction_ok}
use Rattle.plan.proofs.Parts.{tasks_of_lem}
use Rattle.plan_laws.proofs.Programs.{instruction_fine, send_operand, receive_operand}
use Rattle.rules.specs.declared.task.TaskState.TheVariants.{Ready}
use Rattle.rules.specs.declared.step.StepRefusal.TheVariants.{NoTask, NotReady, FinishWithChildren, NetworkFull}
use Rattle.rules.specs.declared.system.System.{System}
use Rattle.rules.specs.Tasks.{is_in, is_childless}
use Rattle.rules.specs.Systems.{task_at}
use Rattle.rules.specs.Places.{next_in}
use Rattle.rules.specs.Runs.{next_of, ran, fits, finishes_early, run_answer}
use Rattle.rules_sound.specs.Sound.{program_in, Sound}
use Rattle.rules_sound.proofs.Settled.{settled}
use Rattle.rules_sound.proofs.Frames.{tasks_few, in_plan}
use Rattle.rig_parts.specs.Answers.{Verdict}
use Rattle.rig_parts.specs.Facts.{facts_of, kept_in}
use Rattle.rig_parts.specs.RunVerdicts.{fitting_in, run_refusal, judged_run}
use Rattle.rig_parts.specs.Effects.{effect_of, ran_of}
use Rattle.rig_parts.specs.Answers.{unless_refused, verdict_of}
use Rattle.rig_parts.proofs.Fetching.{next_read}
use Rattle.rig_parts.proofs.LocalRuns.{create_ran, sync_ran, finish_ran, set_ran, add_ran}
use Rattle.rig_parts.proofs.ChannelRuns.{send_ran, receive_ran}
use Rattle.rig_parts.proofs.Answers.{refused_unless, fitting_answer}

-- the verdict on a ready task t whose next instruction is i
abbrev judged_next : System → TaskId → Instruction → Verdict
judged_next r t i =
    unless_refused (unless (not (is_finish i && not (is_childless (task_at r t)))) (Err FinishWithChildren) (Ok tt)) (fitting_in r.processors r.network.used (ran_of r t i))

module _ (r : System) (f : Sound r) (t : TaskId) where
  -- a ready task
  module _ (l : 1 ≤ t.0) (h : t.0 ≤ r.plan.tasks) (ready : is_in Ready (task_at r t) ≡ true) where
    pub next_fine : instruction_ok r.plan.tasks (next_of r t) ≡ true
    unfolding next_in
    next_fine =
        let x = task_at r t in
        let s = settled r.processors r.plan.tasks (program_in r.plan t) x Ready refl ready (f.rig.tasks t l h) in
        let low = s.place in
        let high = s.place_few in
        rw (tasks_of_lem r.plan) at
        (instruction_fine (programs r.plan) f.frame.plan (t.0 - 1) (in_plan r.processors r.plan f.frame t l h) (x.pc - 1) (omega arith))

    pub run_effect : ran r t ≡ effect_of r (ran_of r t (next_of r t))
    unfolding ran
    run_effect =
        let i = next_of r t in
        let m = r.plan.tasks in
        let few = tasks_few r.processors r.plan f.frame in
        let kind = ℕ_discrete i.opcode in
        by_cases (kind op_create) (create_ran r t i)
        (λ a.
        by_cases (kind op_sync) (sync_ran r t i)
        (λ b.
        by_cases (kind op_finish) (finish_ran r t i (omega arith))
        (λ c.
        by_cases (kind op_send)
        (λ e.
        let w = send_operand m i next_fine e in
        send_ran r f t h i (within_low 1 128 i.operand w) (within_high 1 128 i.operand w) l ready refl e)
        (λ d.
        by_cases (kind op_receive)
        (λ e.
        let w = receive_operand m i next_fine e in
        receive_ran r f t h i (within_low 1 128 i.operand w) (within_high 1 128 i.operand w) e)
        (λ g. by_cases (kind op_set) (set_ran r t i) (λ s. add_ran r t i (λ k kl kh e. omega arith)))))))

    ready_judged : judged_next r t (next_of r t)
        ≡ verdict_of (ran_of r t (next_of r t)) (unless (not (finishes_early r t)) (Err FinishWithChildren) (unless (fits r (ran r t)) (Err NetworkFull) (Ok tt)))
    unfolding fits effect_of
    ready_judged =
        let k = ran_of r t (next_of r t) in
        rw run_effect
        (refused_unless _ (Ok k) (not (finishes_early r t)) (Err FinishWithChildren) (Ok tt) _ refl (λ e. fitting_answer k (fits r (effect_of r k))))

  pub run_answer_lem : judged_run (facts_of r.plan) r.processors r.tasks (kept_in r) r.network.used t ≡ verdict_of (ran_of r t (next_of r t)) (run_answer r t)
  unfolding judged_run run_refusal run_answer
  run_answer_lem =
      let k = ran_of r t (next_of r t) in
      let m = r.plan.tasks in
      refused_unless _ (Ok k) (within 1 m t.0) (Err NoTask) _ _ refl
      (λ w.
      let l = within_low 1 m t.0 w in
      let h = within_high 1 m t.0 w in
      refused_unless _ (Ok k) (is_in Ready (task_at r t)) (Err NotReady) _ _ refl
      (λ ready. ap (judged_next r t) (next_read r f.rig t l h ready) ∙ ready_judged l h ready))
