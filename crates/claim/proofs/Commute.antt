-- Two runs of tasks at different desks may come in either order: in a rig that a run reaches, whom a task is about to create is at no desk.
use mathlib.Core.Path.{◌≡◌, refl, sym, ◌∙◌, ap, subst}
use mathlib.Core.Bool.{true}
use mathlib.Core.List.{List, ◌++◌}
use native.Mathlib.Omega.{arith}
use lib.Dec.{eqb}
use borrow.Author.Tests.{eqb-true}
use Rattle.std.specs.Prelude.{Ok}
use Rattle.base.specs.Choice.{within}
use Rattle.base.proofs.Tests.{within_low, within_high}
use Rattle.plan.specs.declared.Plan.{Plan}
use Rattle.plan.specs.declared.TaskId.{TaskId}
use Rattle.plan.specs.declared.ChannelId.{ChannelId}
use Rattle.plan.specs.declared.Word.{Word}
use Rattle.plan.specs.Kinds.{op_create}
use Rattle.plan.specs.Programs.{programs}
use Rattle.plan_laws.proofs.Answers.{and_parts}
use Rattle.plan_laws.proofs.Programs.{create_operand}
use Rattle.rules.specs.Reports.{Received}
use Rattle.rules.specs.declared.step.Report.{Report}
use Rattle.rules.specs.declared.step.Stepped.{Stepped}
use Rattle.rules.specs.declared.system.System.{System}
use Rattle.rules.specs.Numbers.{task_id}
use Rattle.rules.specs.Networks.{messages}
use Rattle.rules.specs.Systems.{task_at, meaning}
use Rattle.rules.specs.Effects.{completed}
use Rattle.rules.specs.Runs.{ran, next_of, run_answer}
use Rattle.rules.specs.Steps.{step_answer, step, run_step, accepted}
use Rattle.rules_laws.proofs.Steps.{step_accepted, step_passed}
use Rattle.rules_laws.proofs.StepKinds.{answer_run, performed_run}
use Rattle.net.specs.Nets.{Reached}
use Rattle.transitions.specs.Readings.{reading}
use Rattle.transitions.specs.Agreement.{Running}
use Rattle.transitions.proofs.Rigs.{is_sound, plan_accepted}
use Rattle.transitions.proofs.Runs.{runs_of, run_instruction}
use Rattle.transitions.proofs.Tasks.{unborn_is}
use Rattle.invariant.proofs.Next.{Kept}
use Rattle.invariant.proofs.Simulation.{creates_unborn}
use Rattle.commute.specs.Footprints.{creates}
use Rattle.commute.specs.Pairs.{Runs, Second}
use Rattle.commute.proofs.Commutes.{runs_commuting}
use Rattle.claim.specs.Statement.{from}
use Rattle.claim.specs.Commute.{after_run, posted_by, RunsAfter, RunsCommute}
use Rattle.claim.proofs.Whole.{list_kept}

module _ {p : Plan} {r : System} {w : ChannelId → List Word} (k : Kept p r w) (t : TaskId) (yes : step_answer r (run_step t.0) ≡ Ok tt) where
  run_passed : run_answer r t ≡ Ok tt
  run_passed = sym (answer_run r (run_step t.0) refl) ∙ (step_passed r (run_step t.0) yes).rule

  -- whom the task is about to create
  new : (v : TaskId) → creates r t v ≡ true → (task_at r v).processor.0 ≡ 0
  unfolding reading
  new v c =
      let i = next_of r t in
      let m = meaning r in
      let here : Running m k.histories k.state (reading r) w =
      subst (λ (z : Plan). Running (programs z) k.histories k.state (reading r) w) (sym k.plan) k.running in
      let reached : Reached m k.labels k.state = subst (λ (z : Plan). Reached (programs z) k.labels k.state) (sym k.plan) k.reached in
      let unborn =
      creates_unborn m (plan_accepted r k.shaped k.ok) reached here t i (runs_of r k.shaped k.ok t run_passed) v c in
      let (kind, argument) = and_parts (eqb i.opcode op_create) (eqb i.operand v.0) c in
      let bounds : within 2 r.plan.tasks v.0 ≡ true =
      rw (eqb-true i.operand v.0 argument) at
      (create_operand r.plan.tasks i (run_instruction r k.shaped k.ok t run_passed) (eqb-true i.opcode op_create kind)) in
      let low = within_low 2 r.plan.tasks v.0 bounds in
      (unborn_is _ _ _ (task_at r v) ((is_sound r k.shaped k.ok).rig.tasks v (omega arith) (within_high 2 r.plan.tasks v.0 bounds)) unborn).nowhere

  runs : Runs r t
  runs = record { accepted = yes; nowhere = new }

-- a run that is accepted, as a step
module _ (r : System) (t : TaskId) (yes : step_answer r (run_step t.0) ≡ Ok tt) where
  stepped : step r (run_step t.0) ≡ accepted (ran r t)
  stepped = step_accepted r (run_step t.0) yes ∙ ap accepted (performed_run r (run_step t.0) refl)

  after_is : after_run r t.0 ≡ completed (ran r t)
  after_is = ap (λ (o : Stepped). o.system) stepped

-- what an accepted step reports
abbrev report_of : Received → Report
report_of x = record { answer = Ok tt; received = x }

-- the second of two
module _ (r : System) (t u : TaskId) (t-yes : step_answer r (run_step t.0) ≡ Ok tt) (u-yes : step_answer r (run_step u.0) ≡ Ok tt)
    (next : Second r t u) where
  abbrev q : System
  q = completed (ran r t)

  after_both : after_run (after_run r t.0) u.0 ≡ completed (ran q u)
  after_both = ap (λ (x : System). after_run x u.0) (after_is r t t-yes) ∙ after_is q u next.accepted

  same_report : (step q (run_step u.0)).report ≡ (step r (run_step u.0)).report
  same_report =
      ap (λ (o : Stepped). o.report) (stepped q u next.accepted)
      ∙ ap (λ (x : Received). report_of x) next.effect.received
      ∙ sym (ap (λ (o : Stepped). o.report) (stepped r u u-yes))

  runs_after : messages (completed (ran q u)).network ≡ messages r.network ++ (posted_by r t.0 ++ posted_by r u.0) → RunsAfter r t.0 u.0
  runs_after mail =
      record {
        accepted = rw (after_is r t t-yes) next.accepted;
        report = rw (after_is r t t-yes) same_report;
        mail = rw after_both mail;
      }

pub runs_commute : RunsCommute
runs_commute n p ss t u some few a both =
    let r = (from n p ss).system in
    let k = list_kept n p some few a ss in
    let t-run = runs k (task_id t) both.first in
    let u-run = runs k (task_id u) both.second in
    let c = runs_commuting r k.shaped k.ok (task_id t) (task_id u) t-run u-run both.processors both.room in
    let tu = after_both r (task_id t) (task_id u) both.first both.second c.one in
    let ut = after_both r (task_id u) (task_id t) both.second both.first c.other in
    record {
      then_u = runs_after r (task_id t) (task_id u) both.first both.second c.one c.mail;
      then_t = runs_after r (task_id u) (task_id t) both.second both.first c.other c.other_mail;
      same_rig = rw (tu, ut) c.same;
    }
