-- The one-desk rig of a plan on what is lent: before a run, after it, and at rest; how many runs there can be.
use mathlib.Core.Path.{◌≡◌, refl, sym, ap, ◌∙◌, subst}
use mathlib.Core.Bool.{Bool, true, false, not, ◌&&◌}
use mathlib.Core.List.{List, [], ◌∷◌, ◌++◌}
use Prim.Native.Nat.{ℕ, suc, ◌+◌, ◌*◌, ◌≤◌, ◌<◌}
use native.Mathlib.Omega.{arith}
use lib.Dec.{eqb}
use lib.ListN.{length}
use borrow.Author.Tests.{eqb-true, le-leb}
use Rattle.std.specs.Prelude.{Ok}
use Rattle.base.specs.Choice.{pick}
use Rattle.base.proofs.Sums.{sum_at_most}
use Rattle.base.proofs.Tests.{below_all}
use Rattle.plan.specs.declared.Plan.{Plan}
use Rattle.plan.specs.Layout.{count_of, total_of}
use Rattle.plan.specs.Programs.{programs}
use Rattle.plan.specs.Refusals.{plan_answer}
use Rattle.plan_laws.proofs.Canonical.{fits}
use Rattle.rules.specs.declared.task.Task.{Task}
use Rattle.rules.specs.declared.message.Network.{Network}
use Rattle.rules.specs.declared.step.Step.{Step}
use Rattle.rules.specs.declared.system.System.{System}
use Rattle.rules.specs.Answers.{is_accepted}
use Rattle.rules.specs.Numbers.{task_id}
use Rattle.rules.specs.Networks.{messages_of, enqueued_all}
use Rattle.rules.specs.Starts.{started}
use Rattle.rules.specs.Steps.{well_formed, is_run, step_answer, step, ruled_step, steps_by, steps, run_step, quiescent}
use Rattle.rules.specs.Sound.{system_ok}
use Rattle.rules_laws.specs.Shapes.{Shaped}
use Rattle.rules_laws.proofs.Messages.{few_messages}
use Rattle.rules_laws.proofs.Shapes.{started_processors, steps_processors}
use Rattle.rules_laws.proofs.Steps.{accepted_is, ruled_step_lem, step_answer_lem}
use Rattle.plan_index.specs.user_table.Users.{senders_of, receivers_of}
use Rattle.rig_parts.specs.declared.kept.Kept.{Kept as KeptParts}
use Rattle.rig_parts.specs.declared.turn.Turn.{Turn}
use Rattle.rig_parts.specs.declared.change.Change.{Change}
use Rattle.rig_parts.specs.Answers.{Verdict}
use Rattle.rig_parts.specs.Facts.{Facts, facts_of, kept_in, PartsOf}
use Rattle.rig_parts.specs.RunVerdicts.{fitting_in, ran_in, run_refusal, judged_run}
use Rattle.rig_parts.specs.Fetches.{instruction_in}
use Rattle.rules.specs.Systems.{task_in}
use Rattle.rig_parts.specs.Turns.{turned, settled, carried_out, turn_of, parts_of, Rig}
use Rattle.rig_parts.proofs.Rigs.{rig_turn, rig_rest}
use Rattle.board.specs.declared.act.Act.{Act}
use Rattle.board.specs.declared.act.Size.{Size}
use Rattle.board.specs.Lent.{Lent, tasks_of, kept_of}
use Rattle.board.specs.Acted.{Acted}
use Rattle.board.specs.Rigs.{facts_in, RigOn}
use Rattle.rig.proofs.rest.Quiet.{quiet_all, stuck_after}
use Rattle.rig.proofs.rest.Refusals.{rest_quiet}
use Rattle.run.proofs.all_steps.Acting.{report_of, acted_turn}
use Rattle.claim.specs.Statement.{accepted_of, from}
use Rattle.claim.specs.Finish.{RestsOn}
use Rattle.claim.proofs.Demand3.{demand_3}
use Rattle.claim.proofs.OneProcessor.{nothing_posted}
use Rattle.claim.proofs.Whole.{list_kept}
use Rattle.finish.specs.Searches.{can_run}
use Rattle.finish.specs.Settles.{After, Gone}

-- a list with one step more
steps_more : (r : System) (ss : List Step) (s : Step) → (steps r (ss ++ (s ∷ []))).system ≡ (step (steps r ss).system s).system
unfolding steps_by
steps_more r [] s = refl
steps_more r (x ∷ ss) s = steps_more (step r x).system ss s

runs_more : (r : System) (ss : List Step) (s : Step) → is_run s ≡ true → step_answer (steps r ss).system s ≡ Ok tt
    → accepted_of is_run r (ss ++ (s ∷ [])) ≡ accepted_of is_run r ss + 1
unfolding steps_by accepted_of
runs_more r [] s run e = rw (run, e) refl
runs_more r (x ∷ ss) s run e = omega (arith, runs_more (step r x).system ss s run e)

-- what is lent is a rig
module _ {codes numbers users : List ℕ} {count : ℕ} {l : Lent} {p : Plan} {ss : List Step} {work : ℕ}
    (a : After codes numbers users count l p ss work) where
  abbrev rig : System
  rig = (from 1 p ss).system

  abbrev f : Facts
  f = facts_in count codes numbers users

  -- it is one that 9 does not refuse, with the plan, and without letters
  shaped : Shaped rig
  shaped = (list_kept 1 p (omega arith) (omega arith) a.accepted ss).shaped

  sound : system_ok rig ≡ true
  sound = (list_kept 1 p (omega arith) (omega arith) a.accepted ss).ok

  plan : rig.plan ≡ p
  plan = (list_kept 1 p (omega arith) (omega arith) a.accepted ss).plan

  none : rig.network.used ≡ 0
  none = nothing_posted p ss a.accepted

  derived : f ≡ facts_of rig.plan
  derived = a.derived ∙ ap facts_of (sym plan)

  one : 1 ≡ rig.processors
  one = sym (steps_processors (started 1 p) ss ∙ started_processors 1 p)

  pub parts : PartsOf f 1 (tasks_of l) (kept_of l) 0
  parts =
      record {
        system = rig;
        shaped = shaped;
        sound = sound;
        facts_of_lem = derived;
        processors = one;
        tasks = a.tasks;
        kept = a.kept;
        messages = sym none;
      }

  pub rig_on : RigOn codes numbers users (record { tasks = count; processors = 1; used = 0 }) l
  rig_on = record { whole = a.whole; parts = parts; indexed = a.indexed }

  -- with its mail, which is empty
  abbrev whole_rig : Rig f 1 (tasks_of l) rig.network (kept_of l)
  whole_rig =
      record {
        parts =
            record {
              system = rig;
              shaped = shaped;
              sound = sound;
              facts_of_lem = derived;
              processors = one;
              tasks = a.tasks;
              kept = a.kept;
              messages = refl;
            };
        network = refl;
      }

  -- where no task can run, it is at rest
  pub at_rest : ((t : ℕ) → 0 < t → t ≤ count → can_run codes count (tasks_of l) t ≡ false) → RestsOn 1 p ss
  at_rest stuck =
      sym (rig_rest whole_rig) ∙ rest_quiet whole_rig.parts
      ∙ quiet_all count codes (tasks_of l) rig.network.used none
      (below_all (stuck_after count codes (tasks_of l)) count (λ k few. ap not (stuck (suc k) (omega arith) (omega arith))))

  -- a task that can run is allowed to: with no letter in the mail there is room for what it posts
  module _ (t : ℕ) (can : can_run codes count (tasks_of l) t ≡ true) where
    abbrev change : Change
    change = ran_in f (tasks_of l) (kept_of l) (task_id t) (instruction_in codes (task_id t) (task_in (tasks_of l) (task_id t)).pc)

    allowed : judged_run f 1 (tasks_of l) (kept_of l) 0 (task_id t) ≡ Ok change
    unfolding judged_run
    allowed =
        let m = length (messages_of 1 change.outcome.posting) in
        rw (accepted_is (run_refusal codes count (tasks_of l) (task_id t)) can, le-leb (0 + m) 256 (omega (arith, few_messages 1 change.outcome.posting))) refl

    -- a run of it, carried out
    module _ {r : Act} {l' : Lent}
        (acted : Acted (senders_of users) (receivers_of users) (judged_run f 1 (tasks_of l) (kept_of l) 0 (task_id t)) l r l') where
      abbrev run : Step
      run = run_step t

      turns : settled (senders_of users) (receivers_of users) 1 (Ok change) (tasks_of l) rig.network (kept_of l) ≡ parts_of (step rig run)
      unfolding turn_of well_formed
      turns =
          ap (λ (v : Verdict). settled (senders_of users) (receivers_of users) 1 v (tasks_of l) rig.network (kept_of l)) (sym allowed)
          ∙ ap (λ (n : ℕ). settled (senders_of users) (receivers_of users) 1 (judged_run f 1 (tasks_of l) (kept_of l) n (task_id t)) (tasks_of l) rig.network (kept_of l)) (sym none)
          ∙ rig_turn whole_rig run ∙ ap parts_of (ruled_step_lem rig run sound)

      left : turned (report_of r) (tasks_of l') (enqueued_all rig.network (messages_of 1 r.posting)) (kept_of l') ≡ parts_of (step rig run)
      left = acted_turn (senders_of users) (receivers_of users) 1 rig.network l l' r (Ok change) (rw allowed at acted) ∙ turns

      yes_to_it : step_answer rig run ≡ Ok tt
      unfolding carried_out
      yes_to_it = sym (step_answer_lem rig run) ∙ sym (ap (λ (z : Turn). z.report.answer) turns)

      pub one_further : After codes numbers users count l' p (ss ++ (run ∷ [])) (work + 1)
      one_further =
          let then = steps_more (started 1 p) ss run in
          record {
            accepted = a.accepted;
            derived = a.derived;
            indexed = a.indexed;
            whole = acted.whole;
            tasks = ap (λ (z : Turn). z.tasks) left ∙ sym (ap (λ (z : System). z.tasks) then);
            kept = ap (λ (z : Turn). z.kept) left ∙ sym (ap kept_in then);
            number = ap (◌+ 1) a.number ∙ sym (runs_more (started 1 p) ss run refl yes_to_it);
          }

-- a plan has at most 4,096 instructions, and so many runs are accepted at most
pub few_runs : {codes numbers users : List ℕ} {count : ℕ} {l : Lent} {p : Plan} {work : ℕ} → Gone codes numbers users count l p work → work ≤ 4096
few_runs {p = p} g =
    let a = g.after.accepted in
    let m = programs p in
    let fine = fits m a in
    let most = sum_at_most 64 (length m) (count_of m) (λ k l. fine.short k) in
    let n = fine.few in
    omega (arith, g.after.number, (demand_3 1 p g.list (omega arith) (omega arith) a).few_runs, most)
