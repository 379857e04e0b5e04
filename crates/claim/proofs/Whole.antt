-- From the start: what holds after any list of steps, how many instructions are left, and a list that brings the rig to rest.
use mathlib.Core.Path.{◌≡◌, refl}
use mathlib.Core.Logic.{by_cases}
use mathlib.Core.Bool.{true, false}
use mathlib.Core.List.{List, [], ◌∷◌}
use Prim.Native.Nat.{ℕ, zero, suc, ◌+◌, ◌-◌, ◌≤◌}
use native.Mathlib.Omega.{arith}
use native.Mathlib.Decide.{ℕ_discrete}
use lib.ListN.{length}
use Rattle.std.specs.Prelude.{Ok}
use Rattle.base.specs.Choice.{within}
use Rattle.base.proofs.Folds.{fold_same}
use Rattle.base.proofs.Tests.{within_both}
use Rattle.net.specs.Machines.{stop}
use Rattle.plan.specs.declared.Plan.{Plan}
use Rattle.plan.specs.declared.TaskId.{TaskId}
use Rattle.plan.specs.declared.ChannelId.{ChannelId}
use Rattle.plan.specs.declared.Word.{Word}
use Rattle.plan.specs.Numbers.{task_id}
use Rattle.plan.specs.Programs.{programs}
use Rattle.plan.specs.Layout.{count_of, total_of}
use Rattle.plan.specs.Refusals.{plan_answer}
use Rattle.rules.specs.declared.task.TaskState.TheVariants.{Unborn}
use Rattle.rules.specs.declared.step.Step.{Step}
use Rattle.rules.specs.declared.system.System.{System}
use Rattle.rules.specs.Tasks.{is_in}
use Rattle.rules.specs.Starts.{started}
use Rattle.rules.specs.Dispatch.{deliver_step}
use Rattle.rules.specs.Steps.{is_move, step_answer, steps_by, steps, run_step, quiescent, received_on}
use Rattle.rules_laws.proofs.Shapes.{started_shaped, started_plan}
use Rattle.rules_sound.proofs.Starts.{started_ok}
use Rattle.net.specs.States.{start_net}
use Rattle.transitions.specs.Readings.{reading}
use Rattle.transitions.specs.Progress.{unexecuted_of, unexecuted, program_of}
use Rattle.transitions.proofs.Tasks.{unborn_is}
use Rattle.invariant.specs.Weights.{weight_of}
use Rattle.claim.specs.Statement.{from}
use Rattle.invariant.proofs.StartViews.{read_started, start_cases}
use Rattle.invariant.proofs.Starts.{start_running}
use Rattle.invariant.proofs.Next.{Kept, next}
use Rattle.claim.proofs.Lists.{kept_steps, either}
use Rattle.claim.proofs.Quiet.{deliver_accepted, busy_cases}

module _ (n : ℕ) (p : Plan) (some : 1 ≤ n) (few : n ≤ 6) (a : plan_answer (programs p) ≡ Ok tt) where
  -- the rig at the start
  pub start_kept : Kept p (started n p) (λ c. [])
  start_kept =
      let (h, run) = start_running n p some few a in
      record {
        shaped = started_shaped n p;
        ok = started_ok n p some few a;
        plan = started_plan n p;
        histories = h;
        labels = [];
        state = start_net;
        reached = stop;
        running = run;
      }

  -- after a list of steps; the words received are those of its reports
  pub list_kept : (ss : List Step) → Kept p (from n p ss).system (λ c. received_on c (from n p ss).reports)
  list_kept ss = kept_steps p a start_kept ss

  -- at the start every task is at its first place
  pub first_place : (t : TaskId) → within 1 (length (programs p)) t.0 ≡ true → ((reading (started n p)).tasks t).pc ≡ 1
  first_place t is =
      by_cases
      (ℕ_discrete t.0 1)
      (λ e. rw (read_started n p) (start_cases n p (λ k. k.pc ≡ 1) t (λ z. refl) (λ ne. refl) (λ ne. absurd (ne e))))
      (λ ne. (unborn_is (reading (started n p)).processors (length (programs p)) (program_of (programs p) t) ((reading (started n p)).tasks t)
      (start_kept.running.tasks t is)
      (rw (read_started n p) (start_cases n p (λ k. is_in Unborn k ≡ true) t (λ z. absurd (ne z)) (λ z. refl) (λ z. refl)))).place)

  -- so that all N instructions are left
  pub start_work : unexecuted (programs p) (reading (started n p)).tasks ≡ total_of (programs p)
  unfolding unexecuted
  start_work =
      fold_same ◌+◌ 0 (length (programs p)) (λ k. unexecuted_of (programs p) (reading (started n p)).tasks (task_id (suc k))) (count_of (programs p))
      (λ k l.
      let one = first_place (task_id (suc k)) (within_both 1 (length (programs p)) (suc k) (omega arith) (omega arith)) in
      let e : suc k - 1 ≡ k = omega arith in
      rw (one, e) (omega arith))

-- a rig that is not at rest accepts a run or a delivery
pub record Goes (r : System) : Type 0 where
  pub by : Step
  pub accepted : step_answer r by ≡ Ok tt
  pub still : is_move by ≡ false

goes : {p : Plan} {r : System} {w : ChannelId → List Word} → Kept p r w → quiescent r ≡ false → Goes r
goes {p} {r} k busy =
    busy_cases r busy
    (λ some. record { by = deliver_step 1; accepted = deliver_accepted r k.ok 1 (omega arith) (omega arith); still = refl })
    (λ t low high yes. record { by = run_step t; accepted = yes; still = refl })

-- and so comes to rest
pub record Rested (r : System) : Type 0 where
  pub list : List Step
  pub rests : quiescent (steps r list).system ≡ true

comes_to_rest : (p : Plan) → plan_answer (programs p) ≡ Ok tt → (n : ℕ) {r : System} {w : ChannelId → List Word} (k : Kept p r w)
    → weight_of (programs p) k.histories (reading r) ≤ n → Rested r
unfolding steps_by
comes_to_rest p a zero {r} k small =
    either (quiescent r) (λ e. record { list = []; rests = e }) (λ busy.
    let g = goes k busy in
    absurd (omega (arith, (next p a k g.by g.accepted).falls g.still)))
comes_to_rest p a (suc n) {r} k small =
    either (quiescent r) (λ e. record { list = []; rests = e }) (λ busy.
    let g = goes k busy in
    let then = next p a k g.by g.accepted in
    let later = comes_to_rest p a n then.kept (omega (arith, then.falls g.still)) in
    record { list = g.by ∷ later.list; rests = later.rests })

pub rested : (p : Plan) → plan_answer (programs p) ≡ Ok tt → {r : System} {w : ChannelId → List Word} → Kept p r w → Rested r
rested p a {r} k = comes_to_rest p a (weight_of (programs p) k.histories (reading r)) k (omega arith)
