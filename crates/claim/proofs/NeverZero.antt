-- At rest each task of the list depends on a task: "The 0 of the finish check no longer occurs."
use mathlib.Core.Path.{◌≡◌, refl, sym, ap, ◌∙◌}
use mathlib.Core.Bool.{true, false, not}
use mathlib.Core.List.{List, [], ◌∷◌}
use Prim.Native.Nat.{suc, ◌≤◌}
use native.Mathlib.Omega.{arith}
use lib.Dec.{eqb}
use lib.ListN.{length}
use borrow.Author.Tests.{ne_eqb}
use Rattle.std.specs.Prelude.{Ok}
use Rattle.base.specs.Choice.{within}
use Rattle.base.specs.Lists.{every}
use Rattle.base.proofs.Choices.{pick_cases}
use Rattle.base.proofs.Joins.{every_joined}
use Rattle.base.proofs.Tests.{tests_differ, within_low, within_high, within_both}
use Rattle.plan.specs.declared.Plan.{Plan}
use Rattle.plan.specs.declared.TaskId.{TaskId}
use Rattle.plan.specs.declared.ChannelId.{ChannelId}
use Rattle.plan.specs.declared.Word.{Word}
use Rattle.plan.specs.Numbers.{task_id, channel_id}
use Rattle.plan.specs.Programs.{programs}
use Rattle.plan.specs.Users.{sender_of, receiver_of}
use Rattle.plan.specs.Refusals.{plan_answer}
use Rattle.plan.proofs.Parts.{tasks_of_lem}
use Rattle.plan_laws.proofs.Canonical.{fits}
use Rattle.rules.specs.declared.task.TaskState.{TaskState}
use Rattle.rules.specs.declared.task.TaskState.TheVariants.{Unborn, Ready, Waiting, Sending, Receiving, Moving, Done}
use Rattle.rules.specs.declared.task.Task.{Task}
use Rattle.rules.specs.declared.system.System.{System}
use Rattle.rules.specs.Tasks.{is_in, is_childless}
use Rattle.rules.specs.Places.{last_in}
use Rattle.rules.specs.Systems.{task_at, task_program, meaning}
use Rattle.rules.specs.Steps.{quiescent}
use Rattle.rules.specs.Finish.{is_stuck, lowest, depends_on, Stuck, stuck_at, stuck_list}
use Rattle.transitions.specs.Readings.{reading}
use Rattle.transitions.proofs.Tasks.{sends, receives}
use Rattle.invariant.proofs.Families.{living_child, no_moving}
use Rattle.invariant.proofs.Next.{Kept}
use Rattle.claim.specs.Statement.{from}
use Rattle.claim.specs.Finish.{NeverZero}
use Rattle.claim.proofs.Whole.{list_kept}
use Rattle.claim.proofs.Demand3.{no_messages_lem, resting}
use Rattle.claim.proofs.Lowest.{lowest_some}
use Rattle.claim.proofs.Blocked.{both_ends}

-- a task of a rig that a run reaches
module _ (p : Plan) (a : plan_answer (programs p) ≡ Ok tt) {r : System} {w : ChannelId → List Word} (k : Kept p r w) (t : TaskId)
    (number : within 1 (length (programs p)) t.0 ≡ true) where
  abbrev z : Task
  z = task_at r t

  -- its set has a lowest child
  child_some : is_childless z ≡ false → 1 ≤ lowest 64 z.children
  unfolding reading
  child_some some =
      let l = living_child (programs p) a k.running t number some in
      let few = (fits (programs p) a).few in
      lowest_some 64 z.children l.child.0 (omega (arith, within_low 2 (length (programs p)) l.child.0 l.number))
      (omega (arith, within_high 2 (length (programs p)) l.child.0 l.number, few)) l.living

  -- by its state
  sending : is_in Sending z ≡ true → depends_on r t ≡ receiver_of (meaning r) (channel_id (last_in (task_program r t) z).operand)
  unfolding depends_on
  sending e = rw e refl

  receiving : is_in Sending z ≡ false → is_in Receiving z ≡ true → depends_on r t ≡ sender_of (meaning r) (channel_id (last_in (task_program r t) z).operand)
  unfolding depends_on
  receiving n e = rw (n, e) refl

  -- at rest it depends on a task
  module _ (quiet : quiescent r ≡ true) where
    some_end : is_stuck z ≡ true → 1 ≤ (depends_on r t).0
    unfolding depends_on reading
    some_end stuck = go z.state refl
      where
        go : (s : TaskState) → z.state ≡ s → 1 ≤ (depends_on r t).0
        go Unborn e = absurd (tests_differ stuck (rw e refl))
        go Ready e = rw (k.plan, e) (child_some (resting p a k quiet t number (rw e refl)).1)
        go Waiting e = rw (k.plan, e) (child_some ((k.running.agrees t).waits (rw e refl)))
        go Sending e = rw (sending (rw e refl), k.plan) (both_ends p a k t number sends (rw e refl)).receiver
        go Receiving e = rw (receiving (rw e refl) (rw e refl), k.plan) (both_ends p a k t number receives (rw e refl)).sender
        go Moving e = absurd (tests_differ (rw e refl) (no_moving k.running (no_messages_lem p a k quiet) t number))
        go Done e = absurd (tests_differ stuck (rw e refl))

    named : every (λ x. not (eqb x.on.0 0)) (stuck_at r t) ≡ true
    unfolding stuck_at every
    named =
        pick_cases (λ (xs : List Stuck). every (λ x. not (eqb x.on.0 0)) xs ≡ true) (is_stuck z) (record { task = t; on = depends_on r t } ∷ []) []
        (λ e. let l = some_end e in rw (ne_eqb (depends_on r t).0 0 (λ h. omega arith)) refl)
        (λ e. refl)

pub never_zero : NeverZero
unfolding stuck_list
never_zero n p ss some few a quiet =
    let k = list_kept n p some few a ss in
    let r = (from n p ss).system in
    every_joined (λ x. not (eqb x.on.0 0)) r.plan.tasks (λ i. stuck_at r (task_id (suc i)))
    (λ i l.
    let same : r.plan.tasks ≡ length (programs p) = ap (λ (z : Plan). z.tasks) k.plan ∙ sym (tasks_of_lem p) in
    named p a k (task_id (suc i)) (within_both 1 (length (programs p)) (suc i) (omega arith) (omega arith)) quiet)
