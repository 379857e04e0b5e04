-- No run step changes a set of held children: a create sets a pointer alone, and no child is held at its own finish.
use mathlib.Core.Path.{◌≡◌, refl, sym, ◌∙◌, subst}
use mathlib.Core.Bool.{Bool, true, false}
use mathlib.Core.List.{List}
use lib.Dec.{eqb}
use borrow.Author.Tests.{eqb-true}
use Rattle.std.specs.Prelude.{Ok}
use Rattle.base.proofs.Choices.{pick_cases, pick_either}
use Rattle.base.proofs.Tests.{tests_differ}
use Rattle.plan.specs.declared.Plan.{Plan}
use Rattle.plan.specs.declared.TaskId.{TaskId}
use Rattle.plan.specs.declared.ProcessorId.{ProcessorId}
use Rattle.plan.specs.declared.ChannelId.{ChannelId}
use Rattle.plan.specs.declared.Word.{Word}
use Rattle.plan.specs.Kinds.{op_create, op_sync, op_finish, op_send, op_receive, op_set, is_finish}
use Rattle.plan.specs.Programs.{programs}
use Rattle.rules.specs.declared.rule.Outcome.{Outcome}
use Rattle.rules.specs.declared.system.System.{System}
use Rattle.rules.specs.declared.task.Task.{Task}
use Rattle.rules.specs.Numbers.{task_id}
use Rattle.rules.specs.Hints.{hint}
use Rattle.rules.specs.Tasks.{born}
use Rattle.rules.specs.Systems.{task_at, with_task, meaning}
use Rattle.rules.specs.Effects.{Effect, completed, with_outcome}
use Rattle.rules.specs.Starts.{located, pointed, birth}
use Rattle.rules.specs.Local.{create_rule}
use Rattle.rules.specs.Runs.{ran_create, ran_send, ran_receive, executed, next_of, ran, run_answer}
use Rattle.rules_laws.proofs.TaskAt.{with_task_parents}
use Rattle.rules_laws.proofs.CellAt.{with_cell_parents}
use Rattle.rules_laws.proofs.ParentAt.{pointed_held}
use Rattle.rules_laws.proofs.ForChannels.{for_channels_parents}
use Rattle.rules_laws.proofs.Steps.{step_accepted, step_passed}
use Rattle.rules_laws.proofs.StepKinds.{answer_run, performed_run}
use Rattle.transitions.specs.Readings.{reading}
use Rattle.transitions.specs.Agreement.{Running}
use Rattle.transitions.proofs.FinishTransitions.{finish_parents}
use Rattle.invariant.proofs.Next.{Kept}
use Rattle.claim.specs.Statement.{from}
use Rattle.claim.specs.Parents.{NoneHeldByRuns}
use Rattle.claim.proofs.Lists.{step_either, left}
use Rattle.claim.proofs.Whole.{list_kept}

module _ (r : System) (t : TaskId) where
  abbrev SameHeld : Effect → Type 0
  SameHeld e = e.system.parents.held ≡ r.parents.held

  -- a task, and a rule about a channel
  task_held : (x : Task) → (with_task r t x).parents.held ≡ r.parents.held
  task_held x = rw (with_task_parents r t x) refl

  outcome_held : (s u : TaskId) (c : ChannelId) (d : ProcessorId) (o : Outcome) → SameHeld (with_outcome r s u c d o)
  unfolding with_outcome
  outcome_held s u c d o =
      let first = with_task r s o.sender in
      let both = with_task first u o.receiver in
      rw (with_cell_parents both d c o.cell, with_task_parents first u o.receiver, with_task_parents r s o.sender) refl

  create_held : (u : TaskId) → SameHeld (ran_create r t u)
  unfolding ran_create birth
  create_held u =
      let d = (task_at r t).processor in
      let own = hint d (task_at r t).moves in
      let first = with_task r t (create_rule (task_at r t) u) in
      let both = with_task first u (born d own) in
      rw (for_channels_parents _ (located d 1) d 128 (pointed both d u (hint d 1)))
      (pointed_held both d u (hint d 1) ∙ rw (with_task_parents first u (born d own), with_task_parents r t (create_rule (task_at r t) u)) refl)

  send_held_lem : (c : ChannelId) → SameHeld (ran_send r t c)
  unfolding ran_send
  send_held_lem c = outcome_held _ _ c _ _

  receive_held : (c : ChannelId) → SameHeld (ran_receive r t c)
  unfolding ran_receive
  receive_held c = outcome_held _ _ c _ _

  -- an instruction that is no finish
  other_held : is_finish (next_of r t) ≡ false → SameHeld (ran r t)
  unfolding ran executed
  other_held other =
      let i = next_of r t in
      pick_either SameHeld (eqb i.opcode op_create) _ _ (create_held _)
      (pick_either SameHeld (eqb i.opcode op_sync) _ _ (task_held _)
      (pick_cases SameHeld (eqb i.opcode op_finish) _ _ (λ e. absurd (tests_differ e other))
      (λ e.
      pick_either SameHeld (eqb i.opcode op_send) _ _ (send_held_lem _)
      (pick_either SameHeld (eqb i.opcode op_receive) _ _ (receive_held _)
      (pick_either SameHeld (eqb i.opcode op_set) _ _ (task_held _) (task_held _))))))

-- an accepted run of a rig that a run reaches
run_held : {p : Plan} {r : System} {w : ChannelId → List Word} → Kept p r w → (t : TaskId) → run_answer r t ≡ Ok tt
    → (ran r t).system.parents.held ≡ r.parents.held
run_held {p} {r} {w} k t a = go (is_finish (next_of r t)) refl
  where
    go : (b : Bool) → is_finish (next_of r t) ≡ b → (ran r t).system.parents.held ≡ r.parents.held
    go false e = other_held r t e
    go true e =
        let run : Running (meaning r) k.histories k.state (reading r) w =
        subst (λ (z : Plan). Running (programs z) k.histories k.state (reading r) w) (sym k.plan) k.running in
        rw (finish_parents r k.shaped k.ok k.histories run t a (eqb-true (next_of r t).opcode op_finish e)) refl

pub none_held_by_runs : NoneHeldByRuns
unfolding completed
none_held_by_runs n p ss s some few a kind =
    let r = (from n p ss).system in
    let k = list_kept n p some few a ss in
    let t = task_id s.task in
    step_either r s
    (λ e. rw (left r s e) refl)
    (λ e. rw (step_accepted r s e, performed_run r s kind) (run_held k t (sym (answer_run r s kind) ∙ (step_passed r s e).rule)))
