-- The frame law: every run of a ready task is framed.
use mathlib.Core.Path.{◌≡◌, refl, ◌∙◌, ap}
use mathlib.Core.Bool.{true}
use Prim.Native.Nat.{suc, ◌-◌, ◌≤◌, ◌<◌}
use native.Mathlib.Omega.{arith}
use lib.Dec.{eqb}
use lib.ListN.{length}
use borrow.Author.Tests.{eqb-true, eq-eqb}
use Rattle.base.proofs.Tests.{and_both, within_high}
use Rattle.plan.specs.declared.Plan.{Plan}
use Rattle.plan.specs.declared.TaskId.{TaskId}
use Rattle.plan.specs.declared.ChannelId.{ChannelId}
use Rattle.plan.specs.Kinds.{op_create, op_sync, op_finish, op_send, op_receive, op_set, is_use}
use Rattle.plan.specs.Programs.{programs, program_at}
use Rattle.plan.specs.Users.{sender_of, receiver_of, parent_of}
use Rattle.plan_laws.proofs.Programs.{create_operand, send_operand, receive_operand}
use Rattle.plan_laws.proofs.Ends.{sends_on_lem, receives_on_lem}
use Rattle.plan_laws.proofs.Parents.{created_by}
use Rattle.rules.specs.Numbers.{task_id, channel_id}
use Rattle.rules.specs.declared.task.TaskState.TheVariants.{Ready}
use Rattle.rules.specs.declared.system.System.{System}
use Rattle.rules.specs.Tasks.{is_in}
use Rattle.rules.specs.Places.{next_in}
use Rattle.rules.specs.Systems.{task_at, meaning, task_program}
use Rattle.rules.specs.Local.{sync_rule, set_rule, add_rule}
use Rattle.rules.specs.Runs.{executed, next_of, ran}
use Rattle.rules_sound.specs.Settled.{Settled}
use Rattle.rules_sound.specs.Sound.{program_in, Startable}
use Rattle.rules_sound.specs.Stands.{Whole}
use Rattle.rules_sound.proofs.Settled.{settled}
use Rattle.rules_sound.proofs.Frames.{in_plan}
use Rattle.rules_sound.proofs.Runs.{next_fine}
use Rattle.commute.specs.Footprints.{creates}
use Rattle.commute.specs.Frames.{SeenAlike, Framed}
use Rattle.commute.proofs.Rules.{sync_stays}
use Rattle.commute.proofs.Runs.{framed_pick, task_in_lem, own_framed, create_framed, finish_framed}
use Rattle.commute.proofs.Transfers.{send_framed, receive_framed}

module _ (r : System) (s : Startable r.processors r.plan) (w : Whole r) (t : TaskId) (l : 1 ≤ t.0) (h : t.0 ≤ r.plan.tasks)
    (ready : is_in Ready (task_at r t) ≡ true) where
  here : Settled r.processors r.plan.tasks (length (program_in r.plan t)) (task_at r t)
  here = settled _ _ _ (task_at r t) Ready refl ready (w.holds.tasks t l h)

  -- the instruction is at its place in the program, and the task is that program's
  place : (task_at r t).pc - 1 < length (program_in r.plan t)
  place = omega (arith, here.place, here.place_few)

  whose : task_id (suc (t.0 - 1)) ≡ t
  whose = ap task_id (omega arith)

  sender_is : (c : ChannelId) → is_use op_send c.0 (next_of r t) ≡ true → sender_of (meaning r) c ≡ t
  unfolding next_in
  sender_is c e = sends_on_lem (meaning r) s.plan c.0 (t.0 - 1) ((task_at r t).pc - 1) (in_plan _ _ s t l h) place e ∙ whose

  receiver_is : (c : ChannelId) → is_use op_receive c.0 (next_of r t) ≡ true → receiver_of (meaning r) c ≡ t
  unfolding next_in
  receiver_is c e = receives_on_lem (meaning r) s.plan c.0 (t.0 - 1) ((task_at r t).pc - 1) (in_plan _ _ s t l h) place e ∙ whose

  -- whom it creates has no other parent
  pub parent_is : (u : TaskId) → creates r t u ≡ true → parent_of (meaning r) u ≡ t
  unfolding next_in
  parent_is u e = created_by (meaning r) s.plan u.0 (t.0 - 1) ((task_at r t).pc - 1) (in_plan _ _ s t l h) place e ∙ whose

  executed_framed : Framed r t (λ q. executed q t (next_of r t))
  unfolding executed
  executed_framed =
      let i = next_of r t in
      let fine = next_fine r s w t l h ready in
      let operand = eq-eqb i.operand i.operand refl in
      framed_pick r t (eqb i.opcode op_create) _ _
      (λ e.
      let k = eqb-true i.opcode op_create e in
      create_framed r s w t l h ready (task_id i.operand) (within_high 2 r.plan.tasks i.operand (create_operand _ i fine k)) (and_both _ _ e operand))
      (λ e.
      framed_pick r t (eqb i.opcode op_sync) _ _
      (λ e. own_framed r s w t l h ready sync_rule (sync_stays (task_at r t)))
      (λ e.
      framed_pick r t (eqb i.opcode op_finish) _ _
      (λ e. finish_framed r s w t l h ready)
      (λ e.
      framed_pick r t (eqb i.opcode op_send) _ _
      (λ e.
      let c = channel_id i.operand in
      send_framed r s w t l h ready c (send_operand _ i fine (eqb-true i.opcode op_send e)) (sender_is c (and_both _ _ e operand)))
      (λ e.
      framed_pick r t (eqb i.opcode op_receive) _ _
      (λ e.
      let c = channel_id i.operand in
      receive_framed r s w t l h ready c (receive_operand _ i fine (eqb-true i.opcode op_receive e)) (receiver_is c (and_both _ _ e operand)))
      (λ e.
      framed_pick r t (eqb i.opcode op_set) _ _
      (λ e. own_framed r s w t l h ready (λ x. set_rule x i) refl)
      (λ e. own_framed r s w t l h ready (λ x. add_rule x i) refl))))))

  -- a rig that is seen alike has the same next instruction
  pub next_same : (q : System) → SeenAlike r t q → next_of q t ≡ next_of r t
  next_same q seen =
      ap (λ (p : Plan). next_in (program_at (programs p) (t.0 - 1)) (task_at q t)) seen.plan
      ∙ ap (next_in (task_program r t)) (seen.parts.tasks t (task_in_lem r s w t l h ready))

  pub framed : Framed r t (λ q. ran q t)
  unfolding ran
  framed =
      record {
        changes = executed_framed.changes;
        reads = λ q seen. rw (next_same q seen) (executed_framed.reads q seen);
        stay = executed_framed.stay;
      }
