-- A run of a ready task, in the parts of a rig that 9 does not refuse: what it reaches, and that its numbers can go on.
use mathlib.Core.Path.{◌≡◌}
use mathlib.Core.Bool.{true}
use Prim.Native.Nat.{ℕ}
use native.Mathlib.Omega.{arith}
use lib.Dec.{eqb}
use borrow.Author.Tests.{eqb-true}
use Rattle.base.specs.Choice.{within}
use Rattle.base.proofs.Choices.{pick_cases}
use Rattle.base.proofs.Tests.{within_high}
use Rattle.plan.specs.declared.TaskId.{TaskId}
use Rattle.plan.specs.declared.Instruction.{Instruction}
use Rattle.plan.specs.Kinds.{op_create, op_finish, op_send, op_receive}
use Rattle.plan_laws.proofs.Programs.{send_operand, receive_operand}
use Rattle.rules.specs.declared.task.TaskState.TheVariants.{Ready}
use Rattle.rules.specs.declared.system.TaskTable.{TaskTable}
use Rattle.rules.specs.Tasks.{is_in}
use Rattle.rules.specs.Systems.{task_in}
use Rattle.rig_parts.specs.declared.kept.Kept.{Kept}
use Rattle.rig_parts.specs.declared.change.Scope.{Scope}
use Rattle.rig_parts.specs.Facts.{Facts, PartsOf}
use Rattle.rig_parts.specs.Scopes.{run_scope}
use Rattle.rig_parts.proofs.BoundsParts.{sender_few, receiver_few, parent_few}
use Rattle.rig_parts.proofs.BoundsScope.{Reached, scope_reached}
use Rattle.rig_parts.proofs.BoundsReady.{next_at, processor_in, instruction_ok_lem, child_few}

module _ {f : Facts} {n : ℕ} {ts : TaskTable} {s : Kept} {used : ℕ} (p : PartsOf f n ts s used) (t : TaskId)
    (w : within 1 f.tasks t.0 ≡ true) (ready : is_in Ready (task_in ts t) ≡ true) where
  -- its next instruction, and the scope of that
  abbrev next : Instruction
  next = next_at f ts t

  abbrev reach : Scope
  reach = run_scope f.senders f.receivers f.parents t (task_in ts t).processor next

  pub run_reached : Reached ts s reach
  unfolding run_scope
  run_reached =
      let high = within_high 1 f.tasks t.0 w in
      let processor = processor_in p t w ready in
      let fine = instruction_ok_lem p t w ready in
      pick_cases (Reached ts s) (eqb next.opcode op_create) _ _
      (λ k. scope_reached p _ high (child_few p t w ready k) (omega arith) processor)
      (λ e.
      pick_cases (Reached ts s) (eqb next.opcode op_finish) _ _
      (λ k. scope_reached p _ (parent_few p t.0) high (omega arith) processor)
      (λ e.
      pick_cases (Reached ts s) (eqb next.opcode op_send) _ _
      (λ k.
      let c = within_high 1 128 next.operand (send_operand f.tasks next fine (eqb-true next.opcode op_send k)) in
      scope_reached p _ high (receiver_few p next.operand) c processor)
      (λ e.
      pick_cases (Reached ts s) (eqb next.opcode op_receive) _ _
      (λ k.
      let c = within_high 1 128 next.operand (receive_operand f.tasks next fine (eqb-true next.opcode op_receive k)) in
      scope_reached p _ (sender_few p next.operand) high c processor)
      (λ e. scope_reached p _ high (omega arith) (omega arith) processor))))
