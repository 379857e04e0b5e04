-- A send and a receive: what is computed on the parts of a rig is what they do in the rig.
use mathlib.Core.Path.{◌≡◌, refl, sym, ◌∙◌, ap}
use mathlib.Core.Bool.{true}
use Prim.Native.Nat.{◌-◌, ◌≤◌}
use lib.Dec.{eqb}
use borrow.Author.Tests.{eq-eqb}
use Rattle.base.proofs.Tests.{and_both}
use Rattle.plan.specs.declared.TaskId.{TaskId}
use Rattle.plan.specs.declared.Instruction.{Instruction}
use Rattle.plan.specs.Kinds.{op_send, op_receive, is_use}
use Rattle.plan.specs.Users.{sender_of, receiver_of}
use Rattle.rules.specs.declared.task.TaskState.TheVariants.{Ready}
use Rattle.rules.specs.declared.system.System.{System}
use Rattle.rules.specs.Numbers.{channel_id}
use Rattle.rules.specs.Tasks.{is_in}
use Rattle.rules.specs.Systems.{task_at, task_program, meaning}
use Rattle.rules.specs.Places.{send_number}
use Rattle.rules.specs.Effects.{site_at}
use Rattle.rules.specs.Runs.{ran_send, ran_receive, executed, next_of}
use Rattle.rules_sound.specs.Sound.{Sound}
use Rattle.rules_sound.proofs.Frames.{user_in_lem}
use Rattle.plan_index.specs.ends.Derived.{ends_of}
use Rattle.rig_parts.specs.Fetches.{last_of}
use Rattle.rig_parts.specs.Scopes.{run_scope}
use Rattle.rig_parts.specs.RunVerdicts.{send_in, run_change, ran_in}
use Rattle.rig_parts.specs.Effects.{effect_of, ran_of}
use Rattle.rig_parts.proofs.Fetching.{site_read_lem}
use Rattle.rig_parts.proofs.Names.{sender_named, receiver_named}
use Rattle.rig_parts.proofs.Effects.{outcome_effect}
use Rattle.rig_parts.proofs.SendNumbers.{sender_waits, next_number, last_number}

-- instruction i of task t, on a channel
module _ (r : System) (f : Sound r) (t : TaskId) (h : t.0 ≤ r.plan.tasks) (i : Instruction) (cl : 1 ≤ i.operand) (ch : i.operand ≤ 128) where
  pub send_ran : 1 ≤ t.0 → is_in Ready (task_at r t) ≡ true → i ≡ next_of r t → i.opcode ≡ op_send → executed r t i ≡ effect_of r (ran_of r t i)
  unfolding executed ran_in run_scope run_change send_in ran_send site_at
  send_ran l ready next k =
      let c = channel_id i.operand in
      let u = receiver_of (meaning r) c in
      let d = (task_at r t).processor in
      let uh = user_in_lem r.plan op_receive c.0 in
      let sends = and_both (eqb i.opcode op_send) (eqb i.operand c.0) (eq-eqb i.opcode op_send k) (eq-eqb i.operand c.0 refl) in
      let number = next_number r f t h c l ready (ap (is_use op_send c.0) (sym next) ∙ sends) in
      rw (k, receiver_named r.plan c ch, site_read_lem r f.rig t u c d h uh cl, number) (sym (outcome_effect r d _ t u c cl))

  pub receive_ran : i.opcode ≡ op_receive → executed r t i ≡ effect_of r (ran_of r t i)
  unfolding executed ran_in run_scope run_change send_in ran_receive site_at
  receive_ran k =
      let c = channel_id i.operand in
      let s = sender_of (meaning r) c in
      let d = (task_at r t).processor in
      let sh = user_in_lem r.plan op_send c.0 in
      let w = last_of (ends_of r.plan).numbers s (task_at r s).pc in
      let v = send_number (task_program r s) c ((task_at r s).pc - 1) in
      rw (k, sender_named r.plan c ch, site_read_lem r f.rig s t c d sh h cl, sender_waits (site_at r s t c d) c w v (last_number r f s sh c))
      (sym (outcome_effect r d _ s t c cl))
