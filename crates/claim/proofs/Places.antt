-- A run takes its task one place on: "An accepted instruction is executed and the place goes on by one, even if the task then waits."
use mathlib.Core.Path.{◌≡◌, refl, sym, ap, subst}
use mathlib.Core.Bool.{true}
use mathlib.Core.Logic.{◌≢◌}
use mathlib.Core.List.{List}
use Prim.Native.Nat.{suc, ◌-◌, ◌≤◌}
use native.Mathlib.Omega.{arith}
use lib.Dec.{eqb}
use borrow.Author.Tests.{eqb-true, eq-eqb}
use Rattle.std.specs.Prelude.{Ok}
use Rattle.base.proofs.Choices.{pick_cases, pick_either}
use Rattle.base.proofs.Tests.{and_both, within_low, within_high}
use Rattle.plan.specs.declared.Plan.{Plan}
use Rattle.plan.specs.declared.TaskId.{TaskId}
use Rattle.plan.specs.declared.ChannelId.{ChannelId}
use Rattle.plan.specs.declared.Word.{Word}
use Rattle.plan.specs.Kinds.{op_create, op_sync, op_finish, op_send, op_receive, op_set, is_use}
use Rattle.plan.specs.Numbers.{task_id, channel_id}
use Rattle.plan.specs.Programs.{programs}
use Rattle.plan.specs.Users.{sender_of, receiver_of, parent_of}
use Rattle.plan_laws.proofs.Ends.{sends_on_lem, ends_differ}
use Rattle.rules.specs.declared.task.Task.{Task}
use Rattle.rules.specs.declared.system.System.{System}
use Rattle.rules.specs.Hints.{hint}
use Rattle.rules.specs.Tasks.{born}
use Rattle.rules.specs.Systems.{task_at, with_task, parent_at, meaning, task_program}
use Rattle.rules.specs.Effects.{Effect, changed, completed, site_at, with_outcome}
use Rattle.rules.specs.Starts.{located, pointed, birth}
use Rattle.rules.specs.Local.{create_rule, finish_rule}
use Rattle.rules.specs.Places.{next_in, send_number}
use Rattle.rules.specs.Send.{send_rule}
use Rattle.rules.specs.Receive.{receive_rule}
use Rattle.rules.specs.Runs.{ran_create, ran_finish, ran_send, ran_receive, executed, next_of, ran, run_answer}
use Rattle.rules_laws.specs.Shapes.{Shaped}
use Rattle.rules_laws.proofs.TaskAt.{task_at_same, task_at_other, with_task_shaped}
use Rattle.rules_laws.proofs.CellAt.{with_cell_task_at}
use Rattle.rules_laws.proofs.ParentAt.{with_parent_task_at}
use Rattle.rules_laws.proofs.ForChannels.{for_channels_task_at}
use Rattle.net.specs.Nets.{Reached}
use Rattle.transitions.specs.Readings.{reading}
use Rattle.transitions.specs.Agreement.{Running}
use Rattle.transitions.proofs.Rigs.{plan_accepted}
use Rattle.transitions.proofs.Runs.{run_is_task, runs_of}
use Rattle.transitions.proofs.Tasks.{unborn_apart}
use Rattle.invariant.proofs.Simulation.{creates_unborn}
use Rattle.invariant.proofs.Next.{Kept}
use Rattle.claim.proofs.PlaceRules.{sync_place, finish_place, send_place, receive_place}

-- each instruction of task t
module _ (r : System) (shaped : Shaped r) (t : TaskId) (low : 1 ≤ t.0) (high : t.0 ≤ 64) where
  abbrev GoesOn : Effect → Type 0
  GoesOn e = (task_at e.system t).pc ≡ suc (task_at r t).pc

  alone : (x : Task) → x.pc ≡ suc (task_at r t).pc → GoesOn (changed (with_task r t x))
  alone x e = rw (task_at_same r t x shaped low high) e

  create : (u : TaskId) → u.0 ≢ t.0 → GoesOn (ran_create r t u)
  unfolding ran_create birth
  create u other =
      let d = (task_at r t).processor in
      let made = create_rule (task_at r t) u in
      let child = born d (hint d (task_at r t).moves) in
      let first = with_task r t made in
      let both = with_task first u child in
      rw (
        for_channels_task_at _ (located d 1) d 128 (pointed both d u (hint d 1)) t,
        with_parent_task_at both d u _ t,
        task_at_other first u child t other,
        task_at_same r t made shaped low high,
      )
      (omega arith)

  finish : GoesOn (ran_finish r t)
  unfolding ran_finish
  finish =
      let p = parent_of (meaning r) t in
      let e = parent_at r (task_at r t).processor p in
      let o = finish_rule t (task_at r t) (task_at r p) e in
      let first = with_task r p o.parent in
      rw (
        with_parent_task_at (with_task first t o.task) (task_at r t).processor p o.entry t,
        task_at_same first t o.task (with_task_shaped r p o.parent shaped) low high,
      )
      (finish_place t (task_at r t) (task_at r p) e)

  send : (c : ChannelId) → (receiver_of (meaning r) c).0 ≢ t.0 → GoesOn (ran_send r t c)
  unfolding ran_send with_outcome site_at
  send c other =
      let u = receiver_of (meaning r) c in
      let x = site_at r t u c (task_at r t).processor in
      let w = send_number (task_program r t) c x.sender.pc in
      let o = send_rule x c w in
      let first = with_task r t o.sender in
      let both = with_task first u o.receiver in
      rw (
        with_cell_task_at both (task_at r t).processor c o.cell t,
        task_at_other first u o.receiver t other,
        task_at_same r t o.sender shaped low high,
      )
      (send_place x c w)

  receive : (c : ChannelId) → GoesOn (ran_receive r t c)
  unfolding ran_receive with_outcome site_at
  receive c =
      let s = sender_of (meaning r) c in
      let x = site_at r s t c (task_at r t).processor in
      let w = send_number (task_program r s) c (x.sender.pc - 1) in
      let o = receive_rule x c w in
      let first = with_task r s o.sender in
      rw (
        with_cell_task_at (with_task first t o.receiver) (task_at r t).processor c o.cell t,
        task_at_same first t o.receiver (with_task_shaped r s o.sender shaped) low high,
      )
      (receive_place x c w)

-- an accepted run of a rig that a run reaches
module _ {p : Plan} {r : System} {w : ChannelId → List Word} (k : Kept p r w) (t : TaskId) (a : run_answer r t ≡ Ok tt) where
  here : Running (meaning r) k.histories k.state (reading r) w
  here = subst (λ (z : Plan). Running (programs z) k.histories k.state (reading r) w) (sym k.plan) k.running

  reached : Reached (meaning r) k.labels k.state
  reached = subst (λ (z : Plan). Reached (programs z) k.labels k.state) (sym k.plan) k.reached

  -- it creates another task, and sends to another task
  created_other : (next_of r t).opcode ≡ op_create → (next_of r t).operand ≢ t.0
  unfolding reading
  created_other kind =
      let runs = runs_of r k.shaped k.ok t a in
      let i = next_of r t in
      let u = task_id i.operand in
      let used : is_use op_create u.0 i ≡ true = and_both _ _ (eq-eqb i.opcode op_create kind) (eq-eqb u.0 u.0 refl) in
      unborn_apart (task_at r) t u runs.ready (creates_unborn (meaning r) (plan_accepted r k.shaped k.ok) reached here t i runs u used)

  sent_other : (next_of r t).opcode ≡ op_send → (receiver_of (meaning r) (channel_id (next_of r t).operand)).0 ≢ t.0
  unfolding reading next_in
  sent_other kind e =
      let m = meaning r in
      let plan = plan_accepted r k.shaped k.ok in
      let runs = runs_of r k.shaped k.ok t a in
      let i = next_of r t in
      let c = channel_id i.operand in
      let low = within_low 1 _ t.0 runs.number in
      let high = within_high 1 _ t.0 runs.number in
      let used : is_use op_send c.0 i ≡ true = and_both _ _ (eq-eqb i.opcode op_send kind) (eq-eqb c.0 c.0 refl) in
      let sender : (sender_of m c).0 ≡ suc (t.0 - 1) =
      ap (λ (u : TaskId). u.0) (sends_on_lem m plan c.0 (t.0 - 1) ((task_at r t).pc - 1) (omega arith) (omega (arith, runs.low, runs.high)) used) in
      ends_differ m plan c (omega arith) (omega arith)

  pub ran_place : (task_at (completed (ran r t)) t).pc ≡ suc (task_at r t).pc
  unfolding completed ran executed
  ran_place =
      let i = next_of r t in
      let is = run_is_task r k.shaped k.ok t a in
      let Goes = GoesOn r k.shaped t is.low is.high in
      let own = alone r k.shaped t is.low is.high in
      pick_cases Goes (eqb i.opcode op_create) _ _
      (λ e. create r k.shaped t is.low is.high _ (created_other (eqb-true i.opcode op_create e)))
      (λ e.
      pick_either Goes (eqb i.opcode op_sync) _ _ (own _ (sync_place (task_at r t)))
      (pick_either Goes (eqb i.opcode op_finish) _ _ (finish r k.shaped t is.low is.high)
      (pick_cases Goes (eqb i.opcode op_send) _ _
      (λ e. send r k.shaped t is.low is.high _ (sent_other (eqb-true i.opcode op_send e)))
      (λ e.
      pick_either Goes (eqb i.opcode op_receive) _ _ (receive r k.shaped t is.low is.high _)
      (pick_either Goes (eqb i.opcode op_set) _ _ (own _ (omega arith)) (own _ (omega arith)))))))
