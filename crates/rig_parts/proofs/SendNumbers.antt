-- The table of the sends' numbers has the number of the send that a task runs next, and of the one that it waits with. A receive looks at
-- that number only where the sender waits.
use mathlib.Core.Path.{◌≡◌, refl, sym, ◌∙◌, ap}
use mathlib.Core.Bool.{Bool, true, false, not, ◌&&◌, ◌||◌, true≢false}
use Prim.Native.Nat.{ℕ, ◌+◌, ◌-◌, ◌≤◌}
use native.Mathlib.Omega.{arith, by_contra}
use lib.Dec.{eqb, ltb}
use lib.ListN.{get_or}
use borrow.Author.Tests.{eqb-true, eq-eqb, ne_eqb, ltb-true}
use Rattle.base.specs.Choice.{pick}
use Rattle.base.proofs.Tests.{and_left, and_right, and_both}
use Rattle.plan.specs.declared.TaskId.{TaskId}
use Rattle.plan.specs.declared.ChannelId.{ChannelId}
use Rattle.plan.specs.Kinds.{op_send, is_use, no_instruction}
use Rattle.plan.specs.Programs.{instruction_at}
use Rattle.rules.specs.declared.task.TaskState.TheVariants.{Ready, Sending}
use Rattle.rules.specs.declared.rule.Site.{Site}
use Rattle.rules.specs.declared.system.System.{System}
use Rattle.rules.specs.Tasks.{state_number, is_in, is_at}
use Rattle.rules.specs.Systems.{task_at, task_program, task_in}
use Rattle.rules.specs.Places.{next_in, last_in, is_on, send_number}
use Rattle.rules.specs.Receive.{receive_rule}
use Rattle.rules.specs.Runs.{next_of}
use Rattle.rules_sound.specs.Sound.{Sound}
use Rattle.rules_sound.proofs.Born.{born_passed, place_few}
use Rattle.rules_sound.proofs.Settled.{settled}
use Rattle.plan_index.specs.ends.Derived.{ends_of}
use Rattle.plan_index.proofs.ends.Entries.{number_at}
use Rattle.rig_parts.specs.Fetches.{slot_at, last_of}

-- a number that is looked at only where the sender is sending on the channel
pub sender_waits : (x : Site) (c : ChannelId) (w v : ℕ) → (x.sending ≡ true → w ≡ v) → receive_rule x c w ≡ receive_rule x c v
sender_waits x c w v same = go (x.sending && is_at x.receiver.processor x.sender) refl
  where
    go : (b : Bool) → x.sending && is_at x.receiver.processor x.sender ≡ b → receive_rule x c w ≡ receive_rule x c v
    go true e = rw (same (and_left x.sending _ e)) refl
    go false e = unfold receive_rule in rw e refl

module _ (r : System) (f : Sound r) (t : TaskId) (h : t.0 ≤ r.plan.tasks) (c : ChannelId) where
  -- the next instruction, a send
  pub next_number : 1 ≤ t.0 → is_in Ready (task_at r t) ≡ true → is_use op_send c.0 (next_of r t) ≡ true
      → get_or (ends_of r.plan).numbers (slot_at t ((task_at r t).pc - 1)) 0 ≡ send_number (task_program r t) c (task_at r t).pc
  unfolding next_in
  next_number l ready e =
      let x = task_at r t in
      let g = task_program r t in
      let s = settled r.processors r.plan.tasks g x Ready refl ready (f.rig.tasks t l h) in
      let low = s.place in
      let high = s.place_few in
      let place : x.pc - 1 + 1 ≡ x.pc = omega arith in
      number_at r.plan f.frame.plan t.0 (x.pc - 1) c.0 l h (omega arith) e ∙ ap (send_number g c) place

  -- the last executed one, a send that it waits with
  module _ (sending : is_on Sending (task_program r t) c (task_at r t) ≡ true) where
    waits : is_in Sending (task_at r t) ≡ true
    unfolding is_on
    waits = and_left (is_in Sending (task_at r t)) (eqb (last_in (task_program r t) (task_at r t)).operand c.0) sending

    some : 1 ≤ t.0
    unfolding task_in
    some = by_contra 1 t.0 (λ q. let e : eqb t.0 0 ≡ true = eq-eqb t.0 0 (omega arith) in true≢false (sym (rw e at waits)))

    last_send : is_use op_send c.0 (last_in (task_program r t) (task_at r t)) ≡ true
    unfolding is_on
    last_send =
        let x = task_at r t in
        let i = last_in (task_program r t) x in
        let state = eqb-true (state_number x.state) 3 waits in
        let b = born_passed r.processors r.plan.tasks (task_program r t) x (f.rig.tasks t some h) (ne_eqb (state_number x.state) 0 (λ z. omega arith)) in
        let kind : eqb i.opcode op_send ≡ true = rw waits at (and_left (not (is_in Sending x) || eqb i.opcode op_send) _ b.last) in
        and_both (eqb i.opcode op_send) (eqb i.operand c.0) kind (and_right (is_in Sending x) (eqb i.operand c.0) sending)

    pub last_number : last_of (ends_of r.plan).numbers t (task_at r t).pc ≡ send_number (task_program r t) c ((task_at r t).pc - 1)
    unfolding last_of last_in
    last_number = let l = some in rw (ne_eqb t.0 0 (λ e. omega arith)) (go (ltb 1 (task_at r t).pc) refl last_send)
      where
        go : (b : Bool) → ltb 1 (task_at r t).pc ≡ b
            → is_use op_send c.0 (pick b (instruction_at (task_program r t) ((task_at r t).pc - 2)) no_instruction) ≡ true
            → pick b (get_or (ends_of r.plan).numbers (slot_at t ((task_at r t).pc - 2)) 0) 0 ≡ send_number (task_program r t) c ((task_at r t).pc - 1)
        go true e u =
            let x = task_at r t in
            let g = task_program r t in
            let low = ltb-true 1 x.pc e in
            let high = place_few r.processors r.plan.tasks g x (f.rig.tasks t some h) in
            let place : x.pc - 2 + 1 ≡ x.pc - 1 = omega arith in
            number_at r.plan f.frame.plan t.0 (x.pc - 2) c.0 some h (omega arith) u ∙ ap (send_number g c) place
        go false e u = absurd (true≢false (sym u))
