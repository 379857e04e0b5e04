-- A normal form says what is stuck: each born task that is not complete; and a state in which all of these are stuck is a normal form.
use mathlib.Core.Path.{◌≡◌, refl, sym, ap, ◌∙◌}
use mathlib.Core.Bool.{Bool, true, false, not}
use Prim.Native.Nat.{ℕ, suc, ◌-◌, ◌<◌}
use native.Mathlib.Omega.{arith}
use lib.Dec.{eqb}
use lib.ListN.{length}
use borrow.Author.Tests.{eqb-true, eq-eqb, not-false}
use Rattle.std.specs.Prelude.{Ok}
use Rattle.base.proofs.Tests.{and_right, and_both, or_cases, or_neither, first_fails, second_fails, tests_differ, is_false}
use Rattle.net.specs.Machines.{Normal}
use Rattle.plan.specs.declared.TaskId.{TaskId}
use Rattle.plan.specs.declared.ChannelId.{ChannelId}
use Rattle.plan.specs.Numbers.{task_id, channel_id}
use Rattle.plan.specs.Kinds.{op_sync, op_finish, op_send, op_receive, is_use}
use Rattle.plan.specs.Programs.{Programs, program_at, instruction_at}
use Rattle.plan.specs.Users.{sender_of, receiver_of}
use Rattle.plan.specs.Refusals.{plan_answer}
use Rattle.plan_laws.proofs.Ends.{sends_on_lem, receives_on_lem}
use Rattle.net.specs.States.{Net}
use Rattle.net.specs.Labels.{Label, own, pass, is_join, is_transfer, takes_part}
use Rattle.net.specs.Guards.{is_complete, is_active, next_of, stands_at, children_complete, is_free, enabled}
use Rattle.net.specs.Nets.{net}
use Rattle.net.specs.Consistent.{Consistent}
use Rattle.net.specs.Stuck.{Stuck, sending, receiving, joining}
use Rattle.net.proofs.Parts.{label_of, own_free, sender_stands, receiver_stands, stands_active, stands_acting, acting}
use Rattle.net.proofs.Remaining.{active_task, somebody}
use Rattle.net.proofs.NextInstruction.{next_place, next_is}
use Rattle.net.proofs.Children.{children_complete_lem, waits_for}

-- who stands at a send or a receive is that end of the channel
module _ (m : Programs) (a : plan_answer m ≡ Ok tt) (s : Net) (t : TaskId) (d : ChannelId) where
  module _ (k : ℕ) (here : stands_at m s t k d ≡ true) where
    used : is_use k d.0 (instruction_at (program_at m (t.0 - 1)) (s.completed t)) ≡ true
    unfolding stands_at
    used = rw (next_is m a s t (stands_active m s t k d here)) at (and_right (is_active m s t) _ here)

    place : (t.0 - 1 < length m) × (s.completed t < length (program_at m (t.0 - 1))) × (task_id (suc (t.0 - 1)) ≡ t)
    place =
        let active = stands_active m s t k d here in
        let (low, high) = active_task m s t active in
        (omega arith, next_place m a s t active, ap task_id (omega arith))

  pub stands_sender : stands_at m s t op_send d ≡ true → sender_of m d ≡ t
  stands_sender here =
      let (l, q, e) = place op_send here in
      sends_on_lem m a d.0 (t.0 - 1) (s.completed t) l q (used op_send here) ∙ e

  pub stands_receiver : stands_at m s t op_receive d ≡ true → receiver_of m d ≡ t
  stands_receiver here =
      let (l, q, e) = place op_receive here in
      receives_on_lem m a d.0 (t.0 - 1) (s.completed t) l q (used op_receive here) ∙ e

-- an active task whose next instruction has this opcode stands there, on the channel of its operand
at_channel_lem : (m : Programs) (s : Net) (t : TaskId) (k : ℕ) → is_active m s t ≡ true → (next_of m s t).opcode ≡ k
    → stands_at m s t k (channel_id (next_of m s t).operand) ≡ true
unfolding stands_at
at_channel_lem m s t k active e =
    let i = next_of m s t in
    and_both (is_active m s t) _ active (and_both (eqb i.opcode k) _ (eq-eqb i.opcode k e) (eq-eqb i.operand i.operand refl))

module _ (m : Programs) (a : plan_answer m ≡ Ok tt) (s : Net) (c : Consistent m s) where
  module _ (normal : Normal (net m) s) (t : TaskId) (active : is_active m s t ≡ true) where
    stuck_sending : (next_of m s t).opcode ≡ op_send → Stuck m s t
    unfolding enabled
    stuck_sending e =
        let d = channel_id (next_of m s t).operand in
        let here = at_channel_lem m s t op_send active e in
        sending d here (second_fails (stands_at m s (sender_of m d) op_send d) _ (normal (pass d)) (rw (stands_sender m a s t d here) here))

    stuck_receiving : (next_of m s t).opcode ≡ op_receive → Stuck m s t
    unfolding enabled
    stuck_receiving e =
        let d = channel_id (next_of m s t).operand in
        let here = at_channel_lem m s t op_receive active e in
        receiving d here (first_fails (stands_at m s (sender_of m d) op_send d) _ (normal (pass d)) (rw (stands_receiver m a s t d here) here))

    stuck_joining : is_transfer (next_of m s t) ≡ false → Stuck m s t
    unfolding enabled is_free
    stuck_joining e =
        let i = next_of m s t in
        let held = second_fails (not (is_transfer i)) _ (second_fails (is_active m s t) _ (normal (own t)) active) (rw e refl) in
        let (join, waits) = or_neither (not (is_join i)) (children_complete m s t) held in
        let (low, high) = active_task m s t active in
        let (u, parent, born, incomplete) = waits_for m a s c t low high waits in
        joining u (not-false (is_join i) join) parent born incomplete

    normal_stuck : Stuck m s t
    normal_stuck = go (is_transfer (next_of m s t)) refl
      where
        go : (b : Bool) → is_transfer (next_of m s t) ≡ b → Stuck m s t
        go false e = stuck_joining e
        go true e =
            or_cases (eqb (next_of m s t).opcode op_send) (eqb (next_of m s t).opcode op_receive) e
            (λ q. stuck_sending (eqb-true _ op_send q))
            (λ q. stuck_receiving (eqb-true _ op_receive q))

  -- each born task that is not complete is stuck in a normal form
  pub stuck : Normal (net m) s → (t : TaskId) → s.born t ≡ true → is_complete m s t ≡ false → Stuck m s t
  unfolding is_active
  stuck normal t born incomplete = normal_stuck normal t (and_both (s.born t) _ born (rw incomplete refl))

  -- a task that is stuck takes part in no label that may be taken
  stuck_waits : (l : Label) (t : TaskId) → enabled m s l ≡ true → takes_part m t l ≡ true → Stuck m s t → ⊥
  unfolding label_of is_free
  stuck_waits l t h p (sending d here other) =
      let e : l ≡ pass d = sym (acting m s l t h p).label ∙ (stands_acting m s t op_send d here refl).label in
      tests_differ (receiver_stands m s d (rw e at h)) other
  stuck_waits l t h p (receiving d here other) =
      let e : l ≡ pass d = sym (acting m s l t h p).label ∙ (stands_acting m s t op_receive d here refl).label in
      tests_differ (sender_stands m s d (rw e at h)) other
  stuck_waits l t h p (joining u join parent born incomplete) =
      let x = acting m s l t h p in
      let i = next_of m s t in
      let alone : is_transfer i ≡ false =
      or_cases (eqb i.opcode op_sync) (eqb i.opcode op_finish) join
      (λ q. rw (eqb-true i.opcode op_sync q) refl)
      (λ q. rw (eqb-true i.opcode op_finish q) refl) in
      let e : l ≡ own t = sym x.label ∙ rw alone refl in
      let free = and_right (not (is_transfer i)) _ (own_free m s t (rw e at h)) in
      let complete : children_complete m s t ≡ true = rw join at free in
      let (low, high) = active_task m s t x.active in
      tests_differ (children_complete_lem m a s c t low high complete u parent born) incomplete

  -- and where each of these is stuck, nothing may be taken
  pub stuck_normal : ((t : TaskId) → is_active m s t ≡ true → Stuck m s t) → Normal (net m) s
  stuck_normal all l =
      is_false (enabled m s l) (λ e. let (t, p) = somebody m l in stuck_waits l t e p (all t (acting m s l t e p).active))
