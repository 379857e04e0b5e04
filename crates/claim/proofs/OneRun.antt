-- An accepted run of a one-desk rig that a run reaches leaves the mail as it was.
use mathlib.Core.Path.{◌≡◌, sym, ◌∙◌, subst}
use mathlib.Core.Bool.{true, false, ◌&&◌}
use mathlib.Core.List.{List, []}
use Prim.Native.Nat.{ℕ, ◌≤◌}
use native.Mathlib.Omega.{arith}
use lib.Dec.{eqb, ltb}
use borrow.Author.Tests.{eqb-true, eqb-false, eq-eqb, ltb-true}
use Rattle.std.specs.Prelude.{Ok}
use Rattle.base.specs.Choice.{within}
use Rattle.base.proofs.Choices.{pick_cases, pick_either}
use Rattle.base.proofs.Tests.{and_both, is_true, within_low, within_high}
use Rattle.plan.specs.declared.Plan.{Plan}
use Rattle.plan.specs.declared.TaskId.{TaskId}
use Rattle.plan.specs.declared.ProcessorId.{ProcessorId}
use Rattle.plan.specs.declared.ChannelId.{ChannelId}
use Rattle.plan.specs.declared.Word.{Word}
use Rattle.plan.specs.Kinds.{op_create, op_sync, op_finish, op_send, op_receive, op_set}
use Rattle.plan.specs.Numbers.{task_id}
use Rattle.plan.specs.Programs.{programs}
use Rattle.plan.specs.Users.{sender_of, parent_of}
use Rattle.plan_laws.proofs.Canonical.{fits}
use Rattle.plan_laws.proofs.Programs.{send_operand, receive_operand, user_few}
use Rattle.rules.specs.Numbers.{same_task, is_none}
use Rattle.rules.specs.Tasks.{is_at}
use Rattle.rules.specs.Networks.{messages_of, enqueued_all}
use Rattle.rules.specs.Sound.{known_ok, hint_ok, origin_ok}
use Rattle.rules.specs.declared.system.System.{System}
use Rattle.rules.specs.declared.task.TaskState.TheVariants.{Unborn, Ready, Sending}
use Rattle.rules.specs.Systems.{task_at, entry_at, channel_at, parent_at, meaning, task_program}
use Rattle.rules.specs.Effects.{Effect, completed, site_at, with_outcome}
use Rattle.rules.specs.Places.{is_on}
use Rattle.rules.specs.Runs.{ran_create, ran_finish, ran_send, ran_receive, executed, next_of, ran, run_answer}
use Rattle.rules_sound.specs.Sound.{Sound}
use Rattle.rules_sound.specs.Fine.{FineEntry, FineChannel}
use Rattle.rules_sound.proofs.Sound.{sound}
use Rattle.rules_sound.proofs.Answers.{run_passed}
use Rattle.rules_sound.proofs.Kept.{whole}
use Rattle.rules_sound.proofs.Runs.{run_fine}
use Rattle.channel.specs.Invariant.{Invariant}
use Rattle.transitions.specs.Readings.{reading}
use Rattle.transitions.specs.Views.{view_of, sender_view, state_view, tables_view}
use Rattle.transitions.specs.Agreement.{Running}
use Rattle.transitions.proofs.Frames.{entry_there, channel_there_lem}
use Rattle.transitions.proofs.Rigs.{plan_accepted}
use Rattle.transitions.proofs.Flags.{flag_is}
use Rattle.transitions.proofs.Runs.{run_settled, run_instruction}
use Rattle.transitions.proofs.Tasks.{state_is}
use Rattle.invariant.proofs.Next.{Kept}
use Rattle.claim.proofs.Silent.{Silent, silent_nothing, offer_one, finish_silent, send_silent, receive_silent}

-- an accepted run of a one-desk rig that a run reaches
module _ {p : Plan} {r : System} {w : ChannelId → List Word} (k : Kept p r w) (one : r.processors ≡ 1) (t : TaskId) (a : run_answer r t ≡ Ok tt) where
  here : Running (meaning r) k.histories k.state (reading r) w
  here = subst (λ (z : Plan). Running (programs z) k.histories k.state (reading r) w) (sym k.plan) k.running

  fine : Sound r
  fine = sound r k.shaped k.ok

  abbrev d : ProcessorId
  d = (task_at r t).processor

  at_one : d.0 ≡ 1
  at_one = let s = run_settled r k.shaped k.ok t a in omega (arith, s.processor, s.processor_few, one)

  number : within 1 r.plan.tasks t.0 ≡ true
  number = (run_passed r t a).task

  low : 1 ≤ t.0
  low = within_low 1 r.plan.tasks t.0 number

  high : t.0 ≤ r.plan.tasks
  high = within_high 1 r.plan.tasks t.0 number

  -- a finish: its own pointer is known, unless it is task 1
  own_known : same_task t (task_id 1) ≡ false → known_ok 1 (task_at r t).origin ≡ true
  unfolding origin_ok
  own_known other =
      let born = state_is Ready Unborn (task_at r t) (run_passed r t a).ready in
      rw (born, other, one) at (fine.rig.origins t low high)

  ran_finish_lem : Silent (ran_finish r t).posting
  unfolding ran_finish
  ran_finish_lem =
      let v = parent_of (meaning r) t in
      let few : v.0 ≤ 64 = omega (arith, user_few (meaning r) op_create t.0, (fits (meaning r) (plan_accepted r k.shaped k.ok)).few) in
      let entry = subst (λ (n : ℕ). hint_ok n (parent_at r d v).hint ≡ true) one (fine.rig.parents d v (omega (arith, at_one)) few).hint in
      finish_silent t (task_at r t) (task_at r v) (parent_at r d v) at_one entry own_known

  -- a send and a receive on channel c
  module _ (c : ChannelId) (is : within 1 128 c.0 ≡ true) where
    c_low : 1 ≤ c.0
    c_low = within_low 1 128 c.0 is

    c_high : c.0 ≤ 128
    c_high = within_high 1 128 c.0 is

    entry : FineEntry 1 (entry_at r d c)
    entry = subst (λ (n : ℕ). FineEntry n (entry_at r d c)) one (fine.rig.entries d c (omega (arith, at_one)) (omega (arith, at_one)) c_low c_high)

    channel : FineChannel 1 (channel_at r c)
    channel = subst (λ (n : ℕ). FineChannel n (channel_at r c)) one (fine.rig.channels c c_low c_high)

    ran_send_lem : Silent (ran_send r t c).posting
    unfolding ran_send with_outcome site_at
    ran_send_lem = send_silent _ c _ at_one entry.hint

    abbrev s : TaskId
    s = sender_of (meaning r) c

    view : Invariant (view_of (meaning r) k.histories (reading r) c)
    view = here.views c c_low c_high

    -- an offer that counts is of a sender that is sending here
    offered : ltb (channel_at r c).granted (channel_at r c).carried.number ≡ true
        → is_on Sending (task_program r s) c (task_at r s) && is_at d (task_at r s) ≡ true
    unfolding view_of sender_view state_view reading
    offered e =
        let o = (channel_at r c).carried in
        let more = ltb-true (channel_at r c).granted o.number e in
        let now = (rw (channel_there_lem r c c_low c_high) at view.offer_carried) more in
        let made = offer_one o channel.carried (omega arith) in
        let sending = is_on Sending (task_program r s) c (task_at r s) in
        and_both sending _ (flag_is sending now.on) (eq-eqb (task_at r s).processor.0 d.0 (omega (arith, at_one, now.from, made)))

    -- no advert is noted here
    noted : eqb (channel_at r c).granted 0 ≡ true → is_none (entry_at r d c).noted ≡ true
    unfolding view_of sender_view state_view tables_view reading
    noted e =
        let none = eqb-true (channel_at r c).granted 0 e in
        is_true (is_none (entry_at r d c).noted) (λ some.
        let x = d.0 in
        let there = entry_there r c x c_low c_high (omega (arith, at_one)) in
        let l : 1 ≤ (entry_at r d c).noted.0 = let z = eqb-false (entry_at r d c).noted.0 0 some in omega arith in
        let q = (rw (channel_there_lem r c c_low c_high, there) at (view.advert_noted_lem x)) l none in
        q.other (omega (arith, at_one, q.from, entry.noted)))

    ran_receive_lem : Silent (ran_receive r t c).posting
    unfolding ran_receive with_outcome site_at
    ran_receive_lem = receive_silent _ c _ offered noted

  ran_silent : Silent (ran r t).posting
  unfolding ran executed ran_create
  ran_silent =
      let i = next_of r t in
      let ok = run_instruction r k.shaped k.ok t a in
      let P : Effect → Type 0 = λ e. Silent e.posting in
      let n = r.plan.tasks in
      pick_either P (eqb i.opcode op_create) _ _ silent_nothing
      (pick_either P (eqb i.opcode op_sync) _ _ silent_nothing
      (pick_either P (eqb i.opcode op_finish) _ _ ran_finish_lem
      (pick_cases P (eqb i.opcode op_send) _ _ (λ e. ran_send_lem _ (send_operand n i ok (eqb-true i.opcode op_send e)))
      (λ z.
      pick_cases P (eqb i.opcode op_receive) _ _ (λ e. ran_receive_lem _ (receive_operand n i ok (eqb-true i.opcode op_receive e)))
      (λ y. pick_either P (eqb i.opcode op_set) _ _ silent_nothing silent_nothing)))))

  -- so the mail stays as it was
  pub ran_network : (completed (ran r t)).network ≡ r.network
  unfolding completed enqueued_all
  ran_network =
      let left = (run_fine r fine.frame (whole r k.shaped fine) t low high (run_passed r t a).ready).system in
      let e = ran r t in
      let none = subst (λ (n : ℕ). messages_of n e.posting ≡ []) (sym (left.processors ∙ one)) ran_silent in
      rw none left.network
