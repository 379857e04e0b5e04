-- A send and a receive that a ready task runs leave a fine effect.
use mathlib.Core.Path.{◌≡◌, refl}
use mathlib.Core.Bool.{true}
use mathlib.Core.Logic.{by_cases}
use Prim.Native.Nat.{suc, ◌-◌, ◌≤◌}
use native.Mathlib.Omega.{arith}
use native.Mathlib.Decide.{ℕ_discrete}
use borrow.Author.Tests.{eq-eqb}
use Rattle.base.proofs.Tests.{and_both, within_low, within_high}
use Rattle.plan.specs.declared.TaskId.{TaskId}
use Rattle.plan.specs.declared.ChannelId.{ChannelId}
use Rattle.plan.specs.Kinds.{op_send, op_receive, is_use}
use Rattle.plan.specs.Programs.{instruction_at}
use Rattle.plan.specs.Users.{sender_of, receiver_of}
use Rattle.rules.specs.Numbers.{channel_number_ok}
use Rattle.rules.specs.declared.system.System.{System}
use Rattle.rules.specs.Systems.{task_at, meaning, task_in}
use Rattle.rules.specs.Places.{next_in, send_number}
use Rattle.rules.specs.Effects.{site_at}
use Rattle.rules.specs.Send.{send_rule}
use Rattle.rules.specs.Receive.{receive_rule}
use Rattle.rules.specs.Runs.{ran_send, ran_receive, next_of}
use Rattle.rules_sound.specs.Fine.{FinePosting}
use Rattle.rules_sound.specs.Sites.{Acting}
use Rattle.rules_sound.specs.Sound.{program_in, Startable}
use Rattle.rules_sound.specs.Stands.{Whole, FineEffect}
use Rattle.rules_sound.proofs.Born.{place_few}
use Rattle.rules_sound.proofs.Settled.{acting_settled}
use Rattle.rules_sound.proofs.SendRule.{send_fine}
use Rattle.rules_sound.proofs.ReceiveRule.{receive_fine}
use Rattle.rules_sound.proofs.SendNumbers.{send_few, send_some}
use Rattle.rules_sound.proofs.Frames.{user_in_lem, tasks_few, program_in_lem}
use Rattle.rules_sound.proofs.Sites.{applied_fine}

module _ (r : System) (s : Startable r.processors r.plan) (w : Whole r) (t : TaskId) (l : 1 ≤ t.0) (h : t.0 ≤ r.plan.tasks)
    (c : ChannelId) (o : channel_number_ok c ≡ true) where
  -- a send's number: there is an instruction that it counts, and a program has at most 64
  pub send_effect : Acting r.processors r.plan.tasks (program_in r.plan t) op_send (task_at r t) → (next_of r t).operand ≡ c.0
      → FineEffect r.processors r.plan r.network (FinePosting r.processors r.plan.tasks) (ran_send r t c)
  unfolding ran_send site_at next_in
  send_effect a e =
      let n = r.processors in
      let m = r.plan.tasks in
      let u = receiver_of (meaning r) c in
      let x = task_at r t in
      let d = x.processor in
      let g = program_in r.plan t in
      let b = acting_settled n m g x op_send a in
      let uh = user_in_lem r.plan op_receive c.0 in
      let few = send_few g c x.pc in
      let place : suc (x.pc - 1) ≡ x.pc = omega arith in
      let sends : is_use op_send c.0 (instruction_at g (x.pc - 1)) ≡ true = and_both _ _ (eq-eqb _ op_send a.next) (eq-eqb _ c.0 e) in
      let some : 1 ≤ send_number g c x.pc = rw place at (send_some g c (x.pc - 1) sends) in
      applied_fine r w (tasks_few n r.plan s) t u h uh c d b.processor (omega (arith, s.few)) (within_low 1 128 c.0 o) (within_high 1 128 c.0 o)
      (FinePosting n m)
      (λ y. send_rule y c (send_number g c y.sender.pc))
      (λ f. send_fine n m g (program_in r.plan u) (site_at r t u c d) f a c (send_number g c x.pc) o some (omega (arith, (program_in_lem n r.plan s t l h).few)))

  -- the number of the sends that a channel's sender has executed, or 0 where there is none
  sent_few : (v : TaskId) → v.0 ≤ r.plan.tasks → send_number (program_in r.plan v) c ((task_at r v).pc - 1) ≤ 64
  unfolding task_in
  sent_few v vh =
      let g = program_in r.plan v in
      let x = task_at r v in
      let few = send_few g c (x.pc - 1) in
      by_cases
      (ℕ_discrete v.0 0)
      (λ (e : v.0 ≡ 0). let z : x.pc ≡ 0 = rw e refl in omega arith)
      (λ e.
      omega (arith, place_few _ _ g x (w.holds.tasks v (omega arith) vh), (program_in_lem r.processors r.plan s v (omega arith) vh).few))

  pub receive_effect : Acting r.processors r.plan.tasks (program_in r.plan t) op_receive (task_at r t)
      → FineEffect r.processors r.plan r.network (FinePosting r.processors r.plan.tasks) (ran_receive r t c)
  unfolding ran_receive site_at
  receive_effect a =
      let n = r.processors in
      let m = r.plan.tasks in
      let v = sender_of (meaning r) c in
      let d = (task_at r t).processor in
      let g = program_in r.plan v in
      let b = acting_settled n m (program_in r.plan t) (task_at r t) op_receive a in
      let vh = user_in_lem r.plan op_send c.0 in
      applied_fine r w (tasks_few n r.plan s) v t vh h c d b.processor (omega (arith, s.few)) (within_low 1 128 c.0 o) (within_high 1 128 c.0 o)
      (FinePosting n m)
      (λ y. receive_rule y c (send_number g c (y.sender.pc - 1)))
      (λ f. receive_fine n m g (program_in r.plan t) (site_at r v t c d) f a c (send_number g c ((task_at r v).pc - 1)) o (sent_few v vh))
