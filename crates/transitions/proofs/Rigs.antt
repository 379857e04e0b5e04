-- A rig that 9 does not refuse: its plan, desks and tasks, and the letter at a position of its mail.
use mathlib.Core.Path.{◌≡◌, ap, ◌∙◌}
use mathlib.Core.Bool.{true}
use mathlib.Core.Option.{some}
use Prim.Native.Nat.{ℕ, ◌-◌, ◌≤◌}
use native.Mathlib.Omega.{arith}
use lib.ListN.{length, get_elem?}
use Rattle.std.specs.Prelude.{Ok}
use Rattle.base.specs.Choice.{within}
use Rattle.base.proofs.Tests.{within_low, within_high}
use Rattle.plan.specs.declared.TaskId.{TaskId}
use Rattle.plan.specs.declared.ProcessorId.{ProcessorId}
use Rattle.plan.specs.declared.ChannelId.{ChannelId}
use Rattle.plan.specs.Kinds.{op_send, op_receive}
use Rattle.plan.specs.Refusals.{plan_answer}
use Rattle.plan.specs.Users.{sender_of, receiver_of, parent_of}
use Rattle.plan.proofs.Parts.{tasks_of_lem}
use Rattle.rules.specs.declared.message.Message.{Message}
use Rattle.rules.specs.declared.system.System.{System}
use Rattle.rules.specs.Numbers.{channel_number_ok}
use Rattle.rules.specs.Networks.{message_at, dequeued}
use Rattle.rules.specs.Systems.{with_network, meaning}
use Rattle.rules.specs.Sound.{message_ok, system_ok}
use Rattle.rules_laws.specs.Shapes.{Shaped}
use Rattle.rules_laws.proofs.Shapes.{shaped_kept}
use Rattle.rules_sound.specs.Sound.{Sound}
use Rattle.rules_sound.proofs.Sound.{sound}
use Rattle.rules_sound.proofs.Frames.{user_in_lem, tasks_few}
use Rattle.rules_sound.proofs.Network.{message_fine}
use Rattle.transitions.specs.Readings.{reading}
use Rattle.transitions.specs.Agreement.{TasksOk}
use Rattle.transitions.proofs.Parents.{parent_number}
use Rattle.transitions.proofs.Frames.{IsTask, IsCell, read_message}

module _ (r : System) (shaped : Shaped r) (ok : system_ok r ≡ true) where
  pub is_sound : Sound r
  is_sound = sound r shaped ok

  pub plan_accepted : plan_answer (meaning r) ≡ Ok tt
  plan_accepted = is_sound.frame.plan

  pub processors_few : r.processors ≤ 6
  processors_few = is_sound.frame.few

  pub network_few : r.network.used ≤ 256
  network_few = is_sound.network.used

  -- a task of the plan, and a channel at a desk
  pub is_task : (t : TaskId) → within 1 r.plan.tasks t.0 ≡ true → IsTask t
  is_task t w =
      record {
        low = within_low 1 r.plan.tasks t.0 w;
        high = omega (arith, within_high 1 r.plan.tasks t.0 w, tasks_few _ r.plan is_sound.frame);
      }

  pub is_cell : (d : ProcessorId) (c : ChannelId) → 1 ≤ d.0 → d.0 ≤ r.processors → channel_number_ok c ≡ true → IsCell d c
  is_cell d c low high number =
      record { processor = low; processor_few = omega (arith, processors_few); low = within_low 1 128 c.0 number; high = within_high 1 128 c.0 number }

  -- 9 does not refuse its tasks
  pub tasks_ok_lem : TasksOk (meaning r) (reading r)
  unfolding reading
  tasks_ok_lem t w =
      let low = within_low 1 (length (meaning r)) t.0 w in
      let high = within_high 1 (length (meaning r)) t.0 w in
      rw (tasks_of_lem r.plan) (is_sound.rig.tasks t low (omega (arith, tasks_of_lem r.plan)))

  -- the two ends of a channel
  pub sender_few : (c : ChannelId) → (sender_of (meaning r) c).0 ≤ 64
  sender_few c = omega (arith, user_in_lem r.plan op_send c.0, tasks_few _ r.plan is_sound.frame)

  pub receiver_few : (c : ChannelId) → (receiver_of (meaning r) c).0 ≤ 64
  receiver_few c = omega (arith, user_in_lem r.plan op_receive c.0, tasks_few _ r.plan is_sound.frame)

  -- the parent of a task 2 .. T
  pub parent_is_task : (t : TaskId) → within 2 (length (meaning r)) t.0 ≡ true → IsTask (parent_of (meaning r) t)
  parent_is_task t w = is_task (parent_of (meaning r) t) (rw (tasks_of_lem r.plan) at (parent_number (meaning r) plan_accepted t w))

  -- the letter at position p, from 1
  module _ (p : ℕ) (low : 1 ≤ p) (high : p ≤ r.network.used) where
    -- 9 does not refuse it, and it is read
    pub message_ok_lem : (a : Message) → message_at r.network p ≡ a → message_ok r.processors r.plan.tasks a ≡ true
    message_ok_lem a e = rw e at (message_fine r.processors r.plan r.network shaped.slots is_sound.network p low high)

    pub message_at_lem : (a : Message) → message_at r.network p ≡ a → get_elem? (reading r).messages (p - 1) ≡ some a
    message_at_lem a e = read_message r shaped p low high network_few ∙ ap some e

    -- the rig without it
    abbrev pub emptied : System
    emptied = with_network r (dequeued r.network p)

    pub emptied_shaped : Shaped emptied
    emptied_shaped = shaped_kept.leave r p low high network_few shaped
