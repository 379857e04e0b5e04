-- A letter that 9 does not refuse, in the parts of a rig that it does not refuse: what the letter reaches, and that its numbers can go on.
use mathlib.Core.Path.{◌≡◌, refl, sym}
use mathlib.Core.Bool.{Bool, true, ◌&&◌, true≢false}
use Prim.Native.Nat.{ℕ}
use native.Mathlib.Omega.{arith}
use lib.Dec.{leb}
use borrow.Author.Tests.{le-leb}
use Rattle.base.specs.Choice.{within}
use Rattle.base.proofs.Tests.{and_left, and_right, within_high}
use Rattle.plan.specs.declared.TaskId.{TaskId}
use Rattle.plan.specs.declared.ProcessorId.{ProcessorId}
use Rattle.plan.specs.declared.ChannelId.{ChannelId}
use Rattle.plan_laws.proofs.Answers.{and_parts}
use Rattle.rules.specs.declared.message.Message.{Message}
use Rattle.rules.specs.declared.message.Message.TheVariants.{Empty, Offered, Advert, ReadyToReceive, Data, Terminated, Migration}
use Rattle.rules.specs.declared.system.TaskTable.{TaskTable}
use Rattle.rules.specs.Numbers.{channel_number_ok, processor_ok, task_number_ok}
use Rattle.rules.specs.Sound.{known_ok, made_ok, message_ok}
use Rattle.rules_laws.specs.Children.{child_of}
use Rattle.rig_parts.specs.declared.kept.Kept.{Kept}
use Rattle.rig_parts.specs.Facts.{Facts, PartsOf}
use Rattle.rig_parts.specs.Fetches.{site_in}
use Rattle.rig_parts.specs.Scopes.{channel_scope, message_scope, names_ok}
use Rattle.rig_parts.specs.Openings.{OpenableAt}
use Rattle.rig_parts.proofs.BoundsParts.{within_wider, count_few, processors_few, sender_few, receiver_few, parent_few}
use Rattle.rig_parts.proofs.BoundsScope.{Reached, scope_reached}

channel_named : (c : ChannelId) (b : Bool) → channel_number_ok c && b ≡ true → leb c.0 128 ≡ true
channel_named c b o = and_right (leb 1 c.0) (leb c.0 128) (and_left (channel_number_ok c) b o)

module _ {f : Facts} {n : ℕ} {ts : TaskTable} {s : Kept} {used : ℕ} (p : PartsOf f n ts s used) where
  -- a desk of the rig
  processor_few : (d : ProcessorId) → processor_ok n d ≡ true → within 1 6 d.0 ≡ true
  processor_few d h = within_wider n 6 (processors_few p) d.0 h

  -- a task of the rig
  task_few : (t : TaskId) → task_number_ok f.tasks t ≡ true → within 1 64 t.0 ≡ true
  task_few t h = within_wider f.tasks 64 (count_few p) t.0 h

  channel_reached : (c : ChannelId) (d : ProcessorId) → channel_number_ok c ≡ true → processor_ok n d ≡ true
      → Reached ts s (channel_scope f.senders f.receivers c d)
  channel_reached c d ch dh = scope_reached p _ (sender_few p c.0) (receiver_few p c.0) (within_high 1 128 c.0 ch) (processor_few d dh)

  pub message_reached : (m : Message) → message_ok n f.tasks m ≡ true → Reached ts s (message_scope f.senders f.receivers f.parents m)
  unfolding message_ok
  message_reached Empty o = absurd (true≢false (sym o))
  message_reached (Offered c q h) o =
      let (k, rest) = and_parts (channel_number_ok c) _ o in
      channel_reached c h.processor k (and_left (processor_ok n h.processor) _ (and_right (made_ok n q) (known_ok n h) rest))
  message_reached (Advert c d from) o =
      let (k, rest) = and_parts (channel_number_ok c) _ o in
      channel_reached c d k (and_left (processor_ok n d) _ rest)
  message_reached (ReadyToReceive c d h) o =
      let (k, rest) = and_parts (channel_number_ok c) _ o in
      channel_reached c d k (and_left (processor_ok n d) _ rest)
  message_reached (Data c d w) o = channel_reached c d (and_left (channel_number_ok c) _ o) (and_right (channel_number_ok c) _ o)
  message_reached (Terminated h t) o =
      scope_reached p _ (parent_few p t.0) (omega arith) (omega arith)
      (processor_few h.processor (and_left (processor_ok n h.processor) _ (and_left (known_ok n h) _ o)))
  message_reached (Migration d t) o =
      let (processor, task) = and_parts (processor_ok n d) (task_number_ok f.tasks t) o in
      scope_reached p _ (within_high 1 f.tasks t.0 task) (omega arith) (omega arith) (processor_few d processor)

  pub names_ok_lem : (m : Message) → message_ok n f.tasks m ≡ true → names_ok m ≡ true
  unfolding message_ok
  names_ok_lem Empty o = refl
  names_ok_lem (Offered c q h) o = channel_named c _ o
  names_ok_lem (Advert c d from) o = channel_named c _ o
  names_ok_lem (ReadyToReceive c d h) o = channel_named c _ o
  names_ok_lem (Data c d w) o = channel_named c _ o
  names_ok_lem (Terminated h t) o =
      let high = within_high 1 64 t.0 (task_few t (and_right (known_ok n h) _ o)) in
      le-leb t.0 128 (omega arith)
  names_ok_lem (Migration d t) o = refl

  child_ok : (m : Message) → message_ok n f.tasks m ≡ true → within 1 64 (child_of m) ≡ true
  unfolding message_ok
  child_ok Empty o = refl
  child_ok (Offered c q h) o = refl
  child_ok (Advert c d from) o = refl
  child_ok (ReadyToReceive c d h) o = refl
  child_ok (Data c d w) o = refl
  child_ok (Terminated h t) o = task_few t (and_right (known_ok n h) _ o)
  child_ok (Migration d t) o = refl

  pub openable : (m : Message) → message_ok n f.tasks m ≡ true
      → OpenableAt m (site_in f.codes ts s.store (message_scope f.senders f.receivers f.parents m))
  unfolding site_in
  openable m o = record { called = omega (arith, (message_reached m o).called); child = child_ok m o }
