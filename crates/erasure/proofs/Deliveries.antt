-- A delivery in a rig without words.
use mathlib.Core.Path.{◌≡◌, refl, ap, ◌∙◌}
use Prim.Native.Nat.{ℕ}
use Rattle.plan.specs.declared.TaskId.{TaskId}
use Rattle.plan.specs.declared.ProcessorId.{ProcessorId}
use Rattle.plan.specs.declared.ChannelId.{ChannelId}
use Rattle.plan.specs.Kinds.{op_send, op_receive}
use Rattle.plan.specs.Words.{zero_word}
use Rattle.plan.specs.Users.{sender_of, receiver_of, parent_of}
use Rattle.rules.specs.declared.task.TaskState.TheVariants.{Moving}
use Rattle.rules.specs.declared.channel.Hint.{Hint}
use Rattle.rules.specs.declared.message.Message.{Message}
use Rattle.rules.specs.declared.message.Message.TheVariants.{Empty, Offered, Advert, ReadyToReceive, Data, Terminated, Migration}
use Rattle.rules.specs.declared.rule.Site.{Site}
use Rattle.rules.specs.declared.rule.Outcome.{Outcome}
use Rattle.rules.specs.declared.rule.Ended.{Ended}
use Rattle.rules.specs.declared.system.System.{System}
use Rattle.rules.specs.Tasks.{is_in, arrived, without_children}
use Rattle.rules.specs.Networks.{message_at, dequeued}
use Rattle.rules.specs.Systems.{with_network, task_at, with_task, parent_at, with_parent, meaning}
use Rattle.rules.specs.Effects.{changed, changed_posting, applied, for_channels, for_receiving, for_sending}
use Rattle.rules.specs.Arrivals.{terminated_rule, arrival_receiving, arrival_sending, arrival_parent, arrival}
use Rattle.rules.specs.Offers.{offer_rule, advert_rule}
use Rattle.rules.specs.Calls.{call_rule, data_rule}
use Rattle.rules.specs.Deliver.{on_channel, got_terminated, got_migration, opened, delivered}
use Rattle.rules.specs.Erasures.{erased_task, erased_message, erased_received, erase}
use Rattle.rules_sound.proofs.Frames.{user_in_lem}
use Rattle.erasure.specs.Erased.{erased_posting, erased_site, erased_outcome, erased_effect}
use Rattle.erasure.proofs.Lists.{pick_map}
use Rattle.erasure.proofs.Networks.{message_read, left_erased}
use Rattle.erasure.proofs.Rules.{offer_erased, advert_erased, call_erased, data_erased, ended_erased}
use Rattle.erasure.proofs.Sites.{Readable, applied_erased}
use Rattle.erasure.proofs.Systems.{task_erased, with_task_lem, parent_at_lem, with_parent_lem, sender_erased, receiver_erased, parent_erased, for_receiving_lem, for_sending_lem}

module _ (r : System) (k : Readable r) where
  channel_erased : (c : ChannelId) (d : ProcessorId) (rule bare : Site → Outcome) → ((x : Site) → bare (erased_site x) ≡ erased_outcome (rule x))
      → on_channel (erase r) c d bare ≡ erased_effect (on_channel r c d rule)
  channel_erased c d rule bare h =
      let s = sender_of (meaning r) c in
      let u = receiver_of (meaning r) c in
      ap (λ z. applied (erase r) z (receiver_of (meaning (erase r)) c) c d bare) (sender_erased r k.plan c)
      ∙ ap (λ z. applied (erase r) s z c d bare) (receiver_erased r k.plan c)
      ∙ applied_erased r k s u (user_in_lem r.plan op_send c.0) (user_in_lem r.plan op_receive c.0) c d rule bare h

  -- what an ended letter leaves is stored
  stored_erased : (u : TaskId) (d : ProcessorId) (o : Ended)
      → changed_posting (with_parent (with_task (erase r) u (erased_task o.parent)) d u o.entry) (erased_posting o.posting)
      ≡ erased_effect (changed_posting (with_parent (with_task r u o.parent) d u o.entry) o.posting)
  unfolding erased_received
  stored_erased u d o = rw (with_task_lem r u o.parent, with_parent_lem (with_task r u o.parent) d u o.entry) refl

  terminated_erased : (h : Hint) (t : TaskId) → got_terminated (erase r) h t ≡ erased_effect (got_terminated r h t)
  unfolding got_terminated
  terminated_erased h t =
      let u = parent_of (meaning r) t in
      let d = h.processor in
      rw (parent_erased r k.plan t, task_erased r u, parent_at_lem r d u, ended_erased (task_at r u) (parent_at r d u) h t)
      (stored_erased u d (terminated_rule (task_at r u) (parent_at r d u) h t))

  arrival_erased : (t : TaskId) (d : ProcessorId) → arrival (erase r) t d ≡ erase (arrival r t d)
  unfolding arrival with_task with_parent for_channels
  arrival_erased t d =
      let x = task_at r t in
      let n = x.moves in
      let y = without_children (arrived x d) (parent_at r d t).held in
      let q = with_task r t y in
      let e = arrival_parent d n in
      let p = with_parent q d t e in
      let here = for_receiving p t d (arrival_receiving d n) in
      rw (task_erased r t, parent_at_lem r d t)
      (ap (λ (s : System). for_sending (for_receiving (with_parent s d t e) t d (arrival_receiving d n)) t d arrival_sending) (with_task_lem r t y)
      ∙ ap (λ (s : System). for_sending (for_receiving s t d (arrival_receiving d n)) t d arrival_sending) (with_parent_lem q d t e)
      ∙ ap (λ (s : System). for_sending s t d arrival_sending) (for_receiving_lem p k.plan t d (arrival_receiving d n))
      ∙ for_sending_lem here k.plan t d arrival_sending)

  migration_erased : (d : ProcessorId) (t : TaskId) → got_migration (erase r) d t ≡ erase (got_migration r d t)
  unfolding got_migration
  migration_erased d t = rw (task_erased r t) (pick_map erase (is_in Moving (task_at r t)) (λ e. arrival_erased t d) (λ e. refl))

  opened_erased : (m : Message) → opened (erase r) (erased_message m) ≡ erased_effect (opened r m)
  unfolding opened erased_message erased_posting erased_received
  opened_erased Empty = refl
  opened_erased (Offered c o h) = channel_erased c h.processor (λ x. offer_rule x c o h) (λ x. offer_rule x c o h) (λ x. offer_erased x c o h)
  opened_erased (Advert c d from) = channel_erased c d (λ x. advert_rule x c d from) (λ x. advert_rule x c d from) (λ x. advert_erased x c d from)
  opened_erased (ReadyToReceive c d h) = channel_erased c d (λ x. call_rule x c d h) (λ x. call_rule x c d h) (λ x. call_erased x c d h)
  opened_erased (Data c d w) = channel_erased c d (λ x. data_rule x c d w) (λ x. data_rule x c d zero_word) (λ x. data_erased x c d w)
  opened_erased (Terminated h t) = terminated_erased h t
  opened_erased (Migration d t) = ap changed (migration_erased d t)

pub delivered_erased : (r : System) → Readable r → (p : ℕ) → delivered (erase r) p ≡ erased_effect (delivered r p)
unfolding delivered erase
delivered_erased r k p =
    let n = r.network in
    rw (left_erased n p, message_read n p)
    (opened_erased (with_network r (dequeued n p)) (record { plan = k.plan; last = k.last }) (message_at n p))
