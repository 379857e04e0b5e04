-- A letter: what is computed on the parts of a rig is what it does in the rig.
use mathlib.Core.Path.{◌≡◌, refl, sym, ◌∙◌, ap}
use mathlib.Core.Bool.{Bool, true, false, true≢false}
use Prim.Native.Nat.{◌≤◌}
use native.Mathlib.Omega.{arith}
use Rattle.base.proofs.Tests.{and_left, and_right, within_low, within_high}
use Rattle.plan.specs.declared.TaskId.{TaskId}
use Rattle.plan.specs.declared.ProcessorId.{ProcessorId}
use Rattle.plan.specs.declared.ChannelId.{ChannelId}
use Rattle.plan.specs.Kinds.{op_send, op_receive}
use Rattle.plan.specs.Users.{sender_of, receiver_of, parent_of}
use Rattle.rules.specs.declared.task.TaskState.TheVariants.{Moving}
use Rattle.rules.specs.declared.channel.Hint.{Hint}
use Rattle.rules.specs.declared.message.Message.{Message}
use Rattle.rules.specs.declared.message.Message.TheVariants.{Empty, Offered, Advert, ReadyToReceive, Data, Terminated, Migration}
use Rattle.rules.specs.declared.rule.Site.{Site}
use Rattle.rules.specs.declared.rule.Outcome.{Outcome}
use Rattle.rules.specs.declared.system.System.{System}
use Rattle.rules.specs.Numbers.{channel_number_ok, task_number_ok}
use Rattle.rules.specs.Tasks.{is_in, arrived, without_children}
use Rattle.rules.specs.Systems.{task_at, with_task, parent_at, with_parent, meaning, store_in}
use Rattle.rules.specs.Effects.{changed}
use Rattle.rules.specs.Offers.{offer_rule, advert_rule}
use Rattle.rules.specs.Calls.{call_rule, data_rule}
use Rattle.rules.specs.Arrivals.{terminated_rule, arrival}
use Rattle.rules.specs.Deliver.{on_channel, got_terminated, got_migration, opened}
use Rattle.rules.specs.Sound.{message_ok, known_ok}
use Rattle.rules_laws.proofs.TaskAt.{with_task_task_at}
use Rattle.rules_sound.specs.Sound.{Startable, Holds}
use Rattle.rules_sound.proofs.Frames.{user_in_lem, tasks_few}
use Rattle.plan_index.specs.ends.Derived.{ends_of}
use Rattle.rig_parts.specs.declared.sweep.Sweep.TheVariants.{Nothing, Arrival, Ending}
use Rattle.rig_parts.specs.Facts.{facts_of, kept_in}
use Rattle.rig_parts.specs.Fetches.{site_in}
use Rattle.rig_parts.specs.Scopes.{alone, named_in, channel_scope}
use Rattle.rig_parts.specs.Sweeps.{parent_in}
use Rattle.rig_parts.specs.RunVerdicts.{change}
use Rattle.rig_parts.specs.Openings.{message_change, opened_in}
use Rattle.rig_parts.specs.Effects.{effect_of}
use Rattle.rig_parts.proofs.Names.{sender_named, receiver_named, parent_named}
use Rattle.rig_parts.proofs.Effects.{alone_effect, applied_effect}
use Rattle.rig_parts.proofs.Sweeps.{arrival_swept}

module _ (r : System) where
  -- the ended letter of child t, whose parent is q
  terminated_as : (q : TaskId) (h : Hint) (t : TaskId) → q ≡ parent_of (meaning r) t
      → let k = alone q h.processor in
      opened r (Terminated h t)
      ≡ effect_of r (message_change k (Terminated h t) (site_in r.plan.codes r.tasks (store_in r) k) (parent_in r.parents h.processor q))
  unfolding opened site_in got_terminated parent_at with_parent
  terminated_as q h t e =
      let p = parent_of (meaning r) t in
      let d = h.processor in
      rw e (sym (alone_effect r d _ p (Ending p d (terminated_rule (task_at r p) (parent_at r d p) h t).entry)))

  terminated_opened : (h : Hint) (t : TaskId) → t.0 ≤ 128
      → opened r (Terminated h t) ≡ effect_of r (opened_in (facts_of r.plan) r.tasks (kept_in r) (Terminated h t))
  unfolding opened_in
  terminated_opened h t few = terminated_as (named_in (ends_of r.plan).parents t.0) h t (parent_named r.plan t few)

  -- the mover letter of task t, which is moving or is not
  module _ (d : ProcessorId) (t : TaskId) where
    abbrev Same : Type 0
    Same = opened r (Migration d t) ≡ effect_of r (opened_in (facts_of r.plan) r.tasks (kept_in r) (Migration d t))

    moving_opened : is_in Moving (task_at r t) ≡ true → Same
    unfolding opened opened_in site_in got_migration arrival parent_at
    moving_opened e =
        let x = task_at r t in
        rw (e, arrival_swept (with_task r t (without_children (arrived x d) (parent_at r d t).held)) t d x.moves) (sym (alone_effect r d _ t (Arrival t d x.moves)))

    still_opened : is_in Moving (task_at r t) ≡ false → Same
    unfolding opened opened_in site_in got_migration
    still_opened e = rw (e) (ap changed (sym (with_task_task_at r t)) ∙ sym (alone_effect r d _ t Nothing))

    migration_opened : Same
    migration_opened = go (is_in Moving (task_at r t)) refl
      where
        go : (b : Bool) → is_in Moving (task_at r t) ≡ b → Same
        go true e = moving_opened e
        go false e = still_opened e

-- in a rig that 9 does not refuse
module _ (r : System) (f : Startable r.processors r.plan) (o : Holds r.processors r.plan r) where
  -- a letter between the ends of a channel
  on_channel_lem : (c : ChannelId) (d : ProcessorId) (rule : Site → Outcome) → channel_number_ok c ≡ true
      → let k = channel_scope (ends_of r.plan).senders (ends_of r.plan).receivers c d in
      on_channel r c d rule ≡ effect_of r (change k (rule (site_in r.plan.codes r.tasks (store_in r) k)) Nothing)
  on_channel_lem c d rule e =
      let l = within_low 1 128 c.0 e in
      let h = within_high 1 128 c.0 e in
      rw (sender_named r.plan c h, receiver_named r.plan c h)
      (sym (applied_effect r o (sender_of (meaning r) c) (receiver_of (meaning r) c) c d (user_in_lem r.plan op_send c.0) (user_in_lem r.plan op_receive c.0) l rule))

  pub open_effect : (m : Message) → message_ok r.processors r.plan.tasks m ≡ true
      → opened r m ≡ effect_of r (opened_in (facts_of r.plan) r.tasks (kept_in r) m)
  unfolding opened opened_in message_ok
  open_effect Empty e = absurd (true≢false (sym e))
  open_effect (Offered c q h) e = on_channel_lem c h.processor (λ x. offer_rule x c q h) (and_left (channel_number_ok c) _ e)
  open_effect (Advert c d from) e = on_channel_lem c d (λ x. advert_rule x c d from) (and_left (channel_number_ok c) _ e)
  open_effect (ReadyToReceive c d h) e = on_channel_lem c d (λ x. call_rule x c d h) (and_left (channel_number_ok c) _ e)
  open_effect (Data c d w) e = on_channel_lem c d (λ x. data_rule x c d w) (and_left (channel_number_ok c) _ e)
  open_effect (Terminated p t) e =
      let n = r.plan.tasks in
      let h = within_high 1 n t.0 (and_right (known_ok r.processors p) (task_number_ok n t) e) in
      terminated_opened r p t (omega (arith, tasks_few r.processors r.plan f))
  open_effect (Migration d t) e = migration_opened r d t
