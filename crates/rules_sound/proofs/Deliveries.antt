-- A letter of a fine mail, opened, leaves a fine effect with at most one letter.
use mathlib.Core.Path.{◌≡◌, refl}
use mathlib.Core.Bool.{true}
use Prim.Native.Nat.{◌≤◌}
use native.Mathlib.Omega.{arith}
use Rattle.base.proofs.Choices.{pick_cases}
use Rattle.base.proofs.Tests.{and_left, and_both, within_low, within_high}
use Rattle.plan.specs.declared.TaskId.{TaskId}
use Rattle.plan.specs.declared.ProcessorId.{ProcessorId}
use Rattle.plan.specs.declared.ChannelId.{ChannelId}
use Rattle.plan.specs.Kinds.{op_create, op_send, op_receive}
use Rattle.plan.specs.Programs.{Program}
use Rattle.plan.specs.Users.{sender_of, receiver_of, parent_of}
use Rattle.plan_laws.proofs.Answers.{and_parts}
use Rattle.rules.specs.Numbers.{processor_ok, channel_number_ok, task_number_ok}
use Rattle.rules.specs.declared.task.TaskState.TheVariants.{Moving}
use Rattle.rules.specs.declared.message.Message.{Message}
use Rattle.rules.specs.declared.message.Message.TheVariants.{Empty, Offered, Advert, ReadyToReceive, Data, Terminated, Migration}
use Rattle.rules.specs.declared.rule.Site.{Site}
use Rattle.rules.specs.declared.rule.Outcome.{Outcome}
use Rattle.rules.specs.declared.system.System.{System}
use Rattle.rules.specs.Tasks.{is_in, arrived, without_children}
use Rattle.rules.specs.Systems.{task_at, with_task, meaning, parent_at, with_parent}
use Rattle.rules.specs.Effects.{Effect, site_at, for_receiving}
use Rattle.rules.specs.Offers.{offer_rule, advert_rule}
use Rattle.rules.specs.Calls.{call_rule, data_rule}
use Rattle.rules.specs.Arrivals.{terminated_rule, arrival_receiving, arrival_sending, arrival, arrival_parent}
use Rattle.rules.specs.Deliver.{on_channel, got_terminated, got_migration, opened}
use Rattle.rules.specs.Sound.{moves_ok, known_ok, made_ok, message_ok}
use Rattle.rules_sound.specs.Fine.{FineReply}
use Rattle.rules_sound.specs.Sites.{FineSite, FineOutcome}
use Rattle.rules_sound.specs.Sound.{program_in, Startable}
use Rattle.rules_sound.specs.Stands.{Whole, Stands, FineEffect}
use Rattle.rules_sound.proofs.LifeRules.{arrived_ok, moving_count, without_children_ok}
use Rattle.rules_sound.proofs.ChannelRules.{arrival_receiving_fine, arrival_sending_fine}
use Rattle.rules_sound.proofs.DeliverRules.{offer_fine, advert_fine, call_fine, data_fine}
use Rattle.rules_sound.proofs.Postings.{nothing_reply}
use Rattle.rules_sound.proofs.Rigs.{receiving_stands, sending_stands, same_stands, parent_stands}
use Rattle.rules_sound.proofs.Frames.{user_in_lem, tasks_few}
use Rattle.rules_sound.proofs.Sites.{applied_fine}
use lib.Pow.{pow_pos}
use Rattle.rules.specs.declared.channel.Hint.{Hint}
use Rattle.rules.specs.Hints.{hint}
use Rattle.rules_sound.proofs.FinishRule.{ended_fine}
use Rattle.rules_sound.proofs.Origins.{born_origin}
use Rattle.rules_sound.proofs.Cells.{known_fine}

module _ (r : System) (s : Startable r.processors r.plan) (w : Whole r) where
  abbrev Left : Effect → Type 0
  Left = FineEffect r.processors r.plan r.network (FineReply r.processors r.plan.tasks)

  -- a rule between the two ends of a channel
  module _ (c : ChannelId) (o : channel_number_ok c ≡ true) (d : ProcessorId) (k : processor_ok r.processors d ≡ true) where
    abbrev site : Site
    site = site_at r (sender_of (meaning r) c) (receiver_of (meaning r) c) c d

    abbrev gs : Program
    gs = program_in r.plan (sender_of (meaning r) c)

    abbrev gr : Program
    gr = program_in r.plan (receiver_of (meaning r) c)

    on_channel_lem : (rule : Site → Outcome)
        → (FineSite r.processors r.plan.tasks gr site
        → FineOutcome r.processors r.plan.tasks gs gr (FineReply r.processors r.plan.tasks) site (rule site))
        → Left (on_channel r c d rule)
    on_channel_lem rule f =
        applied_fine r w (tasks_few _ _ s) (sender_of (meaning r) c) (receiver_of (meaning r) c) (user_in_lem r.plan op_send c.0) (user_in_lem r.plan op_receive c.0)
        c d (within_low 1 r.processors d.0 k) (omega (arith, within_high 1 r.processors d.0 k, s.few))
        (within_low 1 128 c.0 o) (within_high 1 128 c.0 o)
        (FineReply r.processors r.plan.tasks) rule f

  terminated : (h : Hint) (t : TaskId) → known_ok r.processors h ≡ true → task_number_ok r.plan.tasks t ≡ true → Left (got_terminated r h t)
  unfolding got_terminated
  terminated h t known number =
      let n = r.processors in
      let v = parent_of (meaning r) t in
      let vh = user_in_lem r.plan op_create t.0 in
      let few = tasks_few _ _ s in
      let d = h.processor in
      let dh : d.0 ≤ 6 = omega (arith, within_high 1 n d.0 (and_left (processor_ok n d) _ known), s.few) in
      let e = parent_at r d v in
      let o = terminated_rule (task_at r v) e h t in
      let f = ended_fine n r.plan.tasks (program_in r.plan v) (task_at r v) e h t number (w.holds.parents d v dh (omega arith)) in
      let left = same_stands _ _ _ r w few v o.parent vh (λ l. f.parent (w.holds.tasks v l vh)) f.parent_origin in
      record { system = parent_stands _ _ _ (with_task r v o.parent) left d v dh (omega arith) o.entry f.entry; posting = f.posting }

  module _ (d : ProcessorId) (t : TaskId) (k : processor_ok r.processors d ≡ true) (l : 1 ≤ t.0) (h : t.0 ≤ r.plan.tasks) where
    arrives : is_in Moving (task_at r t) ≡ true → Stands r.processors r.plan r.network (arrival r t d)
    unfolding arrival
    arrives e =
        let n = r.processors in
        let x = task_at r t in
        let fine = w.holds.tasks t l h in
        let low = within_low 1 n d.0 k in
        let high : d.0 ≤ 6 = omega (arith, within_high 1 n d.0 k, s.few) in
        let known = and_both (processor_ok n d) (moves_ok x.moves) k (moving_count _ _ _ x fine e) in
        let few = tasks_few n r.plan s in
        let y = without_children (arrived x d) (parent_at r d t).held in
        let first = with_task r t y in
        let there =
        same_stands n r.plan r.network r w few t y h
        (λ z. without_children_ok _ _ _ (arrived x d) (arrived_ok _ _ _ x fine e d k) (parent_at r d t).held)
        (born_origin Moving x y e refl refl refl) in
        let a = arrival_parent d x.moves in
        let q = with_parent first d t a in
        let here =
        parent_stands n r.plan r.network first there d t high (omega arith) a
        (record { hint = known_fine n (hint d x.moves) known; held = pow_pos r.plan.tasks }) in
        let rule = arrival_receiving d x.moves in
        let pointed = receiving_stands n r.plan r.network rule (λ y f. arrival_receiving_fine n y f d x.moves known) d low high t q here in
        sending_stands n r.plan r.network arrival_sending (arrival_sending_fine n) d low high t (for_receiving q t d rule) pointed

    migrated : Stands r.processors r.plan r.network (got_migration r d t)
    unfolding got_migration
    migrated = pick_cases (Stands r.processors r.plan r.network) (is_in Moving (task_at r t)) (arrival r t d) r arrives (λ e. w)

  pub open_fine : (a : Message) → message_ok r.processors r.plan.tasks a ≡ true → Left (opened r a)
  unfolding opened message_ok
  open_fine Empty h = record { system = w; posting = nothing_reply _ _ }
  open_fine (Offered c o h) f =
      let (k, f₁) = and_parts (channel_number_ok c) _ f in
      let (made, known) = and_parts (made_ok r.processors o) (known_ok r.processors h) f₁ in
      on_channel_lem c k h.processor (and_left (processor_ok r.processors h.processor) _ known) (λ x. offer_rule x c o h) (λ y. offer_fine _ _ _ _ _ y c k o h made known)
  open_fine (Advert c d from) f =
      let (k, f₁) = and_parts (channel_number_ok c) _ f in
      let (processor, other) = and_parts (processor_ok r.processors d) (processor_ok r.processors from) f₁ in
      on_channel_lem c k d processor (λ x. advert_rule x c d from) (λ y. advert_fine _ _ _ _ _ y c k d from processor other)
  open_fine (ReadyToReceive c d h) f =
      let (k, f₁) = and_parts (channel_number_ok c) _ f in
      let (processor, known) = and_parts (processor_ok r.processors d) (known_ok r.processors h) f₁ in
      on_channel_lem c k d processor (λ x. call_rule x c d h) (λ y. call_fine _ _ _ _ _ y c k d h known)
  open_fine (Data c d v) f =
      let (k, processor) = and_parts (channel_number_ok c) (processor_ok r.processors d) f in
      on_channel_lem c k d processor (λ x. data_rule x c d v) (λ y. data_fine _ _ _ _ _ y c d v)
  open_fine (Terminated h t) f =
      let (known, number) = and_parts (known_ok r.processors h) (task_number_ok r.plan.tasks t) f in
      terminated h t known number
  open_fine (Migration d t) f =
      let (processor, number) = and_parts (processor_ok r.processors d) (task_number_ok r.plan.tasks t) f in
      record { system = migrated d t processor (within_low 1 r.plan.tasks t.0 number) (within_high 1 r.plan.tasks t.0 number); posting = nothing_reply _ _ }
