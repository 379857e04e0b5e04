-- A birth in rigs that are alike in a footprint: pointers of one desk are set, and no channel's own entry changes.
use mathlib.Core.Path.{◌≡◌, refl, sym, ◌∙◌, ap, subst}
use mathlib.Core.Bool.{Bool, true, false, ◌&&◌}
use mathlib.Core.Logic.{by_cases}
use Prim.Native.Nat.{ℕ, ◌≤◌}
use native.Mathlib.Omega.{arith}
use native.Mathlib.Decide.{ℕ_discrete}
use lib.Dec.{leb}
use Rattle.base.specs.Choice.{pick}
use Rattle.base.proofs.Choices.{pick_either}
use Rattle.base.proofs.Tests.{tests_differ}
use Rattle.plan.specs.declared.Plan.{Plan}
use Rattle.plan.specs.declared.TaskId.{TaskId}
use Rattle.plan.specs.declared.ProcessorId.{ProcessorId}
use Rattle.plan.specs.declared.ChannelId.{ChannelId}
use Rattle.plan.specs.Programs.{programs}
use Rattle.rules.specs.Numbers.{processor_id}
use Rattle.rules.specs.declared.channel.Entry.{Entry}
use Rattle.rules.specs.declared.channel.Channel.{Channel}
use Rattle.rules.specs.declared.channel.Hint.{Hint}
use Rattle.rules.specs.declared.system.System.{System}
use Rattle.rules.specs.Hints.{hint}
use Rattle.rules.specs.Tasks.{born}
use Rattle.rules.specs.Systems.{entry_at, channel_at, with_task, parent_at, meaning}
use Rattle.rules.specs.Effects.{for_channels, receives_on}
use Rattle.rules.specs.Starts.{located, pointing, pointed, birth}
use Rattle.rules_laws.specs.Shapes.{Shaped}
use Rattle.rules_laws.proofs.TaskAt.{with_task_plan, with_task_shaped}
use Rattle.rules_laws.proofs.ParentAt.{with_parent_plan, with_parent_shaped}
use Rattle.rules_laws.proofs.ForChannels.{for_channels_task_at, for_channels_parent_at, for_channels_elsewhere, for_channels_entry_at, for_channels_channel_at}
use Rattle.commute.specs.Footprints.{Footprint, Alike}
use Rattle.commute.proofs.Alike.{both_task, both_parent, one_task_lem, one_parent}

-- the pointers of desk d to a task that is there, for the channels of a test
module _ (test : ChannelId → Bool) (k : ℕ) (d : ProcessorId) (dl : 1 ≤ d.0) (dh : d.0 ≤ 6) where
  abbrev pointed_there : System → System
  pointed_there r = for_channels 128 test (located d k) d r

  -- the channels' own entries stay
  same_channel_lem : (r : System) → Shaped r → (c : ChannelId) → 1 ≤ c.0 → c.0 ≤ 128 → channel_at (pointed_there r) c ≡ channel_at r c
  same_channel_lem r s c cl ch =
      for_channels_channel_at test (located d k) d 128 r c s (omega arith) dh cl ch
      ∙ pick_either (λ (x : Channel). x ≡ channel_at r c) (leb c.0 128 && test c) (channel_at r c) (channel_at r c) refl refl

  module _ (f : Footprint) (r q : System) (rs : Shaped r) (qs : Shaped q) (a : Alike f r q) where
    pub both_pointed : Alike f (pointed_there r) (pointed_there q)
    both_pointed =
        record {
          tasks = λ v k'. for_channels_task_at test (located d k) d 128 q v ∙ a.tasks v k' ∙ sym (for_channels_task_at test (located d k) d 128 r v);
          entries =
              λ e c el eh cl ch k'.
              by_cases
              (ℕ_discrete d.0 e.0)
              (λ (i : d.0 ≡ e.0).
              let same : e ≡ d = ap processor_id (sym i) in
              let old : entry_at q d c ≡ entry_at r d c = a.entries d c dl dh cl ch (rw same at k') in
              let new : Entry → Entry = λ (x : Entry). pick (leb c.0 128 && test c) (record { hint = hint d k; held = x.held; noted = x.noted }) x in
              rw same
              (for_channels_entry_at test (located d k) d 128 q c qs (omega arith) dh cl ch
              ∙ ap new old
              ∙ sym (for_channels_entry_at test (located d k) d 128 r c rs (omega arith) dh cl ch)))
              (λ i.
              for_channels_elsewhere test (located d k) d 128 q e c (omega arith) dl el ch i
              ∙ a.entries e c el eh cl ch k'
              ∙ sym (for_channels_elsewhere test (located d k) d 128 r e c (omega arith) dl el ch i));
          channels = λ c cl ch k'. same_channel_lem q qs c cl ch ∙ a.channels c cl ch k' ∙ sym (same_channel_lem r rs c cl ch);
          parents =
              λ e v el eh vh k'.
              for_channels_parent_at test (located d k) d 128 q e v ∙ a.parents e v el eh vh k' ∙ sym (for_channels_parent_at test (located d k) d 128 r e v);
        }

    pub one_pointed_lem : f.processor d ≡ false → Alike f r (pointed_there q)
    one_pointed_lem away =
        record {
          tasks = λ v k'. for_channels_task_at test (located d k) d 128 q v ∙ a.tasks v k';
          entries =
              λ e c el eh cl ch k'.
              by_cases
              (ℕ_discrete d.0 e.0)
              (λ (i : d.0 ≡ e.0). let same : e ≡ d = ap processor_id (sym i) in absurd (tests_differ (rw same at k') away))
              (λ i. for_channels_elsewhere test (located d k) d 128 q e c (omega arith) dl el ch i ∙ a.entries e c el eh cl ch k');
          channels = λ c cl ch k'. same_channel_lem q qs c cl ch ∙ a.channels c cl ch k';
          parents = λ e v el eh vh k'. for_channels_parent_at test (located d k) d 128 q e v ∙ a.parents e v el eh vh k';
        }

-- a birth of task v at desk d
module _ (f : Footprint) (r q : System) (rs : Shaped r) (qs : Shaped q) (a : Alike f r q) (v : TaskId) (vh : v.0 ≤ 64)
    (d : ProcessorId) (dl : 1 ≤ d.0) (dh : d.0 ≤ 6) (own : Hint) where
  abbrev made : System → System
  made x = with_task x v (born d own)

  abbrev told : System → System
  told x = pointed (made x) d v (hint d 1)

  told_shaped : (x : System) → Shaped x → Shaped (told x)
  told_shaped x s = with_parent_shaped (made x) d v _ (with_task_shaped x v (born d own) s)

  told_plan : (x : System) → (told x).plan ≡ x.plan
  told_plan x = with_parent_plan (made x) d v _ ∙ with_task_plan x v (born d own)

  pub both_born_lem : f.processor d ≡ true → q.plan ≡ r.plan → Alike f (birth r v d own) (birth q v d own)
  unfolding birth
  both_born_lem here plan =
      let first = both_task f r q rs qs a v (born d own) (born d own) vh (λ k. refl) in
      let rs' = with_task_shaped r v (born d own) rs in
      let qs' = with_task_shaped q v (born d own) qs in
      let entry : (f.processor d ≡ true) → pointing (parent_at (made q) d v) (hint d 1) ≡ pointing (parent_at (made r) d v) (hint d 1) =
      λ k. rw (first.parents d v dl dh vh k) refl in
      let second = both_parent f (made r) (made q) rs' qs' first d dl dh v _ _ vh entry in
      let same : (told q).plan ≡ (told r).plan = told_plan q ∙ plan ∙ sym (told_plan r) in
      subst (λ (p : Plan). Alike f (birth r v d own) (for_channels 128 (receives_on (programs p) v) (located d 1) d (told q))) (sym same)
      (both_pointed (receives_on (meaning (told r)) v) 1 d dl dh f (told r) (told q) (told_shaped r rs) (told_shaped q qs) second)

  pub one_born_lem : f.processor d ≡ false → f.task v ≡ false → Alike f r (birth q v d own)
  unfolding birth
  one_born_lem away other =
      let first = one_task_lem f r q qs a v (born d own) vh (λ k. absurd (tests_differ k other)) in
      let second = one_parent f r (made q) (with_task_shaped q v (born d own) qs) first d dl dh away v (pointing (parent_at (made q) d v) (hint d 1)) vh in
      one_pointed_lem (receives_on (meaning (told q)) v) 1 d dl dh f r (told q) rs (told_shaped q qs) second away
