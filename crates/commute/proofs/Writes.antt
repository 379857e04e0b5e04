-- Two rigs after a write each, read: the values written where the place is the one written to, and else what was there.
use mathlib.Core.Path.{◌≡◌, refl, ap}
use mathlib.Core.Logic.{by_cases}
use Prim.Native.Nat.{◌≤◌}
use native.Mathlib.Omega.{arith}
use native.Mathlib.Decide.{ℕ_discrete}
use Rattle.plan.specs.declared.TaskId.{TaskId}
use Rattle.plan.specs.declared.ProcessorId.{ProcessorId}
use Rattle.plan.specs.declared.ChannelId.{ChannelId}
use Rattle.rules.specs.Numbers.{task_id, processor_id, channel_id}
use Rattle.rules.specs.declared.task.Task.{Task}
use Rattle.rules.specs.declared.channel.Entry.{Entry}
use Rattle.rules.specs.declared.channel.Channel.{Channel}
use Rattle.rules.specs.declared.channel.Cell.{Cell}
use Rattle.rules.specs.declared.system.ParentEntry.{ParentEntry}
use Rattle.rules.specs.declared.system.System.{System}
use Rattle.rules.specs.Systems.{task_stored, task_at, with_task, entry_at, channel_at, with_cell, parent_index, parent_at, with_parent}
use Rattle.rules_laws.specs.Shapes.{Shaped}
use Rattle.rules_laws.proofs.TaskAt.{task_at_same, task_at_other}
use Rattle.rules_laws.proofs.CellAt.{entry_at_same, entry_at_other_processor, entry_at_other_channel, channel_at_same, channel_at_other}
use Rattle.rules_laws.proofs.ParentAt.{parent_at_index, parent_at_place}

-- a task of no number is none, whatever is written
none_written : (r : System) (v : TaskId) (x : Task) (w : TaskId) → v.0 ≡ 0 → task_at (with_task r v x) w ≡ task_at r w
unfolding with_task task_stored
none_written r v x w z = rw z refl

module _ (r q : System) (rs : Shaped r) (qs : Shaped q) where
  pub task_written : (P : Task → Task → Type 0) (v : TaskId) (x y : Task) (w : TaskId) → v.0 ≤ 64 → (v ≡ w → P x y) → P (task_at r w) (task_at q w)
      → P (task_at (with_task r v x) w) (task_at (with_task q v y) w)
  task_written P v x y w few here else =
      by_cases
      (ℕ_discrete v.0 0)
      (λ (z : v.0 ≡ 0). rw (none_written r v x w z, none_written q v y w z) else)
      (λ z.
      by_cases
      (ℕ_discrete v.0 w.0)
      (λ (e : v.0 ≡ w.0).
      let same : v ≡ w = ap task_id e in
      rw (← same, task_at_same r v x rs (omega arith) few, task_at_same q v y qs (omega arith) few) (here same))
      (λ e. rw (task_at_other r v x w e, task_at_other q v y w e) else))

  module _ (d : ProcessorId) (c : ChannelId) (x y : Cell) (dl : 1 ≤ d.0) (dh : d.0 ≤ 6) (cl : 1 ≤ c.0) (ch : c.0 ≤ 128) where
    pub entry_written : (P : Entry → Entry → Type 0) (e : ProcessorId) (b : ChannelId) → 1 ≤ e.0 → 1 ≤ b.0 → b.0 ≤ 128
        → (d ≡ e → c ≡ b → P x.entry y.entry) → P (entry_at r e b) (entry_at q e b)
        → P (entry_at (with_cell r d c x) e b) (entry_at (with_cell q d c y) e b)
    entry_written P e b el bl bh here else =
        by_cases
        (ℕ_discrete d.0 e.0)
        (λ (i : d.0 ≡ e.0).
        by_cases
        (ℕ_discrete c.0 b.0)
        (λ (j : c.0 ≡ b.0).
        let desk : d ≡ e = ap processor_id i in
        let same : c ≡ b = ap channel_id j in
        rw (← desk, ← same, entry_at_same r d c x rs dh ch, entry_at_same q d c y qs dh ch) (here desk same))
        (λ j. rw (entry_at_other_channel r d c x e b cl ch bl bh j, entry_at_other_channel q d c y e b cl ch bl bh j) else))
        (λ i. rw (entry_at_other_processor r d c x e b dl el ch bh i, entry_at_other_processor q d c y e b dl el ch bh i) else)

    pub channel_written : (P : Channel → Channel → Type 0) (b : ChannelId) → 1 ≤ b.0 → (c ≡ b → P x.channel y.channel)
        → P (channel_at r b) (channel_at q b)
        → P (channel_at (with_cell r d c x) b) (channel_at (with_cell q d c y) b)
    channel_written P b bl here else =
        by_cases
        (ℕ_discrete c.0 b.0)
        (λ (j : c.0 ≡ b.0).
        let same : c ≡ b = ap channel_id j in
        rw (← same, channel_at_same r d c x rs ch, channel_at_same q d c y qs ch) (here same))
        (λ j. rw (channel_at_other r d c x b cl bl j, channel_at_other q d c y b cl bl j) else)

  pub parent_written : (P : ParentEntry → ParentEntry → Type 0) (d : ProcessorId) (v : TaskId) (x y : ParentEntry) (e : ProcessorId) (w : TaskId)
      → d.0 ≤ 6 → v.0 ≤ 64 → (parent_index e w ≡ parent_index d v → P x y) → P (parent_at r e w) (parent_at q e w)
      → P (parent_at (with_parent r d v x) e w) (parent_at (with_parent q d v y) e w)
  parent_written P d v x y e w dh vh here else =
      by_cases
      (ℕ_discrete (parent_index e w) (parent_index d v))
      (λ (i : parent_index e w ≡ parent_index d v). rw (parent_at_index r d v x rs dh vh e w i, parent_at_index q d v y qs dh vh e w i) (here i))
      (λ i. rw (parent_at_place r d v x e w i, parent_at_place q d v y e w i) else)
