-- Rigs that are alike in a footprint: the same write in both, and a write in one of them outside the footprint, leave them so.
use mathlib.Core.Path.{◌≡◌, refl, sym, ◌∙◌, ap}
use mathlib.Core.Bool.{true, false}
use Prim.Native.Nat.{◌≤◌}
use native.Mathlib.Omega.{arith}
use Rattle.base.proofs.Tests.{tests_differ}
use Rattle.plan.specs.declared.TaskId.{TaskId}
use Rattle.plan.specs.declared.ProcessorId.{ProcessorId}
use Rattle.plan.specs.declared.ChannelId.{ChannelId}
use Rattle.rules.specs.Numbers.{processor_id}
use Rattle.rules.specs.declared.task.Task.{Task}
use Rattle.rules.specs.declared.channel.Cell.{Cell}
use Rattle.rules.specs.declared.system.ParentEntry.{ParentEntry}
use Rattle.rules.specs.declared.system.System.{System}
use Rattle.rules.specs.Systems.{task_at, with_task, entry_at, channel_at, with_cell, parent_index, parent_at, with_parent}
use Rattle.rules_laws.specs.Shapes.{Shaped}
use Rattle.rules_laws.proofs.TaskAt.{with_task_entry_at, with_task_channel_at}
use Rattle.rules_laws.proofs.CellAt.{with_cell_task_at}
use Rattle.rules_laws.proofs.ParentAt.{with_parent_task_at, with_parent_entry_at, with_parent_channel_at, with_task_parent_at, with_cell_parent_at}
use Rattle.commute.specs.Footprints.{Footprint, Alike}
use Rattle.commute.proofs.Writes.{task_written, entry_written, channel_written, parent_written}

-- two entries for parents at one place are of one desk
same_row : (d e : ProcessorId) (v w : TaskId) → 1 ≤ d.0 → 1 ≤ e.0 → v.0 ≤ 64 → w.0 ≤ 64 → parent_index e w ≡ parent_index d v → d ≡ e
same_row d e v w dl el vh wh i = let z : d.0 ≡ e.0 = omega arith in ap processor_id z

module _ (f : Footprint) where
  pub alike_refl : (r : System) → Alike f r r
  alike_refl r =
      record {
        tasks = λ v k. refl;
        entries = λ d c dl dh cl ch k. refl;
        channels = λ c cl ch k. refl;
        parents = λ d v dl dh vh k. refl;
      }

  -- the same write in both
  module _ (r q : System) (rs : Shaped r) (qs : Shaped q) (a : Alike f r q) where
    pub both_task : (v : TaskId) (x y : Task) → v.0 ≤ 64 → (f.task v ≡ true → y ≡ x) → Alike f (with_task r v x) (with_task q v y)
    both_task v x y few same =
        record {
          tasks = λ w k. task_written r q rs qs (λ x y. y ≡ x) v x y w few (λ e. same (rw e k)) (a.tasks w k);
          entries = λ d c dl dh cl ch k. with_task_entry_at q v y d c ∙ a.entries d c dl dh cl ch k ∙ sym (with_task_entry_at r v x d c);
          channels = λ c cl ch k. with_task_channel_at q v y c ∙ a.channels c cl ch k ∙ sym (with_task_channel_at r v x c);
          parents = λ d w dl dh wh k. with_task_parent_at q v y d w ∙ a.parents d w dl dh wh k ∙ sym (with_task_parent_at r v x d w);
        }

    module _ (d : ProcessorId) (dl : 1 ≤ d.0) (dh : d.0 ≤ 6) where
      pub both_cell : (c : ChannelId) (x y : Cell) → 1 ≤ c.0 → c.0 ≤ 128 → (f.processor d ≡ true → y.entry ≡ x.entry)
          → (f.channel c ≡ true → y.channel ≡ x.channel)
          → Alike f (with_cell r d c x) (with_cell q d c y)
      both_cell c x y cl ch entry channel =
          record {
            tasks = λ v k. with_cell_task_at q d c y v ∙ a.tasks v k ∙ sym (with_cell_task_at r d c x v);
            entries =
                λ e b el eh bl bh k.
                entry_written r q rs qs d c x y dl dh cl ch (λ x y. y ≡ x) e b el bl bh (λ i j. entry (rw i k)) (a.entries e b el eh bl bh k);
            channels = λ b bl bh k. channel_written r q rs qs d c x y dl dh cl ch (λ x y. y ≡ x) b bl (λ j. channel (rw j k)) (a.channels b bl bh k);
            parents = λ e v el eh vh k. with_cell_parent_at q d c y e v ∙ a.parents e v el eh vh k ∙ sym (with_cell_parent_at r d c x e v);
          }

      pub both_parent : (v : TaskId) (x y : ParentEntry) → v.0 ≤ 64 → (f.processor d ≡ true → y ≡ x) → Alike f (with_parent r d v x) (with_parent q d v y)
      both_parent v x y vh same =
          record {
            tasks = λ w k. with_parent_task_at q d v y w ∙ a.tasks w k ∙ sym (with_parent_task_at r d v x w);
            entries = λ e c el eh cl ch k. with_parent_entry_at q d v y e c ∙ a.entries e c el eh cl ch k ∙ sym (with_parent_entry_at r d v x e c);
            channels = λ c cl ch k. with_parent_channel_at q d v y c ∙ a.channels c cl ch k ∙ sym (with_parent_channel_at r d v x c);
            parents =
                λ e w el eh wh k.
                parent_written r q rs qs (λ x y. y ≡ x) d v x y e w dh vh (λ i. same (rw (same_row d e v w dl el vh wh i) k)) (a.parents e w el eh wh k);
          }

  -- a write in the second
  module _ (r q : System) (qs : Shaped q) (a : Alike f r q) where
    pub one_task_lem : (v : TaskId) (x : Task) → v.0 ≤ 64 → (f.task v ≡ true → x ≡ task_at r v) → Alike f r (with_task q v x)
    one_task_lem v x few same =
        record {
          tasks = λ w k. task_written q q qs qs (λ y z. z ≡ task_at r w) v x x w few (λ e. same (rw e k) ∙ ap (task_at r) e) (a.tasks w k);
          entries = λ d c dl dh cl ch k. with_task_entry_at q v x d c ∙ a.entries d c dl dh cl ch k;
          channels = λ c cl ch k. with_task_channel_at q v x c ∙ a.channels c cl ch k;
          parents = λ d w dl dh wh k. with_task_parent_at q v x d w ∙ a.parents d w dl dh wh k;
        }

    -- at a desk outside
    module _ (d : ProcessorId) (dl : 1 ≤ d.0) (dh : d.0 ≤ 6) (away : f.processor d ≡ false) where
      pub one_cell : (c : ChannelId) (x : Cell) → 1 ≤ c.0 → c.0 ≤ 128 → (f.channel c ≡ true → x.channel ≡ channel_at r c) → Alike f r (with_cell q d c x)
      one_cell c x cl ch channel =
          record {
            tasks = λ v k. with_cell_task_at q d c x v ∙ a.tasks v k;
            entries =
                λ e b el eh bl bh k.
                entry_written q q qs qs d c x x dl dh cl ch (λ y z. z ≡ entry_at r e b) e b el bl bh (λ i j. absurd (tests_differ (rw i k) away))
                (a.entries e b el eh bl bh k);
            channels =
                λ b bl bh k.
                channel_written q q qs qs d c x x dl dh cl ch (λ y z. z ≡ channel_at r b) b bl (λ j. channel (rw j k) ∙ ap (channel_at r) j)
                (a.channels b bl bh k);
            parents = λ e v el eh vh k. with_cell_parent_at q d c x e v ∙ a.parents e v el eh vh k;
          }

      pub one_parent : (v : TaskId) (x : ParentEntry) → v.0 ≤ 64 → Alike f r (with_parent q d v x)
      one_parent v x vh =
          record {
            tasks = λ w k. with_parent_task_at q d v x w ∙ a.tasks w k;
            entries = λ e c el eh cl ch k. with_parent_entry_at q d v x e c ∙ a.entries e c el eh cl ch k;
            channels = λ c cl ch k. with_parent_channel_at q d v x c ∙ a.channels c cl ch k;
            parents =
                λ e w el eh wh k.
                parent_written q q qs qs (λ y z. z ≡ parent_at r e w) d v x x e w dh vh
                (λ i. absurd (tests_differ (rw (same_row d e v w dl el vh wh i) k) away))
                (a.parents e w el eh wh k);
          }
