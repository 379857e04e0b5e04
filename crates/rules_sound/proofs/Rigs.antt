-- A rig stands where a fine task, a fine cell or a fine entry for a parent is written, and where a rule that leaves fine cells is applied to channels of a desk.
use mathlib.Core.Path.{◌≡◌, sym, ◌∙◌, ap}
use mathlib.Core.Bool.{Bool, true}
use mathlib.Core.Logic.{by_cases}
use Prim.Native.Nat.{ℕ, zero, suc, ◌≤◌}
use native.Mathlib.Omega.{arith}
use native.Mathlib.Decide.{ℕ_discrete}
use Rattle.base.proofs.Choices.{pick_either}
use Rattle.plan.specs.declared.Plan.{Plan}
use Rattle.plan.specs.declared.TaskId.{TaskId}
use Rattle.plan.specs.declared.ProcessorId.{ProcessorId}
use Rattle.plan.specs.declared.ChannelId.{ChannelId}
use Rattle.rules.specs.declared.task.Task.{Task}
use Rattle.rules.specs.declared.channel.Cell.{Cell}
use Rattle.rules.specs.declared.message.Network.{Network}
use Rattle.rules.specs.declared.system.System.{System}
use Rattle.rules.specs.Numbers.{task_id, processor_id, channel_id}
use Rattle.rules.specs.Systems.{with_task, cell_at, with_cell, meaning, task_at, parent_index, with_parent}
use Rattle.rules.specs.Effects.{for_channels, receives_on, sends_on, for_receiving, for_sending}
use Rattle.rules.specs.Sound.{task_ok, origin_ok}
use Rattle.rules_laws.proofs.TaskAt.{with_task_tasks, with_task_processors, with_task_plan, with_task_network, with_task_chosen, with_task_entry_at, with_task_channel_at, with_task_shaped, task_at_same, task_at_other}
use Rattle.rules_laws.proofs.Ready.{ready_stored}
use Rattle.rules_laws.proofs.ForChannels.{for_channels_zero, for_channels_suc}
use Rattle.rules_laws.proofs.CellAt.{with_cell_processors, with_cell_plan, with_cell_tasks, with_cell_network, with_cell_chosen, with_cell_task_at, with_cell_shaped, entry_at_same, entry_at_other_processor, entry_at_other_channel, channel_at_same, channel_at_other}
use Rattle.rules_sound.specs.Fine.{FineCell, FineParent}
use Rattle.rules_sound.specs.Sound.{program_in}
use Rattle.rules_sound.specs.Stands.{Stands}
use Rattle.rules.specs.declared.system.ParentEntry.{ParentEntry}
use Rattle.rules_laws.proofs.ParentAt.{with_parent_processors, with_parent_plan, with_parent_tasks, with_parent_network, with_parent_chosen, with_parent_task_at, with_parent_entry_at, with_parent_channel_at, with_parent_shaped, parent_at_index, parent_at_place, with_task_parent_at, with_cell_parent_at}
use Rattle.rules_sound.specs.Sites.{SameOrigin}
use Rattle.rules_sound.proofs.Origins.{origin_kept}

module _ (n : ℕ) (p : Plan) (k : Network) where
  module _ (r : System) (s : Stands n p k r) where
    -- task 0 is none, so nothing is asked of what is written there
    pub task_stands : p.tasks ≤ 64 → (t : TaskId) (x : Task) → t.0 ≤ p.tasks → (1 ≤ t.0 → task_ok n p.tasks (program_in p t) x ≡ true)
        → (1 ≤ t.0 → origin_ok n t.0 x ≡ true) → Stands n p k (with_task r t x)
    task_stands few t x high f own =
        record {
          processors = with_task_processors r t x ∙ s.processors;
          plan = with_task_plan r t x ∙ s.plan;
          network = with_task_network r t x ∙ s.network;
          shaped = with_task_shaped r t x s.shaped;
          holds =
              record {
                tasks =
                    λ u l h.
                    by_cases
                    (ℕ_discrete t.0 u.0)
                    (λ (e : t.0 ≡ u.0).
                    let here : u ≡ t = ap task_id (sym e) in
                    rw (here, task_at_same r t x s.shaped (omega arith) (omega arith)) (f (omega arith)))
                    (λ e. rw (task_at_other r t x u e) (s.holds.tasks u l h));
                origins =
                    λ u l h.
                    by_cases
                    (ℕ_discrete t.0 u.0)
                    (λ (e : t.0 ≡ u.0).
                    let here : u ≡ t = ap task_id (sym e) in
                    rw (here, task_at_same r t x s.shaped (omega arith) (omega arith)) (own (omega arith)))
                    (λ e. rw (task_at_other r t x u e) (s.holds.origins u l h));
                entries = λ d c dl dh cl ch. rw (with_task_entry_at r t x d c) (s.holds.entries d c dl dh cl ch);
                channels = λ c cl ch. rw (with_task_channel_at r t x c) (s.holds.channels c cl ch);
                parents = λ d u dh uh. rw (with_task_parent_at r t x d u) (s.holds.parents d u dh uh);
                ready = rw (with_task_tasks r t x) (ready_stored p.tasks r.tasks t x s.shaped.tasks s.shaped.ready high few s.holds.ready);
                chosen = rw (with_task_chosen r t x) s.holds.chosen;
              };
        }

    -- a task that keeps its own pointer
    pub same_stands : p.tasks ≤ 64 → (t : TaskId) (x : Task) → t.0 ≤ p.tasks → (1 ≤ t.0 → task_ok n p.tasks (program_in p t) x ≡ true)
        → SameOrigin (task_at r t) x → Stands n p k (with_task r t x)
    same_stands few t x h f e = task_stands few t x h f (λ l. origin_kept n t.0 (task_at r t) x e (s.holds.origins t l h))

    -- what a desk keeps for a parent
    pub parent_stands : (d : ProcessorId) (t : TaskId) → d.0 ≤ 6 → t.0 ≤ 64 → (e : ParentEntry) → FineParent n p.tasks e → Stands n p k (with_parent r d t e)
    parent_stands d t dh th e f =
        record {
          processors = with_parent_processors r d t e ∙ s.processors;
          plan = with_parent_plan r d t e ∙ s.plan;
          network = with_parent_network r d t e ∙ s.network;
          shaped = with_parent_shaped r d t e s.shaped;
          holds =
              record {
                tasks = λ u l h. rw (with_parent_task_at r d t e u) (s.holds.tasks u l h);
                origins = λ u l h. rw (with_parent_task_at r d t e u) (s.holds.origins u l h);
                entries = λ a c al ah cl ch. rw (with_parent_entry_at r d t e a c) (s.holds.entries a c al ah cl ch);
                channels = λ c cl ch. rw (with_parent_channel_at r d t e c) (s.holds.channels c cl ch);
                parents =
                    λ a u ah uh.
                    by_cases
                    (ℕ_discrete (parent_index a u) (parent_index d t))
                    (λ (i : parent_index a u ≡ parent_index d t). rw (parent_at_index r d t e s.shaped dh th a u i) f)
                    (λ i. rw (parent_at_place r d t e a u i) (s.holds.parents a u ah uh));
                ready = rw (with_parent_tasks r d t e) s.holds.ready;
                chosen = rw (with_parent_chosen r d t e) s.holds.chosen;
              };
        }

    module _ (d : ProcessorId) (c : ChannelId) (dl : 1 ≤ d.0) (dh : d.0 ≤ 6) (cl : 1 ≤ c.0) (ch : c.0 ≤ 128) where
      pub cell_fine : FineCell n (cell_at r d c)
      cell_fine = record { entry = s.holds.entries d c dl dh cl ch; channel = s.holds.channels c cl ch }

      pub cell_stands : (x : Cell) → FineCell n x → Stands n p k (with_cell r d c x)
      cell_stands x f =
          record {
            processors = with_cell_processors r d c x ∙ s.processors;
            plan = with_cell_plan r d c x ∙ s.plan;
            network = with_cell_network r d c x ∙ s.network;
            shaped = with_cell_shaped r d c x s.shaped;
            holds =
                record {
                  tasks = λ t l h. rw (with_cell_task_at r d c x t) (s.holds.tasks t l h);
                  origins = λ t l h. rw (with_cell_task_at r d c x t) (s.holds.origins t l h);
                  parents = λ a t ah th. rw (with_cell_parent_at r d c x a t) (s.holds.parents a t ah th);
                  ready = rw (with_cell_tasks r d c x) s.holds.ready;
                  chosen = rw (with_cell_chosen r d c x) s.holds.chosen;
                  entries =
                      λ e b el eh bl bh.
                      by_cases
                      (ℕ_discrete d.0 e.0)
                      (λ (i : d.0 ≡ e.0).
                      by_cases
                      (ℕ_discrete c.0 b.0)
                      (λ (j : c.0 ≡ b.0).
                      let processor : e ≡ d = ap processor_id (sym i) in
                      let here : b ≡ c = ap channel_id (sym j) in
                      rw (processor, here, entry_at_same r d c x s.shaped dh ch) f.entry)
                      (λ j. rw (entry_at_other_channel r d c x e b cl ch bl bh j) (s.holds.entries e b el eh bl bh)))
                      (λ i. rw (entry_at_other_processor r d c x e b dl el ch bh i) (s.holds.entries e b el eh bl bh));
                  channels =
                      λ b bl bh.
                      by_cases
                      (ℕ_discrete c.0 b.0)
                      (λ (j : c.0 ≡ b.0).
                      let here : b ≡ c = ap channel_id (sym j) in
                      rw (here, channel_at_same r d c x s.shaped ch) f.channel)
                      (λ j. rw (channel_at_other r d c x b cl bl j) (s.holds.channels b bl bh));
                };
          }

  -- a rule that leaves fine cells, at desk d
  module _ (rule : Cell → Cell) (keeps : (x : Cell) → FineCell n x → FineCell n (rule x)) (d : ProcessorId) (dl : 1 ≤ d.0) (dh : d.0 ≤ 6) where
    channels_stand : (test : ChannelId → Bool) (b : ℕ) → b ≤ 128 → (r : System) → Stands n p k r → Stands n p k (for_channels b test rule d r)
    channels_stand test zero h r s = rw (for_channels_zero test rule d r) s
    channels_stand test (suc b) h r s =
        let q = for_channels b test rule d r in
        let c = channel_id (suc b) in
        let t = channels_stand test b (omega arith) r s in
        rw (for_channels_suc test rule d b r)
        (pick_either (Stands n p k) (test c) (with_cell q d c (rule (cell_at q d c))) q
        (cell_stands q t d c dl dh (omega arith) (omega arith) (rule (cell_at q d c)) (keeps (cell_at q d c) (cell_fine q t d c dl dh (omega arith) (omega arith))))
        t)

    pub receiving_stands : (t : TaskId) (r : System) → Stands n p k r → Stands n p k (for_receiving r t d rule)
    receiving_stands t r = channels_stand (receives_on (meaning r) t) 128 (omega arith) r

    pub sending_stands : (t : TaskId) (r : System) → Stands n p k r → Stands n p k (for_sending r t d rule)
    sending_stands t r = channels_stand (sends_on (meaning r) t) 128 (omega arith) r
