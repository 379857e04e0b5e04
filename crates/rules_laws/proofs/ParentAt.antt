-- What a desk keeps for a parent, read and written: an entry that was written is read back, and nothing else has changed.
use mathlib.Core.Path.{◌≡◌, refl}
use mathlib.Core.Logic.{◌≢◌}
use Prim.Native.Nat.{ℕ, ◌≤◌, ◌<◌}
use native.Mathlib.Omega.{arith}
use lib.ListN.{length-set}
use lib.Seq.{get_or-set_other, set-get_or}
use Rattle.plan.specs.declared.TaskId.{TaskId}
use Rattle.plan.specs.declared.ProcessorId.{ProcessorId}
use Rattle.plan.specs.declared.ChannelId.{ChannelId}
use Rattle.rules.specs.declared.task.Task.{Task}
use Rattle.rules.specs.declared.channel.Cell.{Cell}
use Rattle.rules.specs.declared.system.ParentEntry.{ParentEntry}
use Rattle.rules.specs.declared.system.System.{System}
use Rattle.rules.specs.Systems.{task_in, task_at, with_task, entry_at, channel_at, with_cell, parent_index, parent_at, with_parent}
use Rattle.rules_laws.specs.Shapes.{Shaped}
use Rattle.rules_laws.proofs.CellAt.{stored}
use Rattle.rules_laws.proofs.TaskAt.{with_task_keeps}
use Rattle.rules.specs.declared.channel.Hint.{Hint}
use Rattle.rules.specs.Starts.{pointed}

module _ (r : System) (d : ProcessorId) (t : TaskId) (e : ParentEntry) where
  pub with_parent_processors : (with_parent r d t e).processors ≡ r.processors
  unfolding with_parent
  with_parent_processors = refl

  pub with_parent_plan : (with_parent r d t e).plan ≡ r.plan
  unfolding with_parent
  with_parent_plan = refl

  pub with_parent_tasks : (with_parent r d t e).tasks ≡ r.tasks
  unfolding with_parent
  with_parent_tasks = refl

  pub with_parent_chosen : (with_parent r d t e).chosen ≡ r.chosen
  unfolding with_parent
  with_parent_chosen = refl

  pub with_parent_network : (with_parent r d t e).network ≡ r.network
  unfolding with_parent
  with_parent_network = refl

  pub with_parent_task_at : (u : TaskId) → task_at (with_parent r d t e) u ≡ task_at r u
  unfolding with_parent task_in
  with_parent_task_at u = refl

  pub with_parent_entry_at : (f : ProcessorId) (c : ChannelId) → entry_at (with_parent r d t e) f c ≡ entry_at r f c
  unfolding with_parent entry_at
  with_parent_entry_at f c = refl

  pub with_parent_channel_at : (c : ChannelId) → channel_at (with_parent r d t e) c ≡ channel_at r c
  unfolding with_parent channel_at
  with_parent_channel_at c = refl

  pub with_parent_shaped : Shaped r → Shaped (with_parent r d t e)
  unfolding with_parent
  with_parent_shaped s = search length-set

  -- its place of the tables, and another
  pub parent_at_index : Shaped r → d.0 ≤ 6 → t.0 ≤ 64 → (f : ProcessorId) (u : TaskId) → parent_index f u ≡ parent_index d t → parent_at (with_parent r d t e) f u ≡ e
  unfolding with_parent parent_at
  parent_at_index s dh th f u same =
      let i : parent_index d t < 384 = omega arith in
      rw same (search (stored {A = ℕ} 384))

  pub parent_at_same : Shaped r → d.0 ≤ 6 → t.0 ≤ 64 → parent_at (with_parent r d t e) d t ≡ e
  parent_at_same s dh th = parent_at_index s dh th d t refl

  pub parent_at_place : (f : ProcessorId) (u : TaskId) → parent_index f u ≢ parent_index d t → parent_at (with_parent r d t e) f u ≡ parent_at r f u
  unfolding with_parent parent_at
  parent_at_place f u ne = simp get_or-set_other

  pub parent_at_other_processor : (f : ProcessorId) (u : TaskId) → 1 ≤ d.0 → 1 ≤ f.0 → t.0 ≤ 64 → u.0 ≤ 64 → d.0 ≢ f.0
      → parent_at (with_parent r d t e) f u ≡ parent_at r f u
  parent_at_other_processor f u dl fl th uh ne = parent_at_place f u (λ p. ne (omega arith))

  pub parent_at_other_task : (f : ProcessorId) (u : TaskId) → 1 ≤ t.0 → t.0 ≤ 64 → 1 ≤ u.0 → u.0 ≤ 64 → t.0 ≢ u.0
      → parent_at (with_parent r d t e) f u ≡ parent_at r f u
  parent_at_other_task f u tl th ul uh ne = parent_at_place f u (λ p. ne (omega arith))

-- an entry written as it was read
pub with_parent_parent_at : (r : System) (d : ProcessorId) (t : TaskId) → with_parent r d t (parent_at r d t) ≡ r
unfolding with_parent parent_at
with_parent_parent_at r d t = simp set-get_or

-- a pointer that is set changes no held child
pub pointed_held : (r : System) (d : ProcessorId) (t : TaskId) (h : Hint) → (pointed r d t h).parents.held ≡ r.parents.held
unfolding with_parent parent_at
pointed_held r d t h = set-get_or r.parents.held (parent_index d t) 0

-- a task and a cell that are written
pub with_task_parent_at : (r : System) (t : TaskId) (x : Task) (d : ProcessorId) (u : TaskId) → parent_at (with_task r t x) d u ≡ parent_at r d u
unfolding parent_at
with_task_parent_at r t x d u = with_task_keeps (λ q. parent_at q d u) (λ q y. refl) r t x

pub with_cell_parent_at : (r : System) (f : ProcessorId) (c : ChannelId) (x : Cell) (d : ProcessorId) (u : TaskId) → parent_at (with_cell r f c x) d u ≡ parent_at r d u
unfolding with_cell parent_at
with_cell_parent_at r f c x d u = refl
