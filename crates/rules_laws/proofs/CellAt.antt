-- A cell read and written: a cell that was written is read back, and nothing else has changed.
use mathlib.Core.Path.{◌≡◌, refl}
use mathlib.Core.Bool.{Bool}
use mathlib.Core.List.{List}
use mathlib.Core.Logic.{◌≢◌}
use Prim.Native.Nat.{ℕ, ◌-◌, ◌≤◌, ◌<◌}
use native.Mathlib.Omega.{arith}
use lib.ListN.{length, get_or, set, length-set}
use lib.Seq.{get_or-set_same, get_or-set_other, set-get_or}
use Rattle.plan.specs.declared.TaskId.{TaskId}
use Rattle.plan.specs.declared.ProcessorId.{ProcessorId}
use Rattle.plan.specs.declared.ChannelId.{ChannelId}
use Rattle.rules.specs.declared.channel.Cell.{Cell}
use Rattle.rules.specs.declared.system.System.{System}
use Rattle.rules.specs.Systems.{task_at, entry_index, entry_at, channel_at, cell_at, with_cell, task_in}
use Rattle.rules_laws.specs.Shapes.{Shaped}

-- an element of a list of n, written and read
pub stored : {A : Type 0} (n : ℕ) (l : List A) (i : ℕ) (a b : A) → length l ≡ n → i < n → get_or (set l i a) i b ≡ a
stored n l i a b e h = get_or-set_same l i a b (omega arith)

module _ (r : System) (d : ProcessorId) (c : ChannelId) (x : Cell) where
  pub with_cell_processors : (with_cell r d c x).processors ≡ r.processors
  unfolding with_cell
  with_cell_processors = refl

  pub with_cell_plan : (with_cell r d c x).plan ≡ r.plan
  unfolding with_cell
  with_cell_plan = refl

  pub with_cell_parents : (with_cell r d c x).parents ≡ r.parents
  unfolding with_cell
  with_cell_parents = refl

  pub with_cell_tasks : (with_cell r d c x).tasks ≡ r.tasks
  unfolding with_cell
  with_cell_tasks = refl

  pub with_cell_chosen : (with_cell r d c x).chosen ≡ r.chosen
  unfolding with_cell
  with_cell_chosen = refl

  pub with_cell_network : (with_cell r d c x).network ≡ r.network
  unfolding with_cell
  with_cell_network = refl

  pub with_cell_task_at : (t : TaskId) → task_at (with_cell r d c x) t ≡ task_at r t
  unfolding with_cell task_in
  with_cell_task_at t = refl

  pub with_cell_shaped : Shaped r → Shaped (with_cell r d c x)
  unfolding with_cell
  with_cell_shaped s = search length-set

  pub entry_at_same : Shaped r → d.0 ≤ 6 → c.0 ≤ 128 → entry_at (with_cell r d c x) d c ≡ x.entry
  unfolding with_cell entry_at
  entry_at_same s dh ch =
      let i : entry_index d c < 768 = omega arith in
      search (stored {A = ℕ} 768)

  pub channel_at_same : Shaped r → c.0 ≤ 128 → channel_at (with_cell r d c x) c ≡ x.channel
  unfolding with_cell channel_at
  channel_at_same s ch =
      let i : c.0 - 1 < 128 = omega arith in
      search (stored {A = ℕ} 128, stored {A = Bool} 128)

  -- another place of the tables
  entry_at_place : (e : ProcessorId) (f : ChannelId) → entry_index e f ≢ entry_index d c → entry_at (with_cell r d c x) e f ≡ entry_at r e f
  unfolding with_cell entry_at
  entry_at_place e f ne = simp get_or-set_other

  pub entry_at_other_processor : (e : ProcessorId) (f : ChannelId) → 1 ≤ d.0 → 1 ≤ e.0 → c.0 ≤ 128 → f.0 ≤ 128 → d.0 ≢ e.0
      → entry_at (with_cell r d c x) e f ≡ entry_at r e f
  entry_at_other_processor e f dl el ch fh ne = entry_at_place e f (λ p. ne (omega arith))

  pub entry_at_other_channel : (e : ProcessorId) (f : ChannelId) → 1 ≤ c.0 → c.0 ≤ 128 → 1 ≤ f.0 → f.0 ≤ 128 → c.0 ≢ f.0
      → entry_at (with_cell r d c x) e f ≡ entry_at r e f
  entry_at_other_channel e f cl ch fl fh ne = entry_at_place e f (λ p. ne (omega arith))

  pub channel_at_other : (f : ChannelId) → 1 ≤ c.0 → 1 ≤ f.0 → c.0 ≢ f.0 → channel_at (with_cell r d c x) f ≡ channel_at r f
  unfolding with_cell channel_at
  channel_at_other f cl fl ne =
      let other : f.0 - 1 ≢ c.0 - 1 = λ p. ne (omega arith) in
      simp get_or-set_other

  -- both
  pub cell_at_same : Shaped r → d.0 ≤ 6 → c.0 ≤ 128 → cell_at (with_cell r d c x) d c ≡ x
  cell_at_same s dh ch = rw (entry_at_same s dh ch, channel_at_same s ch) refl

  pub cell_at_other : (e : ProcessorId) (f : ChannelId) → 1 ≤ c.0 → c.0 ≤ 128 → 1 ≤ f.0 → f.0 ≤ 128 → c.0 ≢ f.0
      → cell_at (with_cell r d c x) e f ≡ cell_at r e f
  cell_at_other e f cl ch fl fh ne = rw (entry_at_other_channel e f cl ch fl fh ne, channel_at_other f cl fl ne) refl

-- a cell written as it was read
pub with_cell_cell_at : (r : System) (d : ProcessorId) (c : ChannelId) → with_cell r d c (cell_at r d c) ≡ r
unfolding with_cell entry_at channel_at
with_cell_cell_at r d c = simp set-get_or
