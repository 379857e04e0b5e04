-- A sweep over the channels goes on by one; tests that agree choose alike.
use mathlib.Core.Path.{◌≡◌, refl, sym, ap, ◌∙◌}
use mathlib.Core.Bool.{Bool, true, false}
use Prim.Native.Nat.{ℕ, zero, suc, ◌+◌, ◌≤◌, ◌<◌}
use native.Mathlib.Omega.{arith}
use native.Mathlib.Numerals.{add-one}
use Rattle.base.specs.Choice.{pick, within}
use Rattle.base.proofs.Tests.{within_low, within_high}
use Rattle.plan.specs.declared.ProcessorId.{ProcessorId}
use Rattle.plan.specs.declared.ChannelId.{ChannelId}
use Rattle.rules.specs.declared.channel.Cell.{Cell}
use Rattle.rules.specs.declared.system.Store.{Store}
use Rattle.rules.specs.Numbers.{channel_id}
use Rattle.rules.specs.Effects.{cell_ruled, for_cells}

module _ (test : ChannelId → Bool) (rule : Cell → Cell) (d : ProcessorId) (s : Store) where
  pub cells_none : for_cells 0 test rule d s ≡ s
  unfolding for_cells
  cells_none = refl

  -- a channel of which the test holds, and one of which it does not
  pub cells_here : (k : ℕ) → test (channel_id (k + 1)) ≡ true
      → for_cells (k + 1) test rule d s ≡ cell_ruled rule d (channel_id (k + 1)) (for_cells k test rule d s)
  unfolding for_cells
  cells_here k h = rw (add-one k) (rw (sym (ap (λ n. test (channel_id n)) (add-one k)) ∙ h) refl)

  pub cells_past : (k : ℕ) → test (channel_id (k + 1)) ≡ false → for_cells (k + 1) test rule d s ≡ for_cells k test rule d s
  unfolding for_cells
  cells_past k h = rw (add-one k) (rw (sym (ap (λ n. test (channel_id n)) (add-one k)) ∙ h) refl)

module _ (rule : Cell → Cell) (d : ProcessorId) where
  -- the rule for one channel, if the test holds of it
  unfoldable ruled_if : Bool → ChannelId → Store → Store
  ruled_if b c s = pick b (cell_ruled rule d c s) s

  cells_suc : (n : ℕ) (test : ChannelId → Bool) (s : Store)
      → for_cells (suc n) test rule d s ≡ ruled_if (test (channel_id (suc n))) (channel_id (suc n)) (for_cells n test rule d s)
  unfolding for_cells ruled_if
  cells_suc n test s = refl

  -- tests that agree on 1 .. n
  pub for_cells_same : (n : ℕ) (test other : ChannelId → Bool) (s : Store)
      → ((k : ℕ) → k < n → test (channel_id (suc k)) ≡ other (channel_id (suc k)))
      → for_cells n test rule d s ≡ for_cells n other rule d s
  for_cells_same zero test other s same = unfold for_cells in refl
  for_cells_same (suc n) test other s same =
      let c = channel_id (suc n) in
      cells_suc n test s
      ∙ ap (ruled_if (test c) c) (for_cells_same n test other s (λ k h. same k (omega arith)))
      ∙ ap (λ (b : Bool). ruled_if b c (for_cells n other rule d s)) (same n (omega arith))
      ∙ sym (cells_suc n other s)

-- a desk of a rig
pub at_processor : {n : ℕ} → within 1 6 n ≡ true → (1 ≤ n) × (n ≤ 6)
at_processor {n} h = (within_low 1 6 n h, within_high 1 6 n h)
