-- The gap of a letter closed in place: the mail without it.
use mathlib.Core.Path.{◌≡◌, ap}
use mathlib.Core.List.{List}
use Prim.Native.Nat.{ℕ, ◌-◌, ◌≤◌}
use native.Mathlib.Omega.{arith}
use lib.ListN.{set, length}
use Rattle.rules.specs.declared.message.Network.{Network}
use Rattle.rules.specs.declared.message.Slot.{Slot}
use Rattle.rules.specs.Networks.{no_slot, dequeued}
use Rattle.network.proofs.Shift.{shifted, shift_closed}

abbrev pub holding : ℕ → List Slot → Network
holding used l = record { slots = l; used = used }

-- the letter at position p, of those in the mail
module _ (k : Network) (full : length k.slots ≡ 256) (few : k.used ≤ 256) (p : ℕ) (some : 1 ≤ p) (there : p ≤ k.used) where
  -- the mail when j letters behind it have moved down and the last slot is empty
  abbrev pub gap_closed : ℕ → Network
  gap_closed j = holding (k.used - 1) (set (shifted k.slots (p - 1) j) (k.used - 1) no_slot)

  -- it is the mail without the letter, when all have moved
  pub gap_closed_lem : (j : ℕ) → j ≡ k.used - 1 - (p - 1) → gap_closed j ≡ dequeued k p
  unfolding dequeued
  gap_closed_lem j h =
      ap (holding (k.used - 1)) (shift_closed k.slots (p - 1) no_slot j p k.used (omega arith) (omega arith) (omega arith))
