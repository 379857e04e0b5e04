-- An instruction put, and the bytes of the slots: none, one used slot more, and the rest of a row skipped.
use mathlib.Core.Path.{◌≡◌, refl, ◌∙◌}
use mathlib.Core.List.{List, [], ◌∷◌, ◌++◌}
use mathlib.Core.Logic.{by_cases}
use Prim.Native.Nat.{ℕ, ◌+◌, ◌*◌, ◌/◌, ◌%◌, ◌≤◌, ◌<◌, min}
use native.Mathlib.Decide.{dec_lt}
use native.Mathlib.Omega.{arith}
use lib.ListN.{length, get_or, set}
use borrow.Author.Tests.{lt-ltb}
use Rattle.base.specs.Range.{joined}
use Rattle.base.proofs.Folds.{fold_none, fold_more}
use Rattle.base.proofs.Joins.{part_of_sum, length_joined}
use Rattle.base.proofs.Slots.{row_of, place_of, next_row, joined_skip}
use Rattle.plan.specs.declared.Instruction.{Instruction}
use Rattle.plan.specs.Layout.{bytes16, instruction_bytes}
use Rattle.plan_value.specs.Slots.{slot_in}
use Rattle.plan_write.specs.output.Output.{overlay, slot_at, slots_bytes, Put}
use Rattle.plan_write.proofs.output.Overlay.{overlay_more, two_stores, put_none, put_more}

-- an instruction put byte by byte
pub instruction_put : (out : List ℕ) (at : ℕ) (i : Instruction) (after : List ℕ) → at + 4 ≤ length out
    → after ≡ overlay (set (set out at i.opcode) (at + 1) i.level) (at + 2) (bytes16 i.operand)
    → after ≡ overlay out at (instruction_bytes i)
instruction_put out at i after h e =
    e ∙ rw (two_stores out at i.opcode i.level (omega arith)) (overlay_more out at (i.opcode ∷ i.level ∷ []) (bytes16 i.operand) (omega arith))

module _ (out : List ℕ) (start : ℕ) (lengths codes : List ℕ) where
  pub slots_none : Put out start (slots_bytes lengths codes 0) start out
  slots_none = rw (fold_none ◌++◌ [] (slot_at lengths codes)) (put_none out start)

  -- room for a used slot more
  pub slots_room : (end s at : ℕ) → s < end → start + length (slots_bytes lengths codes end) ≤ length out
      → at ≡ start + length (slots_bytes lengths codes s) → s % 64 < get_or lengths (s / 64) 0 → at + 4 ≤ length out
  slots_room end s at h r e u =
      let slot = slot_at lengths codes in
      let four : length (slot s) ≡ 4 = simp (lt-ltb (s % 64) (get_or lengths (s / 64) 0) u) in
      let part : length (joined s slot) + length (slot s) ≤ length (joined end slot) =
      rw (length_joined s slot, length_joined end slot) (part_of_sum end (λ k. length (slot k)) s h) in
      omega arith

  -- a used slot more
  pub slots_step : (s at : ℕ) (now after : List ℕ) → start ≤ length out
      → Put out start (slots_bytes lengths codes s) at now → s % 64 < get_or lengths (s / 64) 0
      → after ≡ overlay now at (instruction_bytes (slot_in codes s))
      → Put out start (slots_bytes lengths codes (s + 1)) (at + 4) after
  slots_step s at now after h p u e =
      let slot = slot_at lengths codes in
      let one = instruction_bytes (slot_in codes s) in
      let q : Put now at one (at + 4) after = record { next = refl; bytes = e } in
      rw (fold_more ◌++◌ [] s slot, lt-ltb (s % 64) (get_or lengths (s / 64) 0) u) (put_more out start (joined s slot) one now at (at + 4) after h p q)

  -- the rest of a row skipped
  pub slots_skip : (s at : ℕ) (now : List ℕ) → get_or lengths (s / 64) 0 ≤ s % 64
      → Put out start (slots_bytes lengths codes s) at now
      → Put out start (slots_bytes lengths codes (next_row s)) at now
  slots_skip s at now u p =
      rw (joined_skip s (λ k. get_or lengths k 0) (λ j count i. instruction_bytes (slot_in codes j)) u) at p

  -- the rest of a task's slots
  pub slots_row : (k at : ℕ) (now : List ℕ) → Put out start (slots_bytes lengths codes (64 * k + min (get_or lengths k 0) 64)) at now
      → Put out start (slots_bytes lengths codes (64 * (k + 1))) at now
  slots_row k at now p =
      by_cases
      (dec_lt (get_or lengths k 0) 64)
      (λ (h : get_or lengths k 0 < 64).
      let s = 64 * k + get_or lengths k 0 in
      let few : min (get_or lengths k 0) 64 ≡ get_or lengths k 0 = omega arith in
      let row = row_of k (get_or lengths k 0) h in
      let place = place_of k (get_or lengths k 0) h in
      let next : next_row s ≡ 64 * (k + 1) = omega (arith, row) in
      let unused : get_or lengths (s / 64) 0 ≤ s % 64 = rw (row, place) (omega arith) in
      rw (← next) (slots_skip s at now unused (rw few at p)))
      (λ h.
      let full : 64 * k + min (get_or lengths k 0) 64 ≡ 64 * (k + 1) = omega arith in
      rw full at p)
