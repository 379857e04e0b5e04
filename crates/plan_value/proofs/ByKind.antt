-- The test of an instruction, kind by kind.
use mathlib.Core.Path.{◌≡◌, refl}
use mathlib.Core.Bool.{false, ◌&&◌}
use mathlib.Core.Logic.{◌≢◌, by_cases}
use Prim.Native.Nat.{ℕ, ◌≤◌, ◌<◌}
use native.Mathlib.Omega.{arith}
use native.Mathlib.Decide.{ℕ_discrete}
use lib.Dec.{eqb, leb}
use borrow.Author.Tests.{ne_eqb, lt-leb}
use Rattle.base.specs.Choice.{within}
use Rattle.base.proofs.Tests.{and_false}
use Rattle.plan.specs.declared.Instruction.{Instruction}
use Rattle.plan.specs.Refusals.{level_ok, operand_ok, instruction_ok}
use Rattle.plan.specs.RepeatRefusals.{new_instruction_ok}

module _ (n : ℕ) (x : Instruction) where
  -- set and add
  pub ok_word : 6 ≤ x.opcode → x.opcode ≤ 7 → instruction_ok n x ≡ leb x.level 3 && within 0 65535 x.operand
  unfolding operand_ok
  ok_word p q =
      by_cases
      (ℕ_discrete x.opcode 6)
      (λ (e : x.opcode ≡ 6). rw e refl)
      (λ ne. let e : x.opcode ≡ 7 = omega arith in rw e refl)

  -- the other kinds: the second byte
  module _ (other : x.opcode ≤ 5) where
    no_level : level_ok x ≡ leb x.level 0
    no_level = rw (ne_eqb x.opcode 6 (λ e. omega arith), ne_eqb x.opcode 7 (λ e. omega arith)) refl

    pub ok_level : x.level ≢ 0 → instruction_ok n x ≡ false
    ok_level h = rw (no_level, lt-leb x.level 0 (omega arith)) refl

    module _ (zero : x.level ≡ 0) where
      level_fine : instruction_ok n x ≡ operand_ok n x
      level_fine = rw (no_level, zero) refl

      pub ok_create : x.opcode ≡ 1 → instruction_ok n x ≡ within 2 n x.operand
      unfolding operand_ok
      ok_create e = rw (level_fine, e) refl

      -- sync and finish
      pub ok_zero : 2 ≤ x.opcode → x.opcode ≤ 3 → instruction_ok n x ≡ eqb x.operand 0
      unfolding operand_ok
      ok_zero p q =
          rw level_fine
          (by_cases
          (ℕ_discrete x.opcode 2)
          (λ (e : x.opcode ≡ 2). rw e refl)
          (λ ne. let e : x.opcode ≡ 3 = omega arith in rw e refl))

      -- send and receive
      pub ok_channel : 4 ≤ x.opcode → instruction_ok n x ≡ within 1 128 x.operand
      unfolding operand_ok
      ok_channel p =
          rw level_fine
          (by_cases
          (ℕ_discrete x.opcode 4)
          (λ (e : x.opcode ≡ 4). rw e refl)
          (λ ne. let e : x.opcode ≡ 5 = omega arith in rw e refl))

  no_kind : ((k : ℕ) → 1 ≤ k → k ≤ 7 → x.opcode ≡ k → ⊥) → operand_ok n x ≡ false
  unfolding operand_ok
  no_kind h =
      let g : (k : ℕ) → 1 ≤ k → k ≤ 7 → eqb x.opcode k ≡ false = λ k p q. ne_eqb x.opcode k (h k p q) in
      rw (
        g 1 (omega arith) (omega arith),
        g 2 (omega arith) (omega arith),
        g 3 (omega arith) (omega arith),
        g 4 (omega arith) (omega arith),
        g 5 (omega arith) (omega arith),
        g 6 (omega arith) (omega arith),
        g 7 (omega arith) (omega arith),
      )
      refl

  pub ok_unknown : ((k : ℕ) → 1 ≤ k → k ≤ 7 → x.opcode ≡ k → ⊥) → instruction_ok n x ≡ false
  ok_unknown h = rw (no_kind h) (and_false (level_ok x))

  -- in the new edition: a kind of the present one, a repeat, its end
  pub new_old : x.opcode ≤ 7 → new_instruction_ok n x ≡ instruction_ok n x
  unfolding new_instruction_ok
  new_old h = rw (ne_eqb x.opcode 8 (λ e. omega arith), ne_eqb x.opcode 9 (λ e. omega arith)) refl

  pub new_repeat : x.opcode ≡ 8 → new_instruction_ok n x ≡ eqb x.level 0 && within 1 64 x.operand
  unfolding new_instruction_ok
  new_repeat e = rw e refl

  pub new_end : x.opcode ≡ 9 → new_instruction_ok n x ≡ eqb x.level 0 && eqb x.operand 0
  unfolding new_instruction_ok
  new_end e = rw e refl

  pub new_unknown : 9 < x.opcode → new_instruction_ok n x ≡ false
  unfolding new_instruction_ok
  new_unknown h =
      rw (ne_eqb x.opcode 8 (λ e. omega arith), ne_eqb x.opcode 9 (λ e. omega arith)) (ok_unknown (λ k p q e. omega arith))

  pub new_level : 7 < x.opcode → x.level ≢ 0 → new_instruction_ok n x ≡ false
  new_level h ne =
      by_cases
      (ℕ_discrete x.opcode 8)
      (λ (e : x.opcode ≡ 8). rw (new_repeat e, ne_eqb x.level 0 ne) refl)
      (λ no.
      by_cases
      (ℕ_discrete x.opcode 9)
      (λ (e : x.opcode ≡ 9). rw (new_end e, ne_eqb x.level 0 ne) refl)
      (λ nor. new_unknown (omega arith)))

  pub new_none : ((k : ℕ) → 1 ≤ k → k ≤ 9 → x.opcode ≡ k → ⊥) → new_instruction_ok n x ≡ false
  unfolding new_instruction_ok
  new_none h =
      rw (ne_eqb x.opcode 8 (h 8 (omega arith) (omega arith)), ne_eqb x.opcode 9 (h 9 (omega arith) (omega arith)))
      (ok_unknown (λ k p q e. h k p (omega arith) e))
