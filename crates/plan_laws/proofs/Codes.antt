-- An instruction and the number of its four bytes correspond one to one.
use mathlib.Core.Path.{◌≡◌, refl}
use mathlib.Core.Bool.{Bool, true, false}
use Prim.Native.Nat.{ℕ, ◌+◌, ◌*◌, ◌/◌, ◌%◌, ◌<◌, ◌≤◌}
use native.Mathlib.Omega.{arith}
use lib.Dec.{eqb}
use borrow.Author.Tests.{eqb-true, leb-true}
use Rattle.base.specs.Choice.{pick, within}
use Rattle.base.proofs.Choices.{pick_either}
use Rattle.base.proofs.Tests.{and_left, and_right, within_high}
use Rattle.plan.specs.declared.Instruction.{Instruction}
use Rattle.plan.specs.Kinds.{op_create, op_sync, op_finish, op_send, op_receive, op_set, op_add, no_instruction}
use Rattle.plan.specs.Programs.{code_of, instruction_of}
use Rattle.plan.specs.Refusals.{highest_level, level_ok, operand_ok, instruction_ok}

-- it fits in its four bytes
pub record Small (i : Instruction) : Type 0 where
  pub opcode_small : i.opcode < 256
  pub level_small : i.level < 256
  pub operand_small : i.operand < 65536

pub instruction_back : (i : Instruction) → Small i → instruction_of (code_of i) ≡ i
instruction_back i h =
    let o : code_of i % 256 ≡ i.opcode = omega (arith, h.opcode_small) in
    let above : code_of i / 256 ≡ i.level + 256 * i.operand = omega (arith, h.opcode_small) in
    let l : code_of i / 256 % 256 ≡ i.level = rw above (omega (arith, h.level_small)) in
    let a : code_of i / 65536 ≡ i.operand = omega (arith, h.opcode_small, h.level_small) in
    λ j. record { opcode = o j; level = l j; operand = a j }

pub code_back : (n : ℕ) → code_of (instruction_of n) ≡ n
code_back n = omega arith

pub none_small : Small no_instruction
none_small = record { opcode_small = omega arith; level_small = omega arith; operand_small = omega arith }

-- so does one that 3 does not refuse
module _ (n : ℕ) (few : n ≤ 64) (i : Instruction) where
  -- what its kind and its argument say
  abbrev Fits : Type 0
  Fits = (i.opcode < 256) × (i.operand < 65536)

  by_kind : (k : ℕ) (ok rest : Bool) → k < 256 → (ok ≡ true → i.operand < 65536) → (rest ≡ true → Fits)
      → pick (eqb i.opcode k) ok rest ≡ true → Fits
  by_kind k ok rest l f g h = go (eqb i.opcode k) refl h
    where
      go : (t : Bool) → eqb i.opcode k ≡ t → pick t ok rest ≡ true → Fits
      go true e q = (omega (arith, eqb-true i.opcode k e), f q)
      go false e q = g q

  up_to : (low high : ℕ) → high < 65536 → within low high i.operand ≡ true → i.operand < 65536
  up_to low high l h = omega (arith, within_high low high i.operand h)

  zero : eqb i.operand 0 ≡ true → i.operand < 65536
  zero h = omega (arith, eqb-true i.operand 0 h)

  operand_fits : operand_ok n i ≡ true → Fits
  unfolding operand_ok
  operand_fits =
      by_kind op_create _ _ (omega arith) (up_to 2 n (omega arith))
      (by_kind op_sync _ _ (omega arith) zero
      (by_kind op_finish _ _ (omega arith) zero
      (by_kind op_send _ _ (omega arith) (up_to 1 128 (omega arith))
      (by_kind op_receive _ _ (omega arith) (up_to 1 128 (omega arith))
      (by_kind op_set _ _ (omega arith) (up_to 0 65535 (omega arith))
      (by_kind op_add _ _ (omega arith) (up_to 0 65535 (omega arith))
      (λ h. let z : ◌≡◌ {A = ℕ} 0 1 = cc in absurd (omega arith))))))))

  level_fits : level_ok i ≡ true → i.level < 256
  level_fits h =
      let high : highest_level i.opcode ≤ 3 =
      pick_either (λ m. m ≤ 3) (eqb i.opcode op_set) 3 _ (omega arith) (pick_either (λ m. m ≤ 3) (eqb i.opcode op_add) 3 0 (omega arith) (omega arith)) in
      omega (arith, leb-true i.level (highest_level i.opcode) h)

  pub instruction_small : instruction_ok n i ≡ true → Small i
  instruction_small h =
      let l = level_fits (and_left (level_ok i) (operand_ok n i) h) in
      let (o, a) = operand_fits (and_right (level_ok i) (operand_ok n i) h) in
      record { opcode_small = o; level_small = l; operand_small = a }
