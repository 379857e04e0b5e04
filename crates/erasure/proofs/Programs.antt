-- Programs without the arguments of sets and adds: which instruction is at a place, its kind, and which tasks have an instruction of another kind.
use mathlib.Core.Path.{◌≡◌, refl}
use mathlib.Core.Bool.{Bool, true, false, ◌||◌}
use mathlib.Core.List.{[], map}
use Prim.Native.Nat.{ℕ, suc, ◌<◌}
use native.Mathlib.Omega.{arith}
use lib.Dec.{eqb}
use lib.ListN.{length, length-map, get_or-map}
use borrow.Author.Tests.{eqb-true, ne_eqb}
use Rattle.base.proofs.Choices.{pick_either}
use Rattle.base.proofs.Folds.{fold_same}
use Rattle.plan.specs.declared.Instruction.{Instruction}
use Rattle.plan.specs.Kinds.{op_set, op_add, is_finish, is_use, no_instruction}
use Rattle.plan.specs.Programs.{Program, Programs, program_at, instruction_at}
use Rattle.plan.specs.Users.{uses_in, users}
use Rattle.rules.specs.Erasures.{erased_instruction, erased_programs}

module _ (i : Instruction) where
  -- its kind and its level stay
  pub kind_erased : (erased_instruction i).opcode ≡ i.opcode
  unfolding erased_instruction
  kind_erased = pick_either (λ (j : Instruction). j.opcode ≡ i.opcode) (eqb i.opcode op_set || eqb i.opcode op_add) _ _ refl refl

  pub level_erased : (erased_instruction i).level ≡ i.level
  unfolding erased_instruction
  level_erased = pick_either (λ (j : Instruction). j.level ≡ i.level) (eqb i.opcode op_set || eqb i.opcode op_add) _ _ refl refl

  -- an instruction of another kind stays as it is
  pub neither_erased : eqb i.opcode op_set ≡ false → eqb i.opcode op_add ≡ false → erased_instruction i ≡ i
  unfolding erased_instruction
  neither_erased s a = rw (s, a) refl

  pub other_erased : (k : ℕ) → k < op_set → i.opcode ≡ k → erased_instruction i ≡ i
  other_erased k l e = neither_erased (ne_eqb i.opcode op_set (λ z. omega arith)) (ne_eqb i.opcode op_add (λ z. omega arith))

  -- a set and an add have no argument
  pub set_erased : i.opcode ≡ op_set → (erased_instruction i).operand ≡ 0
  unfolding erased_instruction
  set_erased e = rw e refl

  pub add_erased : i.opcode ≡ op_add → (erased_instruction i).operand ≡ 0
  unfolding erased_instruction
  add_erased e = rw e refl

  pub finish_erased : is_finish (erased_instruction i) ≡ is_finish i
  finish_erased = rw kind_erased refl

  -- a use of another kind
  pub use_erased : (k a : ℕ) → k < op_set → is_use k a (erased_instruction i) ≡ is_use k a i
  use_erased k a l = go (eqb i.opcode k) refl
    where
      go : (b : Bool) → eqb i.opcode k ≡ b → is_use k a (erased_instruction i) ≡ is_use k a i
      go true e = rw (other_erased k l (eqb-true i.opcode k e)) refl
      go false e = rw (kind_erased, e) refl

-- the instruction at a place, and the program of a task
pub instruction_erased : (g : Program) (k : ℕ) → instruction_at (map erased_instruction g) k ≡ erased_instruction (instruction_at g k)
unfolding erased_instruction
instruction_erased g k = get_or-map erased_instruction g k no_instruction

pub program_erased : (m : Programs) (k : ℕ) → program_at (erased_programs m) k ≡ map erased_instruction (program_at m k)
unfolding erased_programs
program_erased m k = get_or-map (map erased_instruction) m k []

pub length_erased : (m : Programs) → length (erased_programs m) ≡ length m
unfolding erased_programs
length_erased m = length-map m (map erased_instruction)

-- the tasks that have an instruction of another kind
module _ (k a : ℕ) (l : k < op_set) where
  uses_erased : (t : ℕ) (g : Program) → uses_in k a t (map erased_instruction g) ≡ uses_in k a t g
  uses_erased t g =
      rw (length-map g erased_instruction)
      (fold_same _ _ (length g) _ _ (λ i q. rw (instruction_erased g i, use_erased (instruction_at g i) k a l) refl))

  pub users_erased : (m : Programs) → users (erased_programs m) k a ≡ users m k a
  unfolding users
  users_erased m =
      rw (length_erased m) (fold_same _ _ (length m) _ _ (λ j q. rw (program_erased m j) (uses_erased (suc j) (program_at m j))))
