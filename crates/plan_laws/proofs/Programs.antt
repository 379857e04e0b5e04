-- What an accepted plan says of one instruction of one of its programs, and which tasks have an instruction of a kind.
use mathlib.Core.Path.{◌≡◌, refl}
use mathlib.Core.Bool.{Bool, true, false, not}
use mathlib.Core.List.{List, [], ◌∷◌}
use Prim.Native.Nat.{ℕ, zero, suc, ◌≤◌, ◌<◌}
use native.Mathlib.Omega.{arith}
use lib.ListN.{length}
use Rattle.std.specs.Prelude.{Ok}
use Rattle.base.specs.Choice.{within}
use Rattle.base.specs.Lists.{every}
use Rattle.base.proofs.Choices.{pick_either}
use Rattle.base.proofs.Tests.{and_left, and_right, within_high, within_both, every_at}
use Rattle.base.proofs.Joins.{every_joined}
use Rattle.plan.specs.declared.Instruction.{Instruction}
use Rattle.plan.specs.declared.Refusal.TheVariants.{BadFinish}
use Rattle.plan.specs.Kinds.{op_create, op_send, op_receive, is_finish, is_use, no_instruction}
use Rattle.plan.specs.Programs.{Program, Programs, program_at, instruction_at}
use Rattle.plan.specs.Users.{uses_in, users, first_of}
use Rattle.plan.specs.Refusals.{level_ok, operand_ok, instruction_ok, instructions_ok, finish_ok, finishes_ok, structure_answer, plan_answer}
use Rattle.plan_laws.proofs.Answers.{unless_accepted, InRange, sized, plan_passed}

-- an instruction that is no finish is not the last of a program that ends in its only one
not_last : (g : Program) (i : ℕ) → finish_ok g ≡ true → i < length g → is_finish (instruction_at g i) ≡ false → suc i < length g
unfolding finish_ok
not_last [] i h l e = absurd (omega arith)
not_last (x ∷ []) zero h l e = let z : ◌≡◌ {A = ℕ} 0 1 = cc in absurd (omega arith)
not_last (x ∷ []) (suc i) h l e = absurd (omega arith)
not_last (x ∷ y ∷ g) zero h l e = omega arith
not_last (x ∷ y ∷ g) (suc i) h l e = omega (arith, not_last (y ∷ g) i (and_right (not (is_finish x)) (finish_ok (y ∷ g)) h) (omega arith) e)

-- program k of an accepted plan, from 0
module _ (m : Programs) (a : plan_answer m ≡ Ok tt) (k : ℕ) (h : k < length m) where
  pub program_size : InRange (length (program_at m k))
  program_size = (sized m (plan_passed m a).sizes).counts k h

  module _ (i : ℕ) (l : i < length (program_at m k)) where
    pub instruction_fine : instruction_ok (length m) (instruction_at (program_at m k) i) ≡ true
    unfolding instructions_ok
    instruction_fine = every_at _ (program_at m k) i no_instruction l (every_at _ m k [] h (plan_passed m a).instructions)

    pub more_after : is_finish (instruction_at (program_at m k) i) ≡ false → suc i < length (program_at m k)
    unfolding structure_answer finishes_ok
    more_after e =
        let (f, rest) = unless_accepted (finishes_ok m) BadFinish _ (plan_passed m a).structure in
        not_last (program_at m k) i (every_at finish_ok m k [] h f) l e

-- the arguments of a create, and of a send or a receive
module _ (n : ℕ) (i : Instruction) (h : instruction_ok n i ≡ true) where
  operand_fine : operand_ok n i ≡ true
  operand_fine = and_right (level_ok i) (operand_ok n i) h

  pub create_operand : i.opcode ≡ op_create → within 2 n i.operand ≡ true
  unfolding operand_ok
  create_operand e = rw e at operand_fine

  pub send_operand : i.opcode ≡ op_send → within 1 128 i.operand ≡ true
  unfolding operand_ok
  send_operand e = rw e at operand_fine

  pub receive_operand : i.opcode ≡ op_receive → within 1 128 i.operand ≡ true
  unfolding operand_ok
  receive_operand e = rw e at operand_fine

-- the tasks that have an instruction of a kind with an argument are tasks of the plan, and the first is none or one of them
pub users_within : (m : Programs) (k a : ℕ) → every (within 1 (length m)) (users m k a) ≡ true
unfolding users every
users_within m k a =
    let fits : ℕ → Bool = within 1 (length m) in
    every_joined fits (length m) (λ j. uses_in k a (suc j) (program_at m j))
    (λ j h.
    every_joined fits (length (program_at m j)) _
    (λ i q.
    pick_either (λ l. every fits l ≡ true) (is_use k a (instruction_at (program_at m j) i)) (suc j ∷ []) []
    (rw (within_both 1 (length m) (suc j) (omega arith) h) refl)
    refl))

first_few : (b : ℕ) (l : List ℕ) → every (within 1 b) l ≡ true → first_of l ≤ b
unfolding every
first_few b [] h = omega arith
first_few b (t ∷ l) h = within_high 1 b t (and_left (within 1 b t) _ h)

pub user_few : (m : Programs) (k a : ℕ) → first_of (users m k a) ≤ length m
user_few m k a = first_few (length m) (users m k a) (users_within m k a)
