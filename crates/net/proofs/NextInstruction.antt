-- The next instruction of an active task of an accepted plan: where it stands, and whom it creates.
use mathlib.Core.Path.{◌≡◌, refl, ap, ◌∙◌}
use mathlib.Core.Bool.{true}
use Prim.Native.Nat.{◌-◌, ◌<◌, ◌≤◌}
use native.Mathlib.Omega.{arith}
use lib.Dec.{eqb}
use lib.ListN.{length}
use borrow.Author.Tests.{eqb-true, ne_eqb}
use Rattle.std.specs.Prelude.{Ok}
use Rattle.base.specs.Choice.{within}
use Rattle.base.proofs.Tests.{and_left, and_right}
use Rattle.plan.specs.declared.TaskId.{TaskId}
use Rattle.plan.specs.Numbers.{task_id}
use Rattle.plan.specs.Kinds.{op_create, is_use}
use Rattle.plan.specs.Programs.{Programs, program_at, instruction_at}
use Rattle.plan.specs.Users.{parent_of}
use Rattle.plan.specs.Refusals.{plan_answer}
use Rattle.plan_laws.proofs.Programs.{instruction_fine, create_operand}
use Rattle.plan_laws.proofs.Parents.{created_by}
use Rattle.net.specs.States.{Net}
use Rattle.net.specs.Guards.{program_for, is_active, next_of}
use Rattle.net.proofs.Remaining.{active_short, active_task}

-- the program of a task that is some
pub program_some : (m : Programs) (t : TaskId) → 1 ≤ t.0 → program_for m t ≡ program_at m (t.0 - 1)
unfolding program_for
program_some m t h = rw (ne_eqb t.0 0 (λ e. omega arith)) refl

module _ (m : Programs) (a : plan_answer m ≡ Ok tt) (s : Net) (t : TaskId) (active : is_active m s t ≡ true) where
  -- the next instruction of a task is one that the plan was accepted with
  pub next_place : s.completed t < length (program_at m (t.0 - 1))
  next_place = let (low, high) = active_task m s t active in rw (← program_some m t low) (active_short m s t active)

  pub next_is : next_of m s t ≡ instruction_at (program_at m (t.0 - 1)) (s.completed t)
  unfolding next_of
  next_is = let (low, high) = active_task m s t active in rw (program_some m t low) refl

  -- whom it creates: a task 2 .. T, and it is the parent
  pub next_creates : (u : TaskId) → is_use op_create u.0 (next_of m s t) ≡ true → (within 2 (length m) u.0 ≡ true) × (parent_of m u ≡ t)
  next_creates u e =
      let (low, high) = active_task m s t active in
      let i = next_of m s t in
      let opcode = eqb-true i.opcode op_create (and_left (eqb i.opcode op_create) _ e) in
      let operand = eqb-true i.operand u.0 (and_right (eqb i.opcode op_create) _ e) in
      let fine = instruction_fine m a (t.0 - 1) (omega arith) (s.completed t) next_place in
      let here = rw next_is at e in (
        rw operand at (create_operand (length m) i (rw (← next_is) at fine) opcode),
        created_by m a u.0 (t.0 - 1) (s.completed t) (omega arith) next_place here ∙ ap task_id (omega arith),
      )
