-- The verdict on what instruction i of task t does, by its kind.
use mathlib.Core.Path.{◌≡◌, refl, ap}
use mathlib.Core.Bool.{true, false}
use mathlib.Core.Logic.{◌≢◌, by_cases}
use Prim.Native.Nat.{ℕ, ◌+◌, ◌≤◌}
use native.Mathlib.Omega.{arith}
use native.Mathlib.Decide.{ℕ_discrete}
use lib.Dec.{eqb, leb}
use lib.ListN.{length}
use borrow.Author.Tests.{ne_eqb, le-leb}
use Rattle.plan.specs.declared.TaskId.{TaskId}
use Rattle.plan.specs.declared.Instruction.{Instruction}
use Rattle.plan.specs.Kinds.{op_create, op_sync, op_finish, op_send, op_receive, op_set}
use Rattle.rules.specs.declared.task.Task.{Task}
use Rattle.rules.specs.Numbers.{task_id}
use Rattle.rules.specs.Networks.{messages_of}
use Rattle.rules.specs.declared.rule.Posting.TheVariants.{Nothing as NoPosting}
use Rattle.rules.specs.declared.system.TaskTable.{TaskTable}
use Rattle.rig_parts.specs.declared.kept.Kept.{Kept}
use Rattle.rules.specs.Local.{sync_rule, set_rule, add_rule}
use Rattle.rules.specs.Systems.{task_in}
use Rattle.rig_parts.specs.Facts.{Facts}
use Rattle.rig_parts.specs.Fetches.{site_in, cell_of}
use Rattle.rig_parts.specs.Scopes.{run_scope}
use Rattle.rig_parts.specs.RunVerdicts.{ran_in, run_change, fitting_in}
use Rattle.board.specs.Acted.{act_of, plain_act}
use Rattle.steps.specs.instruction.Locals.{create_verdict, finish_verdict, alone_verdict}

-- no letters always fit
none_fit : (n used : ℕ) → used ≤ 256 → leb (used + length (messages_of n NoPosting)) 256 ≡ true
unfolding messages_of
none_fit n used few = le-leb (used + 0) 256 (omega arith)

module _ (f : Facts) (n : ℕ) (ts : TaskTable) (s : Kept) (used : ℕ) (few : used ≤ 256) (t : TaskId) (x : Task) (is : x ≡ task_in ts t) (i : Instruction) where
  -- a create, a sync, a finish, a set
  pub create_is : i.opcode ≡ op_create → fitting_in n used (ran_in f ts s t i) ≡ create_verdict t x (task_id i.operand)
  unfolding ran_in run_scope run_change site_in cell_of
  create_is e = rw (is, e, none_fit n used few) refl

  pub sync_is : i.opcode ≡ op_sync → fitting_in n used (ran_in f ts s t i) ≡ alone_verdict t x.processor (sync_rule x)
  unfolding ran_in run_scope run_change site_in cell_of task_in
  sync_is e = rw (is, e, none_fit n used few) refl

  pub finish_is : i.opcode ≡ op_finish → fitting_in n used (ran_in f ts s t i) ≡ finish_verdict f.parents n used ts s.parents t x
  unfolding ran_in run_scope run_change site_in cell_of
  finish_is e = rw (is, e) refl

  pub set_is : i.opcode ≡ op_set → fitting_in n used (ran_in f ts s t i) ≡ alone_verdict t x.processor (set_rule x i)
  unfolding ran_in run_scope run_change site_in cell_of task_in
  set_is e = rw (is, e, none_fit n used few) refl

  -- any other kind is an add
  pub add_is : ((k : ℕ) → 1 ≤ k → k ≤ 6 → i.opcode ≢ k) → fitting_in n used (ran_in f ts s t i) ≡ alone_verdict t x.processor (add_rule x i)
  unfolding ran_in run_scope run_change site_in cell_of task_in
  add_is other =
      let none : (k : ℕ) → 1 ≤ k → k ≤ 6 → eqb i.opcode k ≡ false = λ k l h. ne_eqb i.opcode k (other k l h) in
      rw (
        is,
        none 1 (omega arith) (omega arith),
        none 2 (omega arith) (omega arith),
        none 3 (omega arith) (omega arith),
        none 4 (omega arith) (omega arith),
        none 5 (omega arith) (omega arith),
        none 6 (omega arith) (omega arith),
        none_fit n used few,
      )
      refl

  -- one that is no finish, send or receive posts nothing
  pub plain_is : i.opcode ≢ op_finish → i.opcode ≢ op_send → i.opcode ≢ op_receive → act_of (fitting_in n used (ran_in f ts s t i)) ≡ plain_act
  plain_is a b c =
      let kind = ℕ_discrete i.opcode in
      by_cases (kind op_create) (λ e. ap act_of (create_is e))
      (λ d.
      by_cases (kind op_sync) (λ e. ap act_of (sync_is e))
      (λ g. by_cases (kind op_set) (λ e. ap act_of (set_is e)) (λ h. ap act_of (add_is (λ k l m e. omega arith)))))
