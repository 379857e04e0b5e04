-- The instructions that use no channel: what is computed on the parts of a rig is what they do in the rig.
use mathlib.Core.Path.{◌≡◌, sym}
use mathlib.Core.Bool.{false}
use mathlib.Core.Logic.{◌≢◌}
use Prim.Native.Nat.{ℕ, ◌≤◌}
use native.Mathlib.Omega.{arith}
use lib.Dec.{eqb}
use borrow.Author.Tests.{ne_eqb}
use Rattle.plan.specs.declared.TaskId.{TaskId}
use Rattle.plan.specs.declared.Instruction.{Instruction}
use Rattle.plan.specs.Kinds.{op_create, op_sync, op_finish, op_set}
use Rattle.plan.specs.Users.{parent_of}
use Rattle.rules.specs.declared.system.System.{System}
use Rattle.rules.specs.Numbers.{task_id, channel_id}
use Rattle.rules.specs.Hints.{hint}
use Rattle.rules.specs.Tasks.{born}
use Rattle.rules.specs.Systems.{task_at, with_task, parent_at, with_parent, meaning, store_in}
use Rattle.rules.specs.Starts.{birth}
use Rattle.rules.specs.Local.{create_rule, finish_rule}
use Rattle.rules.specs.Runs.{ran_create, ran_finish, executed}
use Rattle.rig_parts.specs.declared.sweep.Sweep.TheVariants.{Nothing, Birth, Ending}
use Rattle.plan_index.specs.ends.Derived.{ends_of}
use Rattle.rig_parts.specs.Sweeps.{parent_in}
use Rattle.rig_parts.specs.Fetches.{site_in}
use Rattle.rig_parts.specs.Scopes.{scope, named_in, run_scope}
use Rattle.rig_parts.specs.RunVerdicts.{finish_change, run_change, ran_in}
use Rattle.rig_parts.specs.Effects.{effect_of, ran_of}
use Rattle.rig_parts.proofs.Names.{parent_named}
use Rattle.rig_parts.proofs.Effects.{tasks_effect, alone_effect}
use Rattle.rig_parts.proofs.Sweeps.{birth_swept}

module _ (r : System) (t : TaskId) (i : Instruction) where
  pub create_ran : i.opcode ≡ op_create → executed r t i ≡ effect_of r (ran_of r t i)
  unfolding executed ran_in run_scope run_change site_in ran_create birth
  create_ran e =
      let u = task_id i.operand in
      let d = (task_at r t).processor in
      rw (e, birth_swept (with_task (with_task r t (create_rule (task_at r t) u)) u (born d (hint d (task_at r t).moves))) u d) (sym (tasks_effect r d _ t u (Birth u d)))

  pub sync_ran : i.opcode ≡ op_sync → executed r t i ≡ effect_of r (ran_of r t i)
  unfolding executed ran_in run_scope run_change site_in
  sync_ran e = rw (e) (sym (alone_effect r (task_at r t).processor _ t Nothing))

  -- a finish of task t, whose parent is q
  finish_as : (q : TaskId) → q ≡ parent_of (meaning r) t
      → let d = (task_at r t).processor in
      let k = scope q t (channel_id 0) d in
      ran_finish r t ≡ effect_of r (finish_change k (site_in r.plan.codes r.tasks (store_in r) k) t (parent_in r.parents d q))
  unfolding site_in ran_finish parent_at with_parent
  finish_as q e =
      let p = parent_of (meaning r) t in
      let d = (task_at r t).processor in
      rw e (sym (tasks_effect r d _ p t (Ending p d (finish_rule t (task_at r t) (task_at r p) (parent_at r d p)).entry)))

  pub finish_ran : t.0 ≤ 128 → i.opcode ≡ op_finish → executed r t i ≡ effect_of r (ran_of r t i)
  unfolding executed ran_in run_scope run_change
  finish_ran h e = rw e (finish_as (named_in (ends_of r.plan).parents t.0) (parent_named r.plan t h))

  pub set_ran : i.opcode ≡ op_set → executed r t i ≡ effect_of r (ran_of r t i)
  unfolding executed ran_in run_scope run_change site_in
  set_ran e = rw (e) (sym (alone_effect r (task_at r t).processor _ t Nothing))

  -- the last choice
  pub add_ran : ((k : ℕ) → 1 ≤ k → k ≤ 6 → i.opcode ≢ k) → executed r t i ≡ effect_of r (ran_of r t i)
  unfolding executed ran_in run_scope run_change site_in
  add_ran other =
      let none : (k : ℕ) → 1 ≤ k → k ≤ 6 → eqb i.opcode k ≡ false = λ k l h. ne_eqb i.opcode k (other k l h) in
      rw (
        none 1 (omega arith) (omega arith),
        none 2 (omega arith) (omega arith),
        none 3 (omega arith) (omega arith),
        none 4 (omega arith) (omega arith),
        none 5 (omega arith) (omega arith),
        none 6 (omega arith) (omega arith),
      )
      (sym (alone_effect r (task_at r t).processor _ t Nothing))
