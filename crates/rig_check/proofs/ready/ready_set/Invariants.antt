-- `ready_set` goes through the tasks. The loop's invariant: s has those of 1 .. t.
use Prim.Native.Nat.{ℕ}
use mathlib.Core.Bool.{Bool}
use mathlib.Core.Path.{◌≡◌}
use Rattle.base.specs.Sets.{set_of}
use Rattle.plan.specs.declared.ProcessorId.{ProcessorId}
use Rattle.rules.specs.declared.system.TaskTable.{TaskTable}
use Rattle.rules.specs.Numbers.{task_id}
use Rattle.rules.specs.Systems.{task_in, is_ready_at}
use Rattle.rig_check.proofs.ready.ready_set.Given as goal

abbrev pub ready_in : TaskTable → ProcessorId → ℕ → Bool
ready_in ts d t = is_ready_at d (task_in ts (task_id t))

abbrev pub invariant-loop-t : goal.invariant-loop-t
invariant-loop-t l = l.s ≡ set_of l.t (ready_in l.ts l.d)
