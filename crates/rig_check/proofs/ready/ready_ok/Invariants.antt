-- `ready_ok` goes through the six desks. The loop's invariant: the sets of the first d are those of the tasks.
use Prim.Native.Nat.{ℕ}
use mathlib.Core.Bool.{Bool, true}
use mathlib.Core.Path.{◌≡◌}
use lib.Dec.{eqb}
use lib.ListN.{get_or}
use Rattle.base.specs.Range.{below}
use Rattle.base.specs.Sets.{set_of}
use Rattle.rules.specs.declared.system.TaskTable.{TaskTable}
use Rattle.rules_laws.proofs.Ready.{is_ready_in}
use Rattle.rig_check.proofs.ready.ready_ok.Given as goal

-- the set of the desk after k others is that of the tasks
abbrev pub set_ok : ℕ → TaskTable → ℕ → Bool
set_ok m ts k = eqb (get_or ts.ready k 0) (set_of m (is_ready_in ts k))

abbrev pub invariant-loop-d : goal.invariant-loop-d
invariant-loop-d l = below l.d (set_ok l.m l.ts) ≡ true
