use Prim.Native.Nat.{ℕ, suc, ◌-◌}
use mathlib.Core.Path.{◌≡◌, refl, ◌∙◌}
use lib.ListN.{get_or}
use native.Mathlib.Omega.{arith}
use native.Mathlib.Numerals.{add-one}
use Rattle.base.specs.Sets.{set_of}
use Rattle.plan.specs.declared.ProcessorId.{ProcessorId}
use Rattle.rules.specs.declared.system.TaskTable.{TaskTable}
use Rattle.rules.specs.Numbers.{task_id}
use Rattle.rules.specs.Tasks.{no_task}
use Rattle.rules.specs.Systems.{is_ready_at}
use Rattle.rules_laws.proofs.TaskAt.{task_in_some}
use Rattle.rig_check.proofs.ready.ready_set.Invariants.{ready_in}
use Rattle.rig_check.proofs.ready.ready_set.Goals as goal

pub loop-t-init : goal.loop-t-init
unfolding set_of
loop-t-init c = refl

-- the task that was looked at is the next one
next : (ts : TaskTable) (d : ProcessorId) (t : ℕ) → is_ready_at d (get_or ts.records t no_task) ≡ ready_in ts d (suc t)
next ts d t =
    let q : suc t - 1 ≡ t = omega arith in
    rw (task_in_some ts (task_id (suc t)) (omega arith), q) refl

pub loop-t-preserved : goal.loop-t-preserved
unfolding set_of
loop-t-preserved c =
    let e = next c.args.ts c.args.d c.loop-t.t in
    c.insert_where-s.ensures ∙ rw (c.is_ready_at.ensures, c.loop-t.invariant, e, add-one c.loop-t.t) refl

pub returns : goal.returns
returns c = let l = c.loop-t in let e : l.t ≡ c.args.m = omega arith in l.invariant ∙ rw e refl
