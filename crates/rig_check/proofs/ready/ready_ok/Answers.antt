use Prim.Native.Nat.{ℕ, ◌+◌}
use mathlib.Core.Path.{◌≡◌, refl, sym, ◌∙◌}
use native.Mathlib.Omega.{arith}
use native.Mathlib.Numerals.{add-one}
use lib.Dec.{eqb}
use lib.ListN.{get_or}
use borrow.Author.Tests.{eq-eqb, ne_eqb}
use Rattle.base.specs.Sets.{set_of}
use Rattle.base.proofs.Tests.{below_none, below_more, below_fails}
use Rattle.rules.specs.declared.system.TaskTable.{TaskTable}
use Rattle.rules.specs.Numbers.{task_id, processor_id}
use Rattle.rules.specs.Systems.{task_in, is_ready_at}
use Rattle.rules.specs.Sound.{ready_ok}
use Rattle.rig_check.proofs.ready.ready_ok.Invariants.{set_ok}
use Rattle.rig_check.proofs.ready.ready_ok.Goals as goal

pub loop-d-init : goal.loop-d-init
loop-d-init c = below_none _

-- what was compared is desk d + 1's
compared : (m : ℕ) (ts : TaskTable) (d : ℕ) {s : ℕ} → s ≡ set_of m (λ t. is_ready_at (processor_id (d + 1)) (task_in ts (task_id t)))
    → eqb (get_or ts.ready d 0) s ≡ set_ok m ts d
compared m ts d f = rw (f, add-one d) refl

pub returns-then-ts-d : goal.returns-then-ts-d
unfolding ready_ok
returns-then-ts-d c =
    let a = c.args in
    let e = compared a.m a.ts c.loop-d.d c.ready_set.ensures in
    sym (below_fails (set_ok a.m a.ts) 6 c.loop-d.d (omega arith) (sym e ∙ ne_eqb _ _ c.if-ts-d.true))

pub loop-d-preserved : goal.loop-d-preserved
loop-d-preserved c =
    let a = c.args in
    let e = compared a.m a.ts c.loop-d.d c.ready_set.ensures in
    below_more _ _ c.loop-d.invariant (sym e ∙ eq-eqb _ _ c.if-ts-d.false)

pub returns : goal.returns
unfolding ready_ok
returns c = let l = c.loop-d in let e : l.d ≡ 6 = omega arith in sym (rw e at l.invariant)
