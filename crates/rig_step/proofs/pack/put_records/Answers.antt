use mathlib.Core.Path.{refl, ◌∙◌}
use Prim.Native.Nat.{◌-◌}
use native.Mathlib.Omega.{arith}
use Rattle.rig_step.proofs.Agreeing.{agree_none, agree_more, agree_all, records_long, record_stored}
use Rattle.rig_step.proofs.pack.put_records.Goals as goal

pub loop-k-init : goal.loop-k-init
loop-k-init c = (c.requires, refl, λ h. agree_none (records_long c.args.board.now) h)

pub loop-k-preserved : goal.loop-k-preserved
loop-k-preserved c =
    let e = c.put_task.ensures in
    (e.0, e.2 ∙ c.loop-k.invariant.1, λ h. rw (record_stored c.loop-k.board c.loop-k.k _ _ e.1) (agree_more (c.loop-k.invariant.2 h) (omega arith) _ refl))

pub returns : goal.returns
returns c =
    let i = c.loop-k.invariant in
    (i.0, agree_all (omega arith) (i.2 c.well_formed.1.0.1.0.1), i.1)
