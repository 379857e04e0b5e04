use mathlib.Core.Path.{refl, ◌∙◌}
use Prim.Native.Nat.{◌-◌}
use native.Mathlib.Omega.{arith}
use Rattle.rig_step.proofs.Agreeing.{agree_none, agree_more, agree_all, sets_long, set_stored}
use Rattle.rig_step.proofs.pack.put_sets.Goals as goal

pub loop-k-init : goal.loop-k-init
loop-k-init c = (c.requires, refl, λ h. agree_none (sets_long c.args.board.now) h, refl)

pub loop-k-preserved : goal.loop-k-preserved
loop-k-preserved c =
    let e = c.put_set.ensures in
    (e.whole, e.channels ∙ c.loop-k.invariant.1, λ h. rw (set_stored c.loop-k.board c.loop-k.k _ _ (omega arith) e) (agree_more (c.loop-k.invariant.2 h) (omega arith) _ refl), e.records ∙ c.loop-k.invariant.3)

pub returns : goal.returns
returns c =
    let i = c.loop-k.invariant in
    (i.0, agree_all (omega arith) (i.2 c.well_formed.1.0.1.0.1), i.3, i.1)
