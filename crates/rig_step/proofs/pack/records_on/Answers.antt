use mathlib.Core.Path.{refl, ◌∙◌}
use Prim.Native.Nat.{◌-◌}
use native.Mathlib.Omega.{arith}
use Rattle.rig_step.proofs.Agreeing.{agree_none, agree_more, agree_all, records_long, task_after}
use Rattle.rig_step.proofs.pack.records_on.Goals as goal

pub loop-k-init : goal.loop-k-init
loop-k-init c = (agree_none refl (records_long c.args.board.now))

pub loop-k-preserved : goal.loop-k-preserved
loop-k-preserved c =
    let board = c.args.board.now in
    ((agree_more c.loop-k.invariant (omega arith) c.task_at-x.result (c.task_at-x.ensures ∙ task_after board c.loop-k.k)))

pub returns : goal.returns
returns c = agree_all (omega arith) c.loop-k.invariant
