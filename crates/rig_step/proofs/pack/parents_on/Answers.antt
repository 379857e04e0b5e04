use mathlib.Core.Path.{refl, ◌∙◌}
use Prim.Native.Nat.{◌-◌}
use native.Mathlib.Omega.{arith}
use Rattle.board.specs.Lent.{parents_on}
use Rattle.rig_step.proofs.Agreeing.{parents_none, parents_more, parents_all, parents_long, at_after, parent_after}
use Rattle.rig_step.proofs.pack.parents_on.Goals as goal

pub loop-k-init : goal.loop-k-init
loop-k-init c = (parents_none (record { hintprocessors = refl; hintmoves = refl; held = refl }) (parents_long c.args.board.now))

pub parent_at-e-requires : goal.parent_at-e-requires
parent_at-e-requires c = at_after c.loop-k.k c.desk_after.ensures c.task_after.ensures (omega arith)

pub loop-k-preserved : goal.loop-k-preserved
loop-k-preserved c =
    let ps = parents_on c.args.board.now in
    ((parents_more c.loop-k.invariant (omega arith) c.parent_at-e.result (c.parent_at-e.ensures ∙ parent_after c.loop-k.k c.desk_after.ensures c.task_after.ensures ps)))

pub returns : goal.returns
returns c = parents_all c.loop-k.invariant (omega arith)
