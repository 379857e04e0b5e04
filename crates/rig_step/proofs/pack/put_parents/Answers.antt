use mathlib.Core.Path.{refl, ◌∙◌}
use Prim.Native.Nat.{◌-◌}
use native.Mathlib.Omega.{arith}
use lib.ListN.{length-map}
use Rattle.board.specs.Lent.{parents_on}
use Rattle.rig_step.proofs.Agreeing.{LongFor, parents_none, parents_more, parents_all, parents_long, at_after, stored_for}
use Rattle.rig_step.proofs.pack.put_parents.Goals as goal

pub loop-k-init : goal.loop-k-init
loop-k-init c = (c.requires, refl, refl, λ h. parents_none (parents_long c.args.board.now) h)

pub put_parent-requires : goal.put_parent-requires
put_parent-requires c =
    (at_after c.loop-k.k c.desk_after.ensures c.task_after.ensures (omega arith), c.loop-k.invariant.0)

pub loop-k-preserved : goal.loop-k-preserved
loop-k-preserved c =
    let e = c.put_parent.ensures in (
      e.0,
      e.2 ∙ c.loop-k.invariant.1,
      e.3 ∙ c.loop-k.invariant.2,
      λ h.
          rw (e.1, stored_for c.loop-k.k c.desk_after.ensures c.task_after.ensures (parents_on c.loop-k.board) _)
          (parents_more (c.loop-k.invariant.3 h) (omega arith) _ (c.parent_of-e.ensures)),
    )

pub returns : goal.returns
returns c =
    let i = c.loop-k.invariant in
    let f = c.well_formed.1.0.1.1 in
    let long : LongFor c.args.parents =
    record {
      hintprocessors = f.0.1.0.1;
      hintmoves = f.1.0.1.0.1;
      held = f.1.1.0.1.0.1;
    } in
    (i.0, parents_all (i.3 long) (omega arith), i.1, i.2)
