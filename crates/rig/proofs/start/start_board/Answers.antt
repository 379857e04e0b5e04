use mathlib.Core.Path.{◌≡◌, refl, ◌∙◌}
use Prim.Native.Nat.{◌-◌}
use native.Mathlib.Omega.{arith}
use borrow.Author.Rules.{rules}
use Rattle.rig.proofs.start.Boards.{unborn_none, unborn_more, unborn_channels, unborn_parents, unborn_tasks_lem}
use Rattle.rig.proofs.start.start_board.Goals as goal

pub loop-k-init : goal.loop-k-init
loop-k-init c = rw c.requires unborn_none

pub loop-k-preserved : goal.loop-k-preserved
loop-k-preserved c = unborn_more c.loop-k.k c.loop-k.board (omega arith) c.loop-k.invariant

pub put_task-requires : goal.put_task-requires
put_task-requires c = (omega arith, c.loop-k.invariant.whole)

pub point_parent-requires : goal.point_parent-requires
point_parent-requires c = (record { processor_low = omega arith; processor = omega arith; task = omega arith }, c.put_task.ensures.0)

pub returns : goal.returns
returns c =
    let e : c.loop-k.k ≡ 64 = omega arith in
    let board = c.loop-k.board in
    let u = c.loop-k.invariant in
    let one = c.put_task.ensures in
    let two = c.point_parent.ensures in
    record {
      whole = two.0;
      tasks = two.2 ∙ one.1 ∙ rw (c.first_task.ensures, unborn_tasks_lem board (rw e at u)) refl;
      channels = two.3 ∙ one.2 ∙ unborn_channels c.loop-k.k board u;
      parents = two.1 ∙ rw (one.3, unborn_parents c.loop-k.k board u) refl;
    }
