-- `reread`: an accepted plan comes back.
use mathlib.Core.Path.{sym}
use Prim.Native.Nat.{◌≤◌}
use native.Mathlib.Omega.{arith}
use lib.ListN.{length}
use lib.Seq.{length-take-le}
use Rattle.plan_write.proofs.round_trip.Laws.{within_output, reread, unread}
use Rattle.plan_write.proofs.round_trip.reread.Goals as goal

pub returns-in_default : goal.returns-in_default
returns-in_default c = unread _ _ _ _ _ _ c.write_plan.ensures c.in_default.is

pub slice_bounds-read_plan-end-2 : goal.slice_bounds-read_plan-end-2
slice_bounds-read_plan-end-2 c =
    let w = c.write_plan in
    omega (arith, w.auto.out, within_output _ _ _ _ _ w.ensures c.in-Ok.is)

pub slice_bounds-read_plan-end-3 : goal.slice_bounds-read_plan-end-3
slice_bounds-read_plan-end-3 c =
    let w = c.write_plan in
    let within : c.in-Ok.n ≤ length w.new.out = omega (arith, w.auto.out, within_output _ _ _ _ _ w.ensures c.in-Ok.is) in
    sym (length-take-le c.in-Ok.n w.new.out within)

pub returns : goal.returns
returns c = reread _ _ _ _ _ _ c.write_plan.ensures c.in-Ok.is c.read_plan-2.ensures
