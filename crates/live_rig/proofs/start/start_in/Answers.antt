-- `start_in` makes the parts of the start, and writes them.
use mathlib.Core.Path.{refl}
use native.Mathlib.Omega.{arith}
use Rattle.live_rig.proofs.Starts.{few_users, plan_room_lem, start_written}
use Rattle.live_rig.proofs.start.start_in.Goals as goal

pub build-requires : goal.build-requires
build-requires c = (refl, few_users c.requires)

pub write_head-requires : goal.write_head-requires
write_head-requires c = (c.requires.long, plan_room_lem c.requires (λ i. omega (arith, c.shared_slice_known-1.given i)))

pub put_zeros-requires : goal.put_zeros-requires
put_zeros-requires c = omega (arith, c.rig-1.given, c.requires.long)

pub write_lent-requires : goal.write_lent-requires
write_lent-requires c = omega (arith, c.rig-2-1.given, c.rig-1.given, c.requires.long)

pub returns : goal.returns
returns c =
    start_written c.requires c.build.ensures c.no_tables-tables.ensures c.start_board.ensures
    (c.locate.ensures c.no_tables-tables.result.heldprocessors c.no_tables-tables.result.heldnumbers c.no_tables-tables.result.notes c.start_board.new.board c.start_board.ensures.whole)
    (λ i. omega (arith, c.shared_slice_known-1.given i)) (omega (arith, c.rig-1.given, c.requires.long)) c.write_head.ensures c.put_zeros.ensures c.write_lent.ensures
