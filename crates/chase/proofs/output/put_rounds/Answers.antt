use Prim.Native.Nat.{◌+◌, ◌*◌}
use native.Mathlib.Omega.{arith}
use Rattle.rules.specs.Steps.{deliver_step, move_step}
use Rattle.chase.specs.Construction.{desk_after}
use Rattle.chase.proofs.Writing.{no_rounds, round_more, three_are}
use Rattle.chase.proofs.output.put_rounds.Goals as goal

pub loop-k-init : goal.loop-k-init
loop-k-init c = no_rounds c.args.out.now 12

pub loop-k-preserved : goal.loop-k-preserved
loop-k-preserved c =
    let k = c.loop-k.k in
    round_more c.args.out.now c.loop-k.out _ k (omega arith) c.loop-k.invariant
    (three_are c.loop-k.out _ (12 + 12 * k) _ _ _ (deliver_step 1) (move_step 2 (desk_after (k + 1))) (deliver_step 1) c.deliver-next.ensures
    c.move_to-there.ensures c.deliver-next.ensures c.put_all.ensures)
