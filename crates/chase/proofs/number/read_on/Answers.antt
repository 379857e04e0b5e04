use native.Mathlib.Omega.{arith}
use Rattle.chase.proofs.Numbers.{read_next, read_end}
use Rattle.chase.proofs.number.read_on.Goals as goal

pub loop-b-preserved : goal.loop-b-preserved
loop-b-preserved c =
    let a = c.args in
    read_next c.loop-b.x c.read_byte-x.result _ a.bytes.now c.loop-b.b-index (omega arith) c.loop-b.invariant c.read_byte-x.ensures

pub returns : goal.returns
returns c = read_end c.loop-b.x _ c.args.bytes.now c.loop-b.b-index (omega arith) c.loop-b.invariant
