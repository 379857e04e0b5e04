use native.Mathlib.Omega.{arith}
use Rattle.image.specs.Numbers.{numbers_at}
use Rattle.rig_read.proofs.Places.{byte_in}
use Rattle.rig_read.proofs.Filling.{filled_none, filled_more, filled_all}
use Rattle.rig_read.proofs.parts.read_bytes.Goals as goal

pub loop-k-init : goal.loop-k-init
loop-k-init c = filled_none c.requires.1

pub loop-k-preserved : goal.loop-k-preserved
loop-k-preserved c =
    let l = c.loop-k in
    let a = c.args in
    filled_more l.invariant (omega arith) _ (byte_in a.rig.now a.at l.k)

pub returns : goal.returns
unfolding numbers_at
returns c = filled_all (omega arith) c.loop-k.invariant
