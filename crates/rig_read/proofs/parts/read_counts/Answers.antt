use native.Mathlib.Omega.{arith}
use Rattle.image.specs.Numbers.{numbers_at}
use Rattle.rig_read.proofs.Filling.{filled_none, filled_more, filled_all}
use Rattle.rig_read.proofs.parts.read_counts.Goals as goal

pub loop-k-init : goal.loop-k-init
loop-k-init c = filled_none c.requires.1

pub loop-k-preserved : goal.loop-k-preserved
loop-k-preserved c =
    let l = c.loop-k in
    filled_more l.invariant (omega arith) c.number2.result c.number2.ensures

pub returns : goal.returns
unfolding numbers_at
returns c = filled_all (omega arith) c.loop-k.invariant
