use Prim.Native.Nat.{◌+◌}
use lib.ListN.{get_or}
use Rattle.rig_read.proofs.Zeros.{AllZero}
use Rattle.rig_read.proofs.check.zeros.zeros_at.Given as goal

abbrev pub invariant-loop-k : goal.invariant-loop-k
invariant-loop-k l = AllZero (λ i. get_or l.b (l.first + i) 0) l.k l.any
