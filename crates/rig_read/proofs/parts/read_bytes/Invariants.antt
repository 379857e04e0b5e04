use Prim.Native.Nat.{◌+◌, ◌*◌}
use Rattle.image.specs.Numbers.{number_at}
use Rattle.rig_read.proofs.Filling.{Filled}
use Rattle.rig_read.proofs.parts.read_bytes.Given as goal

abbrev pub invariant-loop-k : goal.invariant-loop-k
invariant-loop-k l = Filled 0 768 l.k (λ i. number_at 1 l.rig (l.at + 1 * i)) l.table
