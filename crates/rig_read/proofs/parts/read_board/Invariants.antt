use Prim.Native.Nat.{◌+◌, ◌*◌}
use Rattle.image.specs.Numbers.{number_at}
use Rattle.rig_read.proofs.Filling.{Filled}
use Rattle.rig_read.proofs.parts.read_board.Given as goal

abbrev pub invariant-loop-k : goal.invariant-loop-k
invariant-loop-k l = Filled 0 1094 l.k (λ i. number_at 8 l.rig (16664 + 8 * i)) l.board
