-- `put_bytes`. The loop's invariant: the first k bytes are put.
use mathlib.Core.Path.{◌≡◌}
use lib.ListN.{length, take}
use Rattle.plan_write.specs.output.Output.{overlay}
use Rattle.rig_write.proofs.numbers.put_bytes.Given as goal

abbrev pub invariant-loop-k : goal.invariant-loop-k
invariant-loop-k l = (length l.b ≡ length l.initial.b) × (l.b ≡ overlay l.initial.b l.at (take l.k l.xs))
