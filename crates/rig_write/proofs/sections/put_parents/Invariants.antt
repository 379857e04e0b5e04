-- `put_parents`. The loop's invariant: the first k pairs of numbers are put.
use mathlib.Core.Path.{◌≡◌}
use Prim.Native.Nat.{◌≤◌}
use lib.ListN.{length}
use Rattle.base.specs.Range.{joined}
use Rattle.plan_write.specs.output.Output.{overlay}
use Rattle.image.specs.Numbers.{numbers_bytes}
use Rattle.rig_write.specs.Sections.{parent_at}
use Rattle.rig_write.proofs.sections.put_parents.Given as goal

abbrev pub invariant-loop-k : goal.invariant-loop-k
invariant-loop-k l =
    (l.k ≤ 384) × (length l.rig ≡ length l.initial.rig) × (l.rig ≡ overlay l.initial.rig 19224 (numbers_bytes 8 (joined l.k (parent_at l.board))))
