-- `put_moves`. The loop's invariant: the first k numbers are put.
use mathlib.Core.Path.{◌≡◌}
use Prim.Native.Nat.{◌≤◌}
use lib.ListN.{length, get_or}
use Rattle.base.specs.Lists.{table}
use Rattle.plan_write.specs.output.Output.{overlay}
use Rattle.image.specs.Numbers.{numbers_bytes}
use Rattle.rig_write.proofs.sections.put_moves.Given as goal

abbrev pub invariant-loop-k : goal.invariant-loop-k
invariant-loop-k l =
    (l.k ≤ length l.moves) × (length l.rig ≡ length l.initial.rig) × (l.rig ≡ overlay l.initial.rig l.at (numbers_bytes 2 (table l.k (λ j. get_or l.moves j 0))))
