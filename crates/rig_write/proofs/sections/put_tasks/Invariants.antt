-- `put_tasks`. The loop's invariant: the first k pairs of numbers are put.
use mathlib.Core.Path.{◌≡◌}
use Prim.Native.Nat.{◌≤◌}
use lib.ListN.{length}
use Rattle.base.specs.Range.{joined}
use Rattle.plan_write.specs.output.Output.{overlay}
use Rattle.image.specs.Numbers.{numbers_bytes}
use Rattle.rig_write.specs.Sections.{task_at}
use Rattle.rig_write.proofs.sections.put_tasks.Given as goal

abbrev pub invariant-loop-k : goal.invariant-loop-k
invariant-loop-k l =
    (l.k ≤ 64) × (length l.rig ≡ length l.initial.rig) × (l.rig ≡ overlay l.initial.rig 17688 (numbers_bytes 8 (joined l.k (task_at l.board))))
