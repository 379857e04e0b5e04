-- `put_channels`. The loop's invariant: the first k numbers are put.
use mathlib.Core.Path.{◌≡◌}
use Prim.Native.Nat.{◌≤◌}
use lib.ListN.{length}
use Rattle.base.specs.Lists.{table}
use Rattle.plan_write.specs.output.Output.{overlay}
use Rattle.image.specs.Numbers.{numbers_bytes}
use Rattle.rig_write.specs.Sections.{channel_at}
use Rattle.rig_write.proofs.sections.put_channels.Given as goal

abbrev pub invariant-loop-k : goal.invariant-loop-k
invariant-loop-k l =
    (l.k ≤ 128) × (length l.rig ≡ length l.initial.rig) × (l.rig ≡ overlay l.initial.rig 16664 (numbers_bytes 8 (table l.k (channel_at l.board))))
