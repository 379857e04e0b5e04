-- `put_words`. The loop's invariant: the first k numbers are put.
use mathlib.Core.Path.{◌≡◌}
use Prim.Native.Nat.{◌≤◌}
use lib.ListN.{length}
use Rattle.base.specs.Lists.{table}
use Rattle.plan_write.specs.output.Output.{overlay}
use Rattle.image.specs.Numbers.{numbers_bytes}
use Rattle.rig_write.specs.Sections.{word_at}
use Rattle.rig_write.proofs.sections.put_words.Given as goal

abbrev pub invariant-loop-k : goal.invariant-loop-k
invariant-loop-k l =
    (l.k ≤ 64) × (length l.rig ≡ length l.initial.rig) × (l.rig ≡ overlay l.initial.rig 18712 (numbers_bytes 8 (table l.k (word_at l.board))))
