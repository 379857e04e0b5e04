-- `put_all`. The loop's invariant: the first k steps are put.
use mathlib.Core.Path.{◌≡◌}
use lib.ListN.{take}
use Rattle.plan_write.specs.output.Output.{overlay}
use Rattle.chase.specs.Construction.{step_file}
use Rattle.chase.proofs.output.put_all.Given as goal

abbrev pub invariant-loop-k : goal.invariant-loop-k
invariant-loop-k l = l.out ≡ overlay l.initial.out l.at (step_file (take l.k l.steps))
