-- `put_rounds`. The loop's invariant: the first k rounds are put.
use mathlib.Core.Path.{◌≡◌}
use Rattle.base.specs.Range.{joined}
use Rattle.plan_write.specs.output.Output.{overlay}
use Rattle.chase.specs.Construction.{round, step_file}
use Rattle.chase.proofs.output.put_rounds.Given as goal

abbrev pub invariant-loop-k : goal.invariant-loop-k
invariant-loop-k l = l.out ≡ overlay l.initial.out 12 (step_file (joined l.k round))
