-- `lowest_child`: no task of 1 to k is a living child.
use mathlib.Core.Path.{◌≡◌}
use Rattle.rules.specs.Finish.{lowest}
use Rattle.finish.proofs.stuck.lowest_child.Given as goal

abbrev pub invariant-loop-k : goal.invariant-loop-k
invariant-loop-k l = lowest l.k l.x.children ≡ 0
