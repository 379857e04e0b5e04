-- `read_on`. The loop's invariant: what the bytes that are left make of the number is what all of them do.
use mathlib.Core.Path.{◌≡◌}
use lib.ListN.{drop}
use Rattle.chase.specs.Numbers.{read_on}
use Rattle.chase.proofs.number.read_on.Given as goal

abbrev pub invariant-loop-b : goal.invariant-loop-b
invariant-loop-b l = read_on l.x (drop l.b-index l.bytes) ≡ read_on l.initial.x l.bytes
