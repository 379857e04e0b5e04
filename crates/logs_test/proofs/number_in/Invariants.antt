-- The number of `number_in` stays small.
use Rattle.std.proofs.Common.{◌≤◌}
use Rattle.logs_test.proofs.number_in.Given as goal

abbrev pub invariant-loop-digit : goal.invariant-loop-digit
invariant-loop-digit l = l.number ≤ 10000
