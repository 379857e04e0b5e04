-- `records` has at most one record for each byte that it has come past.
use Rattle.std.proofs.Common.{◌≤◌, length}
use Rattle.show_files.proofs.records.records.Given as goal

abbrev pub invariant-loop : goal.invariant-loop
invariant-loop g l = length l.records.items ≤ l.index
