-- `compare_calls` ends: each record is behind the one before it.
use Rattle.std.proofs.Common.{length}
use Rattle.vectors_test.proofs.compare_calls.Given as goal

abbrev pub decreases-loop-record : goal.decreases-loop-record
decreases-loop-record l = length l.rest.rest.now
