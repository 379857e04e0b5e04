-- `compare_all` ends: each record is behind the one before it.
use Rattle.std.proofs.Common.{length}
use Rattle.logs_test.proofs.compare_all.Given as goal

abbrev pub decreases-loop-pair : goal.decreases-loop-pair
decreases-loop-pair l = length l.rest.rest.now
