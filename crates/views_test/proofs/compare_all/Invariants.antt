-- `compare_all` ends: each record is behind the one before it.
use Rattle.std.proofs.Common.{length}
use Rattle.views_test.proofs.compare_all.Given as goal

abbrev pub decreases-loop-record : goal.decreases-loop-record
decreases-loop-record l = length l.rest.rest.now
