-- `follow`. The loop's invariant: the first k records are followed.
use Rattle.logs.proofs.Following.{Stage}
use Rattle.logs.proofs.follow.follow.Given as goal

abbrev pub invariant-loop-k : goal.invariant-loop-k
invariant-loop-k l = Stage l.sent l.received l.k l.places l.lowest
