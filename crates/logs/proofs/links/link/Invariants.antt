-- `link`. The loop's invariant: what stands behind the first k records is linked.
use Rattle.logs.proofs.Linking.{Stage}
use Rattle.logs.proofs.links.link.Given as goal

abbrev pub invariant-loop-k : goal.invariant-loop-k
invariant-loop-k l = Stage l.log l.k l.first l.next
