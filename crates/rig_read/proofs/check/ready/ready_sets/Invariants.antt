-- `ready_sets` takes the tasks one by one. The loop's invariant: the sets are those of the first t.
use Rattle.rig_read.specs.Passing.{ReadySets}
use Rattle.rig_read.proofs.check.ready.ready_sets.Given as goal

abbrev pub invariant-loop-t : goal.invariant-loop-t
invariant-loop-t l = ReadySets l.t l.board l.sets
