-- `records_on`: the records of the tasks of a board.
use Rattle.rules.specs.Tasks.{no_task}
use Rattle.board.specs.Lent.{records_on}
use Rattle.rig_step.proofs.Agreeing.{Agree}
use Rattle.rig_step.proofs.pack.records_on.Given as goal

abbrev pub invariant-loop-k : goal.invariant-loop-k
invariant-loop-k l = Agree no_task 64 l.k l.records (records_on l.board)
