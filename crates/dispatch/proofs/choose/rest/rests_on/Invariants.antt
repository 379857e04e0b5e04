-- `rests_on`: where no ready task is known to run, every task is asked.
use Rattle.dispatch.proofs.choose.rest.rests_on.Given as goal

abbrev pub invariant-loop-d : goal.invariant-loop-d
invariant-loop-d l = Unit {0}
