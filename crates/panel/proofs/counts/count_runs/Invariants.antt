-- `count_runs`: after k of them, the runs of tasks 1 .. k are counted.
use Rattle.rules.specs.declared.system.System.{System}
use Rattle.board.specs.Lent.{lent}
use Rattle.board.specs.Rigs.{facts_in}
use Rattle.panel_laws.specs.Tallies.{runs}
use Rattle.panel.specs.Counted.{Few, CountsMore, RunsAs}
use Rattle.panel.specs.Tally.{counts_of}
use Rattle.panel.proofs.counts.count_runs.Given as goal

abbrev pub invariant-loop-k : goal.invariant-loop-k
invariant-loop-k l =
    (Few l.k (counts_of l.q))
    × ((r : System) → RunsAs (facts_in l.n.tasks l.codes l.numbers l.users) l.n (lent l.hintprocessors l.hintmoves l.heldprocessors l.heldnumbers l.notes l.board) r → CountsMore r (runs l.k) (counts_of l.initial.q) (counts_of l.q))
