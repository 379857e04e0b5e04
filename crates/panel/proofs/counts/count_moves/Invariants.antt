-- `count_moves`: after k tasks, the moves of tasks 1 .. k are counted.
use Prim.Native.Nat.{◌+◌, ◌*◌}
use Rattle.rules.specs.declared.system.System.{System}
use Rattle.board.specs.Lent.{tasks_on}
use Rattle.panel_laws.specs.Tallies.{moves}
use Rattle.panel.specs.Counted.{Few, CountsMore, MovesAs}
use Rattle.panel.specs.Tally.{counts_of}
use Rattle.panel.proofs.counts.count_moves.Given as goal

abbrev pub invariant-loop-k : goal.invariant-loop-k
invariant-loop-k l =
    (Few (320 + 6 * l.k) (counts_of l.q)) × ((r : System) → MovesAs (tasks_on l.board) l.n r → CountsMore r (moves l.k l.n.processors) (counts_of l.initial.q) (counts_of l.q))
