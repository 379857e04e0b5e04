-- `count_moves_of`: after k of them, the moves of the task to desks 1 .. k are counted.
use Prim.Native.Nat.{ℕ, ◌+◌}
use Rattle.rules.specs.declared.system.System.{System}
use Rattle.board.specs.Lent.{tasks_on}
use Rattle.panel_laws.specs.Tallies.{moves_of}
use Rattle.panel.specs.Counted.{Few, CountsMore, MovesAs}
use Rattle.panel.specs.Tally.{counts_of}
use Rattle.panel.proofs.counts.count_moves_of.Given as goal

abbrev pub invariant-loop-k : goal.invariant-loop-k
invariant-loop-k l =
    ((m : ℕ) → Few m (counts_of l.initial.q) → Few (m + l.k) (counts_of l.q)) × ((r : System) → MovesAs (tasks_on l.board) l.n r → CountsMore r (moves_of l.t l.k) (counts_of l.initial.q) (counts_of l.q))
