-- `put_sets`: the board's sets of ready tasks become these.
use mathlib.Core.Path.{◌≡◌}
use lib.ListN.{length}
use Rattle.board.specs.Lent.{Whole, records_on, ready_on, channels_on}
use Rattle.rig_step.proofs.Agreeing.{Agree}
use Rattle.rig_step.proofs.pack.put_sets.Given as goal

abbrev pub invariant-loop-k : goal.invariant-loop-k
invariant-loop-k l =
    (Whole l.board) × (channels_on l.board ≡ channels_on l.initial.board) × (length l.ready ≡ 6 → Agree 0 6 l.k (ready_on l.board) l.ready) × (records_on l.board ≡ records_on l.initial.board)
