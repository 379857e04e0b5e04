-- `put_parents`: what desks keep for parents on the board becomes this.
use mathlib.Core.Path.{◌≡◌}
use Rattle.board.specs.Lent.{Whole, tasks_on, channels_on, parents_on}
use Rattle.rig_step.proofs.Agreeing.{AgreeFor, LongFor}
use Rattle.rig_step.proofs.pack.put_parents.Given as goal

abbrev pub invariant-loop-k : goal.invariant-loop-k
invariant-loop-k l =
    (Whole l.board) × (tasks_on l.board ≡ tasks_on l.initial.board) × (channels_on l.board ≡ channels_on l.initial.board) × (LongFor l.parents → AgreeFor l.k (parents_on l.board) l.parents)
