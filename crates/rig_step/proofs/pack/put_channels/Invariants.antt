-- `put_channels`: the board's channels become these.
use mathlib.Core.Path.{◌≡◌}
use Rattle.board.specs.Lent.{Whole, tasks_on, channels_on}
use Rattle.rig_step.proofs.Agreeing.{AgreeOn, Long}
use Rattle.rig_step.proofs.pack.put_channels.Given as goal

abbrev pub invariant-loop-k : goal.invariant-loop-k
invariant-loop-k l =
    (Whole l.board) × (tasks_on l.board ≡ tasks_on l.initial.board) × (Long l.channels → AgreeOn l.k (channels_on l.board) l.channels)
