-- `put_records`: the records of the board's tasks become these.
use mathlib.Core.Path.{◌≡◌}
use lib.ListN.{length}
use Rattle.rules.specs.Tasks.{no_task}
use Rattle.board.specs.Lent.{Whole, records_on, channels_on}
use Rattle.rig_step.proofs.Agreeing.{Agree}
use Rattle.rig_step.proofs.pack.put_records.Given as goal

abbrev pub invariant-loop-k : goal.invariant-loop-k
invariant-loop-k l =
    (Whole l.board) × (channels_on l.board ≡ channels_on l.initial.board) × (length l.records ≡ 64 → Agree no_task 64 l.k (records_on l.board) l.records)
