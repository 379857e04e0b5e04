-- `settle`: the rig after some list of runs, of which there are at most 4,096; and whether a task can run.
use mathlib.Core.List.{[]}
use Prim.Native.Nat.{◌-◌}
use Rattle.plan.specs.declared.Plan.{Plan}
use Rattle.board.specs.Lent.{lent, tasks_on}
use Rattle.finish.specs.Searches.{Found}
use Rattle.finish.specs.Settles.{After, Gone}
use Rattle.finish.proofs.settle.settle.Given as goal

abbrev pub invariant-loop-t : goal.invariant-loop-t
invariant-loop-t l =
    ((p : Plan) → After l.codes l.numbers l.users l.count (lent l.initial.hintprocessors l.initial.hintmoves l.initial.heldprocessors l.initial.heldnumbers l.initial.notes l.initial.board) p [] 0
    → Gone l.codes l.numbers l.users l.count (lent l.hintprocessors l.hintmoves l.heldprocessors l.heldnumbers l.notes l.board) p l.work)
    × Found l.codes l.count (tasks_on l.board) 0 l.count l.t

abbrev pub decreases-loop-t : goal.decreases-loop-t
decreases-loop-t l = 4096 - l.work
