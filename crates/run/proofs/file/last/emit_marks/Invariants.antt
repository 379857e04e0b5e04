-- `emit_marks`: after t tasks the lines of those that are marked are written.
use Prim.Native.Nat.{◌-◌, ◌≤◌}
use Rattle.board.specs.Lent.{tasks_on}
use Rattle.run.specs.all_steps.Writes.{LinesNext}
use Rattle.run.specs.file.Writes.{mark_lines}
use Rattle.run.proofs.file.last.emit_marks.Given as goal

abbrev pub invariant-loop-t : goal.invariant-loop-t
invariant-loop-t l =
    LinesNext (mark_lines (tasks_on l.board) l.t) l.initial.progress l.initial.out l.progress l.out
