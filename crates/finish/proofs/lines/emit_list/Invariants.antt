-- `emit_list`: after k tasks the lines of those that are stuck are written.
use Rattle.board.specs.Lent.{tasks_on}
use Rattle.run.specs.all_steps.Writes.{LinesNext}
use Rattle.plan_index.specs.user_table.Users.{senders_of, receivers_of}
use Rattle.finish.specs.Answers.{stuck_lines_in}
use Rattle.finish.proofs.lines.emit_list.Given as goal

abbrev pub invariant-loop-k : goal.invariant-loop-k
invariant-loop-k l =
    LinesNext (stuck_lines_in l.codes (senders_of l.users) (receivers_of l.users) (tasks_on l.board) l.k) l.initial.progress l.initial.out l.progress l.out
