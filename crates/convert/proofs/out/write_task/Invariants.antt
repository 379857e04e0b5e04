-- `out::write_task` goes through a task as its rules say, and writes what it comes to. The loop's invariant is `Put`.
use Rattle.repeat_laws.specs.Left.{goings}
use Rattle.convert.specs.Spots.{place_of}
use Rattle.convert.specs.Tasks.{task_in, Put}
use Rattle.convert.proofs.out.write_task.Given as goal

abbrev pub invariant-loop-s : goal.invariant-loop-s
invariant-loop-s l = Put (task_in l.file l.at l.count) l.first l.initial.codes l.s l.w l.codes

abbrev pub decreases-loop-s : goal.decreases-loop-s
decreases-loop-s l = goings (task_in l.file l.at l.count) (place_of l.s)
