-- `find::find_task` looks at one instruction after the other. The loop's invariant: what is kept is that of the first i.
use Prim.Native.Nat.{◌*◌, ◌≤◌}
use lib.ListN.{drop}
use Rattle.convert.specs.Marks.{Marked}
use Rattle.convert.specs.Tasks.{task_in}
use Rattle.convert.proofs.find.find_task.Given as goal

abbrev pub invariant-loop-i : goal.invariant-loop-i
invariant-loop-i l =
    (l.m.rounds ≤ 65535) × (l.m.length ≤ 65535 * l.i) × Marked (task_in l.file l.at l.count) (drop l.i (task_in l.file l.at l.count)) l.m
