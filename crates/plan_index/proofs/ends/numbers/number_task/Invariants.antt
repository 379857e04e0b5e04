-- `numbers::number_task` numbers a task's sends. The loop's invariant: those among its first i instructions are numbered, and counted by channel.
use mathlib.Core.Path.{◌≡◌}
use Rattle.plan_index.specs.ends.Numbers.{counted_task, numbered_task}
use Rattle.plan_index.proofs.ends.numbers.number_task.Given as goal

abbrev pub invariant-loop-i : goal.invariant-loop-i
invariant-loop-i l =
    (l.sent ≡ counted_task l.codes l.initial.sent l.k l.i) × (l.numbers ≡ numbered_task l.codes l.initial.numbers l.k l.i)
