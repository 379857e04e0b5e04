-- `numbers::put_numbers` is the numbers of all sends, as the plan's meaning says. The loop's invariant: those of the first k tasks stand there, and 0 elsewhere.
use mathlib.Core.Path.{◌≡◌}
use Rattle.base.specs.Lists.{table}
use Rattle.plan_index.specs.ends.Numbers.{sent_before, send_numbers}
use Rattle.plan_index.proofs.ends.numbers.put_numbers.Given as goal

abbrev pub invariant-loop-k : goal.invariant-loop-k
invariant-loop-k l =
    (l.numbers ≡ send_numbers l.k l.lengths l.codes) × (l.sent ≡ table 129 (sent_before l.lengths l.codes l.k))
