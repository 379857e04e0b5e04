-- `slots::pass_slots` is the pass over the instructions of a plan value. The invariant of the outer loop: it has passed the first k tasks; of the inner
-- one: and the next's first i instructions.
use Prim.Native.Nat.{◌≤◌, ◌<◌}
use mathlib.Core.Path.{◌≡◌}
use lib.ListN.{get_or}
use Rattle.plan.specs.Programs.{programs}
use Rattle.plan_value.specs.Editions.{present_edition}
use Rattle.plan_value.specs.Pass.{seen, entries_to, Passed}
use Rattle.plan_value.specs.Slots.{plan_in}
use Rattle.plan_value.proofs.slots.pass_slots.Given as goal

abbrev pub invariant-loop-i : goal.invariant-loop-i
invariant-loop-i l =
    (l.count ≤ 64)
    × (l.k < l.tasks)
    × (l.tasks ≤ 64)
    × (l.count ≡ get_or l.lengths l.k 0)
    × Passed present_edition l.tasks (entries_to (programs (plan_in l.tasks l.lengths l.codes)) l.k l.i) (seen l.p l.parents l.senders l.receivers)

abbrev pub invariant-loop-k : goal.invariant-loop-k
invariant-loop-k l =
    (l.tasks ≤ 64)
    × (l.k-end ≡ l.tasks)
    × Passed present_edition l.tasks (entries_to (programs (plan_in l.tasks l.lengths l.codes)) l.k 0) (seen l.p l.parents l.senders l.receivers)
