-- What is said of marks, used: the child that adds over the top is marked, and its parent, which adds up to it, is not; and so at rest on one desk.
use mathlib.Core.Path.{◌≡◌, refl, sym, ◌∙◌}
use mathlib.Core.Bool.{true, false}
use mathlib.Core.List.{List}
use native.Mathlib.Omega.{arith}
use Rattle.std.specs.Prelude.{Ok}
use Rattle.plan.specs.declared.TaskId.{TaskId}
use Rattle.plan.specs.Numbers.{task_id}
use Rattle.plan.specs.Programs.{programs, canonical}
use Rattle.plan.specs.Refusals.{plan_answer}
use Rattle.rules.specs.declared.step.Step.{Step}
use Rattle.rules.specs.Systems.{task_at}
use Rattle.rules.specs.Starts.{started}
use Rattle.rules.specs.Steps.{quiescent}
use Rattle.rules.proofs.Evaluated.{evaluated}
use Rattle.claim.specs.Statement.{from, Rests}
use Rattle.claim.specs.Overflows.{has_overflowed}
use Rattle.examples.specs.Overflows.{sums_plan, sums_before, sums_all}
use Rattle.claim.proofs.Demand3.{demand_3}
use Rattle.claim.proofs.Overflows.{marked_exactly}

accepted : plan_answer (programs sums_plan) ≡ Ok tt
unfolding evaluated
accepted = refl

abbrev parent : TaskId
parent = task_id 1

abbrev child : TaskId
child = task_id 2

-- by the steps: a refused run of the add, then an accepted one
not_yet : has_overflowed child (started 2 sums_plan) sums_before ≡ false
unfolding evaluated has_overflowed
not_yet = refl

over : has_overflowed child (started 2 sums_plan) sums_all ≡ true
unfolding evaluated has_overflowed
over = refl

never : has_overflowed parent (started 2 sums_plan) sums_all ≡ false
unfolding evaluated has_overflowed
never = refl

-- so by the marks
pub unmarked_before : (task_at (from 2 sums_plan sums_before).system child).overflow ≡ false
unmarked_before = marked_exactly 2 sums_plan sums_before (omega arith) (omega arith) accepted child ∙ not_yet

pub child_marked : (task_at (from 2 sums_plan sums_all).system child).overflow ≡ true
child_marked = marked_exactly 2 sums_plan sums_all (omega arith) (omega arith) accepted child ∙ over

pub parent_unmarked : (task_at (from 2 sums_plan sums_all).system parent).overflow ≡ false
parent_unmarked = marked_exactly 2 sums_plan sums_all (omega arith) (omega arith) accepted parent ∙ never

-- at rest: on one desk the marks are the same, whatever the steps
rests : quiescent (from 2 sums_plan sums_all).system ≡ true
unfolding evaluated
rests = refl

pub child_marked_still : (ts : List Step) → Rests sums_plan ts → (task_at (from 1 sums_plan ts).system child).overflow ≡ true
unfolding canonical
child_marked_still ts at_rest =
    sym ((demand_3 2 sums_plan sums_all (omega arith) (omega arith) accepted).same_tasks rests ts at_rest child refl).overflow ∙ child_marked
