-- `task_of` opens the bytes, and takes the task from the board.
use mathlib.Core.Path.{◌≡◌, refl, sym, ap, ◌∙◌}
use mathlib.Core.Bool.{Bool}
use borrow.Author.Tests.{not-true, not-false}
use Rattle.plan.specs.declared.Plan.{Plan}
use Rattle.plan.specs.declared.TaskId.{TaskId}
use Rattle.rules.specs.declared.system.TaskTable.{TaskTable}
use Rattle.rules.specs.Numbers.{task_number_ok}
use Rattle.rules.specs.Systems.{task_in}
use Rattle.views.proofs.Viewed.{one_of_64}
use Rattle.live_rig.proofs.Opened.{plan_here, plan_of_lem, blank_room, refused_plan, refused_here, sound_here, passed_here, tasks_here}
use Rattle.live_rig.proofs.Shown.{found_nine, found_ten, found}
use Rattle.live_rig.proofs.found.task_of.Goals as goal

-- 10 is tested on the tasks of the rig
tested : {p q : Plan} {r : Bool} (t : TaskId) → r ≡ task_number_ok p.tasks t → p ≡ q → r ≡ task_number_ok q.tasks t
tested t e plan = e ∙ ap (λ (x : Plan). task_number_ok x.tasks t) plan

pub plan_in-read-requires : goal.plan_in-read-requires
plan_in-read-requires c = (c.requires, (refl, refl, refl, refl))

pub open_parts-o-requires : goal.open_parts-o-requires
open_parts-o-requires c = (c.requires, plan_of_lem c.plan_in-read.ensures c.in-Ok.is, blank_room)

pub returns-then-not-o : goal.returns-then-not-o
returns-then-not-o c =
    found_nine _ _ (refused_here c.open_parts-o.ensures (not-true c.open_parts-o.result.ok c.if-not-o.true)) c.refused-then-not-o.ensures

pub returns-then-not-has_task : goal.returns-then-not-has_task
returns-then-not-has_task c =
    let passed = not-false c.open_parts-o.result.ok c.if-not-o.false in
    let plan = plan_here (plan_of_lem c.plan_in-read.ensures c.in-Ok.is) in
    found_ten _ _ (sound_here c.open_parts-o.ensures passed) (sym (tested c.args.t c.has_task.ensures plan) ∙ not-true c.has_task.result c.if-not-has_task.true-raw) c.refused-then-not-has_task.ensures

pub task_at-x-requires : goal.task_at-x-requires
task_at-x-requires c =
    let passed = not-false c.open_parts-o.result.ok c.if-not-o.false in
    let plan = plan_here (plan_of_lem c.plan_in-read.ensures c.in-Ok.is) in
    (one_of_64 _ _ (passed_here c.open_parts-o.ensures passed) (sym (tested c.args.t c.has_task.ensures plan) ∙ not-false c.has_task.result c.if-not-has_task.false-raw)).1

pub returns-in-Err : goal.returns-in-Err
returns-in-Err c = found_nine _ _ (refused_plan c.plan_in-read.ensures c.in-Err.is) c.refused.ensures

pub returns-else-not-has_task : goal.returns-else-not-has_task
returns-else-not-has_task c =
    let h = c.open_parts-o.ensures in
    let passed = not-false c.open_parts-o.result.ok c.if-not-o.false in
    let plan = plan_here (plan_of_lem c.plan_in-read.ensures c.in-Ok.is) in
    found _ _ (sound_here h passed) (sym (tested c.args.t c.has_task.ensures plan) ∙ not-false c.has_task.result c.if-not-has_task.false-raw) refl
    (c.task_at-x.ensures ∙ ap (λ (ts : TaskTable). task_in ts c.args.t) (tasks_here h passed))
