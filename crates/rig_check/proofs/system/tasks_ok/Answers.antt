use mathlib.Core.Path.{◌≡◌, sym, ◌∙◌}
use mathlib.Core.Bool.{Bool, true, false}
use borrow.Author.Rules.{rules}
use native.Mathlib.Omega.{arith}
use Rattle.base.proofs.Tests.{below_none, below_more, below_fails}
use Rattle.rig_check.proofs.system.EachTask.{record_ok, tasks_places, record_with, few_tasks, short_program}
use Rattle.rig_check.proofs.system.tasks_ok.Goals as goal
use Rattle.rig_check.proofs.system.tasks_ok.Goals.{After-task_ok}

pub loop-k-init : goal.loop-k-init
loop-k-init c = below_none _

pub offset_bounds-ts-k : goal.offset_bounds-ts-k
offset_bounds-ts-k c = omega (arith, few_tasks c.args.r c.requires)

pub bounds-ts-k : goal.bounds-ts-k
bounds-ts-k c = omega (arith, few_tasks c.args.r c.requires)

pub last_kind-kind-requires : goal.last_kind-kind-requires
last_kind-kind-requires c =
    let r = c.args.r in
    (omega (arith, few_tasks r c.requires), short_program r c.requires c.loop-k.k c.loop-k-test.true)

pub bounds-p-k : goal.bounds-p-k
bounds-p-k c = omega (arith, few_tasks c.args.r c.requires)

-- what the test says of the task
tested : (t : After-task_ok) (b : Bool) → t.task_ok.result ≡ b
    → let r = t.args.r in
    record_ok r.processors r.plan r.tasks t.loop-k.k ≡ b
tested t b e =
    sym ((rw t.last_kind-kind.ensures at t.task_ok.ensures) ∙ record_with t.args.r t.loop-k.k) ∙ e

pub returns-then-not-task_ok : goal.returns-then-not-task_ok
returns-then-not-task_ok c =
    let r = c.args.r in
    sym (tasks_places r ∙ below_fails (record_ok r.processors r.plan r.tasks) r.plan.tasks c.loop-k.k c.loop-k-test.true (tested c.before false (search rules)))

pub loop-k-preserved : goal.loop-k-preserved
loop-k-preserved c = below_more _ c.loop-k.k c.loop-k.invariant (tested c.before true (search rules))

pub returns : goal.returns
returns c =
    let r = c.args.r in
    let e : c.loop-k.k ≡ r.plan.tasks = omega arith in
    sym (tasks_places r ∙ (rw e at c.loop-k.invariant))
