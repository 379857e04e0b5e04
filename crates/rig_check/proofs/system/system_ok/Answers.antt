-- `system_ok` is the test of refusal 9: the plan's sizes are known where the tasks are looked at.
use mathlib.Core.Path.{◌≡◌, sym, ◌∙◌}
use mathlib.Core.Bool.{true}
use borrow.Author.Rules.{rules}
use Rattle.plan.specs.Programs.{programs}
use Rattle.rig_check.proofs.system.EachTask.{few_tasks, sizes_passed}
use Rattle.rig_check.proofs.system.system_ok.Goals as goal

pub tasks_ok-requires : goal.tasks_ok-requires
tasks_ok-requires c =
    let passed : c.plan_ok.result ≡ true = search rules in
    sizes_passed (programs c.args.r.plan) (sym c.plan_ok.ensures ∙ passed)

pub origins_ok-requires : goal.origins_ok-requires
origins_ok-requires c =
    let passed : c.plan_ok.result ≡ true = search rules in
    sizes_passed (programs c.args.r.plan) (sym c.plan_ok.ensures ∙ passed)

pub ready_ok-requires : goal.ready_ok-requires
ready_ok-requires c =
    let passed : c.plan_ok.result ≡ true = search rules in
    few_tasks c.args.r (sizes_passed (programs c.args.r.plan) (sym c.plan_ok.ensures ∙ passed))
