-- `check_plan`: the stages together are the paper's reading of a file.
use mathlib.Core.Path.{◌∙◌, ap}
use Rattle.plan.specs.declared.PlanRead.{PlanRead}
use Rattle.plan_laws.proofs.RoundTrip.{read_answer}
use Rattle.plan_file.proofs.Fronts.{behind_fits, read_as}
use Rattle.plan_file.proofs.check_plan.Goals as goal

pub answer-requires : goal.answer-requires
answer-requires c = behind_fits c.args.file c.new-start.ensures c.header-header.ensures c.advanced-behind.ensures

pub returns : goal.returns
returns c =
    c.answer.ensures
    ∙ ap (λ (r : PlanRead). r.answer) (read_as c.args.file c.new-start.ensures c.header-header.ensures c.advanced-behind.ensures)
    ∙ read_answer c.args.file.now
