-- `can_run`: the answer of the step.
use mathlib.Core.Path.{ap, ◌∙◌}
use Rattle.rules.specs.declared.step.Stepped.{Stepped}
use Rattle.rules.specs.Answers.{is_accepted}
use Rattle.rules.specs.Steps.{run_step}
use Rattle.rules_laws.proofs.Steps.{step_answer_lem}
use Rattle.dispatch.proofs.rest.can_run.Goals as goal

pub returns : goal.returns
returns c =
    c.is_accepted.ensures ∙ ap is_accepted (ap (λ (o : Stepped). o.report.answer) c.step.ensures ∙ step_answer_lem c.args.r (run_step c.args.t))
