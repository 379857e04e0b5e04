-- `check_code` answers as the paper asks of the plan: it makes the pass and asks what it says.
use mathlib.Core.Path.{◌∙◌}
use Rattle.plan_value.proofs.Sized.{some_tasks, few_tasks}
use Rattle.plan_file.proofs.Instructions.{code_tasks}
use Rattle.plan_file.proofs.scan.Answers.{checked}
use Rattle.plan_file.proofs.scan.check_code.Goals as goal

pub answer-requires : goal.answer-requires
answer-requires c =
    let a = c.args in
    rw (c.walk-p.ensures.size ∙ code_tasks a.file.now a.tasks a.lengths.now)
    (some_tasks a.tasks a.lengths.now c.requires.0.sizes, few_tasks a.tasks a.lengths.now c.requires.0.sizes)

pub returns : goal.returns
returns c =
    let pass = rw c.present.ensures at c.walk-p.ensures in
    checked c.args.file.now c.args.tasks c.args.lengths.now c.requires.0.sizes pass c.answer.ensures
