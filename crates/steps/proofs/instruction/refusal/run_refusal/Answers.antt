-- `run_refusal`: 10, 11 or 12 to a run of task t; accepted where none refuses.
use mathlib.Core.Path.{ap, ◌∙◌}
use Rattle.std.proofs.lemmas.Result.{err_from_is_err_and}
use Rattle.board.specs.Lent.{tasks_on}
use Rattle.steps.proofs.instruction.Nexts.{answer_to, next_answer}
use Rattle.steps.proofs.instruction.refusal.run_refusal.Goals as goal

pub returns-in_err-next_of : goal.returns-in_err-next_of
returns-in_err-next_of c =
    let a = c.args in
    let p = err_from_is_err_and c.from_residual.result c.from_residual.ensures.1 in
    rw (p.1, p.2) (ap answer_to c.in_err-next_of.ensures ∙ next_answer a.codes.now a.count (tasks_on a.board.now) a.t)

pub returns : goal.returns
returns c = let a = c.args in ap answer_to c.in_ok-next_of.ensures ∙ next_answer a.codes.now a.count (tasks_on a.board.now) a.t
