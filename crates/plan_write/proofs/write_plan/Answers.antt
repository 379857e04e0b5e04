-- `write_plan` is the paper's writing: a refused plan leaves the output as it was.
use mathlib.Core.Path.{sym, ◌∙◌}
use Rattle.std.proofs.lemmas.Result.{err_from_is_err_and}
use Rattle.plan_write.proofs.Meaning.{unwritten}
use Rattle.plan_write.proofs.write_plan.Goals as goal

pub write_accepted-requires : goal.write_accepted-requires
write_accepted-requires c = sym c.check.ensures ∙ c.in_ok-check.was

pub returns-in_err-check : goal.returns-in_err-check
returns-in_err-check c =
    let p = err_from_is_err_and c.from_residual.result c.from_residual.ensures.1 in
    rw (p.1, p.2) (unwritten _ _ _ (sym c.check.ensures ∙ c.in_err-check.was))
