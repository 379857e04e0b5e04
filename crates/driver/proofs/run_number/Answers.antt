-- `run_number`.
use mathlib.Core.Path.{◌≡◌, ◌∙◌}
use borrow.Author.Rules.{rules}
use Rattle.plan.specs.Answers.{refusal_number}
use Rattle.rules.specs.Answers.{run_number}
use Rattle.driver.proofs.Numbers.{refusal_few}
use Rattle.driver.proofs.run_number.Goals as goal

pub returns-in-Err-Unstarted : goal.returns-in-Err-Unstarted
returns-in-Err-Unstarted c =
    let r = c.in-Err-Unstarted.r in
    let e : refusal_number r ≡ run_number c.args.a = search rules in
    (c.number.ensures ∙ e, rw c.number.ensures (refusal_few r))
