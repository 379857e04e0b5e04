-- `mortarsedge_choose`.
use mathlib.Core.Path.{◌∙◌, ap, ap₂}
use native.Mathlib.Omega.{arith}
use borrow.Author.Rules.{rules}
use Rattle.rules.specs.Answers.{run_number}
use Rattle.dispatch.proofs.Outcomes.{choose_few}
use Rattle.driver.specs.Runs.{packed}
use Rattle.chooser.proofs.choice.mortarsedge_choose.Goals as goal

pub packed-requires : goal.packed-requires
packed-requires c =
    let a = c.args in
    (c.run_number.ensures.1, omega (arith, c.choose_file-o.ensures.count, choose_few a.processors a.plan.now a.out.now))

pub returns : goal.returns
returns c =
    let r = c.choose_file-o.ensures in
    record {
      outcome = c.packed.ensures ∙ ap₂ packed (c.run_number.ensures.0 ∙ ap run_number r.answered) r.count;
      bytes = r.bytes;
    }
