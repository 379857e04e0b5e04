-- `mortarsedge_run`.
use mathlib.Core.Path.{◌∙◌, ap, ap₂}
use Rattle.rules.specs.Answers.{run_number}
use Rattle.claim.proofs.Files.{demand_3_file}
use Rattle.driver.specs.Runs.{packed, run_outcome}
use native.Mathlib.Omega.{arith}
use Rattle.trace.proofs.Bound.{run_text_short}
use Rattle.driver.proofs.Room.{room_enough}
use Rattle.driver.proofs.Traced.{output_lines}
use borrow.Author.Rules.{rules}
use Rattle.driver.proofs.mortarsedge_run.Goals as goal

pub packed-requires : goal.packed-requires
packed-requires c =
    let a = c.args in
    (c.run_number.ensures.1, omega (arith, c.run_file-o.ensures.count, run_text_short a.processors a.plan.now a.steps.now a.out.now))

pub returns : goal.returns
unfolding run_outcome
returns c =
    let a = c.args in
    let r = c.run_file-o.ensures in
    record {
      outcome = c.packed.ensures ∙ ap₂ packed (c.run_number.ensures.0 ∙ ap run_number r.answered) r.count;
      bytes = r.bytes;
      room = room_enough a.processors a.plan.now a.steps.now a.out.now;
      demand_3 = λ h. demand_3_file a.processors a.plan.now h a.steps.now;
      lines = λ h. r.bytes ∙ output_lines a.processors a.plan.now a.steps.now a.out.now h;
    }
