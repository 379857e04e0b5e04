-- `mortarsedge_chase`.
use mathlib.Core.Path.{◌∙◌, ap}
use Rattle.planner.specs.Chases.{chase_packed}
use Rattle.planner.proofs.ChaseSizes.{chase_few}
use Rattle.planner.proofs.chases.mortarsedge_chase.Goals as goal

pub chase_packed-requires : goal.chase_packed-requires
chase_packed-requires c = chase_few _ _ _ _ c.write_chase.ensures.answer

pub returns : goal.returns
returns c =
    let r = c.write_chase.ensures in
    record {
      result = c.chase_packed.ensures ∙ ap chase_packed r.answer;
      plan_bytes_lem = rw r.answer at r.plan_bytes_lem;
      step_bytes_lem = rw r.answer at r.step_bytes_lem;
      chase = λ n e. r.chase n (r.answer ∙ e);
    }
