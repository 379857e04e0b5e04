-- `put_plan`: the table is the plan's file.
use Rattle.rules.proofs.Evaluated.{evaluated}
use Rattle.chase.specs.Construction.{chase_plan}
use Rattle.chase.proofs.Outcomes.{plan_put}
use Rattle.chase.proofs.output.put_plan.Goals as goal

pub returns : goal.returns
unfolding evaluated chase_plan
returns c = plan_put c.args.out.now c.copy_from_slice.new.self c.copy_from_slice.ensures.after
