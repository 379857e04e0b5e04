use native.Mathlib.Omega.{arith}
use Rattle.chase.proofs.Writing.{no_steps, step_more}
use Rattle.chase.proofs.output.put_all.Goals as goal

pub loop-k-init : goal.loop-k-init
loop-k-init c = no_steps c.args.out.now c.args.at

pub loop-k-preserved : goal.loop-k-preserved
loop-k-preserved c =
    let a = c.args in
    step_more a.out.now c.loop-k.out _ a.at c.loop-k.k a.steps.now _ (omega arith) (omega arith) c.loop-k.invariant c.put_step.ensures
