-- `write_chase`: 26, 20 of the plan and of the steps, and both written.
use mathlib.Core.Path.{refl}
use Prim.Native.Nat.{◌+◌, ◌*◌}
use native.Mathlib.Omega.{arith}
use Rattle.chase.proofs.Outcomes.{too_many, short_plan, short_steps, written}
use Rattle.chase.proofs.write_chase.Goals as goal

pub returns-then-m-gt500 : goal.returns-then-m-gt500
returns-then-m-gt500 c = let a = c.args in too_many a.m a.plan.now a.steps.now (omega arith)

pub returns-then-plan-lt32 : goal.returns-then-plan-lt32
returns-then-plan-lt32 c = let a = c.args in short_plan a.m a.plan.now a.steps.now (omega arith) (omega arith)

pub returns-then-steps-size : goal.returns-then-steps-size
returns-then-steps-size c = let a = c.args in short_steps a.m a.plan.now a.steps.now (omega arith) (omega arith)

pub returns : goal.returns
returns c =
    let a = c.args in
    written a.m a.plan.now a.steps.now (12 * a.m + 44) _ _ (omega arith) (omega arith) (omega arith) refl
    c.put_plan.ensures c.put_steps.ensures
