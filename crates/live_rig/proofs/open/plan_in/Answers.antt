-- `plan_in`: a plan file that is too long is refused, any other is opened.
use native.Mathlib.Omega.{arith}
use mathlib.Core.Path.{◌≡◌, ap}
use Prim.Native.Nat.{ℕ, ◌+◌, ◌-◌}
use lib.ListN.{take, drop}
use Rattle.image.specs.Numbers.{number_at}
use Rattle.live_rig.proofs.Opened.{too_long, plan_opened}
use Rattle.live_rig.proofs.open.plan_in.Goals as goal

pub returns-then-size-gt16644 : goal.returns-then-size-gt16644
returns-then-size-gt16644 c =
    too_long c.args.rig.now c.no_plan.result (omega (arith, c.number4-size.ensures)) c.no_plan.ensures

pub open-requires : goal.open-requires
open-requires c = c.requires.1

pub returns : goal.returns
returns c =
    let size : 20 + c.number4-size.result - 20 ≡ number_at 4 c.args.rig.now 4 = omega (arith, c.number4-size.ensures) in
    plan_opened c.args.rig.now c.open.result (omega (arith, c.number4-size.ensures)) (ap (λ (k : ℕ). take k (drop 20 c.args.rig.now)) size) c.open.ensures
