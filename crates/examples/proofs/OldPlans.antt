-- What is said of plans on level 0, used: the paper's worked plan is one, whatever its steps and desks. The plan with a set on level 2 is none, and
-- a word on level 2 passes there.
use mathlib.Core.Path.{◌≡◌, refl}
use mathlib.Core.Bool.{true, false}
use mathlib.Core.List.{List}
use Prim.Native.Nat.{ℕ, ◌≤◌}
use Rattle.base.specs.Lists.{every}
use Rattle.plan.specs.Programs.{programs}
use Rattle.rules.specs.declared.step.Step.{Step}
use Rattle.rules.specs.Starts.{started}
use Rattle.rules.specs.Steps.{ruled_steps, received_on}
use Rattle.rules.proofs.Evaluated.{evaluated}
use Rattle.claim.specs.OldPlans.{is_old, on_level0, OnlyLevel0}
use Rattle.examples.specs.Demand3.{example_plan, example_all, example_channel}
use Rattle.examples.proofs.Bound.{accepted}
use Rattle.examples.specs.Dispatch.{worked_plan}
use Rattle.claim.proofs.OldPlans.{old_plans}

old : is_old (programs worked_plan) ≡ true
unfolding evaluated
old = refl

pub worked_on_level_0 : (n : ℕ) (ss : List Step) → 1 ≤ n → n ≤ 6 → OnlyLevel0 n worked_plan ss
worked_on_level_0 n ss some few = old_plans n worked_plan ss some few accepted old

not_old : is_old (programs example_plan) ≡ false
unfolding evaluated
not_old = refl

not_on_level_0 : every on_level0 (received_on example_channel (ruled_steps (started 3 example_plan) example_all).reports) ≡ false
unfolding evaluated
not_on_level_0 = refl
