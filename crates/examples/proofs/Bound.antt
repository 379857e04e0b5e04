-- (d) of the paper's run after its fourth step: 5 instructions are not executed and 2 letters under way, so that at most 70 more steps are
-- accepted if none is a move.
use mathlib.Core.Path.{◌≡◌, refl}
use mathlib.Core.List.{List, [], ◌∷◌}
use Prim.Native.Nat.{◌≤◌}
use native.Mathlib.Omega.{arith}
use Rattle.std.specs.Prelude.{Ok}
use Rattle.plan.specs.Programs.{programs}
use Rattle.plan.specs.Refusals.{plan_answer}
use Rattle.rules.specs.declared.step.Step.{Step}
use Rattle.rules.proofs.Scripts.{run, move}
use Rattle.rules.specs.Steps.{is_move}
use Rattle.rules.proofs.Evaluated.{evaluated}
use Rattle.claim.specs.Statement.{accepted_of, any_step, from, not_executed, under_way}
use Rattle.claim.proofs.Demand3.{demand_3}
use Rattle.examples.specs.Dispatch.{worked_plan}

abbrev four : List Step
four = run 1 ∷ run 1 ∷ move 2 2 ∷ run 1 ∷ []

pub accepted : plan_answer (programs worked_plan) ≡ Ok tt
unfolding evaluated
accepted = refl

five_left : not_executed 2 worked_plan four ≡ 5
unfolding evaluated accepted_of
five_left = refl

two_messages : under_way 2 worked_plan four ≡ 2
unfolding evaluated
two_messages = refl

pub at_most_seventy : (us : List Step) → accepted_of is_move (from 2 worked_plan four).system us ≡ 0
    → accepted_of any_step (from 2 worked_plan four).system us ≤ 70
at_most_seventy us none = omega (arith, (demand_3 2 worked_plan four (omega arith) (omega arith) accepted).few_steps us none, five_left, two_messages)
