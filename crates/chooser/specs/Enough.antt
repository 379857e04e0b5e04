-- The number of calls is never what ends a choice. Said of the definitions of `rules`, of `plan` and of the calls alone.
use Rattle.std.specs.Prelude.{◌≡◌, true, ℕ, ◌≤◌, length, Ok}
use Rattle.plan.specs.declared.Plan.{Plan}
use Rattle.plan.specs.Programs.{programs}
use Rattle.plan.specs.Refusals.{plan_answer}
use Rattle.rules.specs.Starts.{started}
use Rattle.rules.specs.Steps.{quiescent}
use Rattle.dispatch.specs.Calls.{called}

-- `calls_enough`: for every accepted plan and 1 to 6 desks. Where 12,006 calls make 2,000 steps or fewer, the rig is at rest then: a round of calls that
-- makes no step, accepted or refused, leaves a rig without a letter and without a ready task
abbrev pub CallsEnough : Type 0
CallsEnough =
    (n : ℕ) (p : Plan) → 1 ≤ n → n ≤ 6 → plan_answer (programs p) ≡ Ok tt
    → length (called 12006 (started n p) 0).steps ≤ 2000 → quiescent (called 12006 (started n p) 0).system ≡ true
