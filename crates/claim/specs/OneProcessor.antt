-- On one desk no letter is ever in the mail: every word passes directly, and every finish finds the parent there. Said of the definitions of `rules`
-- and of the statement alone.
use Rattle.std.specs.Prelude.{◌≡◌, List, Ok}
use Rattle.plan.specs.declared.Plan.{Plan}
use Rattle.plan.specs.Programs.{programs}
use Rattle.plan.specs.Refusals.{plan_answer}
use Rattle.rules.specs.declared.step.Step.{Step}
use Rattle.claim.specs.Statement.{under_way}

-- `nothing_posted`: for every accepted plan and every list of steps
abbrev pub NothingPosted : Type 0
NothingPosted = (p : Plan) (ss : List Step) → plan_answer (programs p) ≡ Ok tt → under_way 1 p ss ≡ 0
