-- What holds of parents in every run, beside demand 3. Said of the definitions of `rules` and of the statement alone.
use Rattle.std.specs.Prelude.{◌≡◌, true, List, ℕ, ◌≤◌, Ok}
use Rattle.plan.specs.declared.Plan.{Plan}
use Rattle.plan.specs.Programs.{programs}
use Rattle.plan.specs.Refusals.{plan_answer}
use Rattle.rules.specs.declared.step.Step.{Step}
use Rattle.rules.specs.Steps.{is_run, step}
use Rattle.claim.specs.Statement.{from}

-- `none_held_by_runs`: "Where the newer pointer names the child's desk and the parent isn't there, the child is held." No finish in a run from a
-- start meets that: after any list of steps, a run step changes no set of held children
abbrev pub NoneHeldByRuns : Type 0
NoneHeldByRuns =
    (n : ℕ) (p : Plan) (ss : List Step) (s : Step) → 1 ≤ n → n ≤ 6 → plan_answer (programs p) ≡ Ok tt → is_run s ≡ true
    → (step (from n p ss).system s).system.parents.held ≡ (from n p ss).system.parents.held
