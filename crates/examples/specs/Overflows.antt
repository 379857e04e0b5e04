-- A plan in which task 1 adds 0 to 65,535 and its child 1, and steps on two desks: the child moves with its mark. At the end both are done.
use Rattle.std.specs.Prelude.{List, [], ◌∷◌}
use Rattle.plan.specs.declared.Plan.{Plan}
use Rattle.plan.specs.Programs.{canonical}
use Rattle.rules.specs.declared.step.Step.{Step}
use Rattle.rules.proofs.Scripts.{create, sync, finish, set, add, run, deliver, move}

abbrev pub sums_plan : Plan
sums_plan = canonical ((create 2 ∷ set 65535 ∷ add 0 ∷ sync ∷ finish ∷ []) ∷ (set 65535 ∷ add 1 ∷ finish ∷ []) ∷ [])

-- the child is on its way while it is to add, so that its run is refused
abbrev pub sums_before : List Step
sums_before = run 1 ∷ run 2 ∷ move 2 2 ∷ run 2 ∷ []

abbrev pub sums_all : List Step
sums_all =
    run 1 ∷ run 2 ∷ move 2 2 ∷ run 2 ∷ deliver 1 ∷ run 2 ∷ move 2 1 ∷ deliver 1 ∷ run 2 ∷ run 1 ∷ run 1 ∷ run 1 ∷ run 1 ∷ []
