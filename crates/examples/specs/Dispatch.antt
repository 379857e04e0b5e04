-- Steps and calls, mixed: of the paper's worked plan, and of a plan whose first task has two children.
use Rattle.std.specs.Prelude.{List, [], ◌∷◌, ℕ}
use Rattle.plan.specs.declared.Plan.{Plan}
use Rattle.plan.specs.Programs.{canonical}
use Rattle.plan.specs.Files.{file_programs}
use Rattle.plan.proofs.Edges.{worked}
use Rattle.rules.specs.declared.step.Step.{Step}
use Rattle.rules.specs.Numbers.{processor_id}
use Rattle.rules.proofs.Scripts.{create, finish, run, deliver, move}
use Rattle.claim.specs.Events.{Event, ordinary, call}

-- a call at desk d
abbrev pub call_at : ℕ → Event
call_at d = call (processor_id d)

-- the worked plan on two desks: its receiver moves to the second, and calls do the rest
abbrev pub worked_plan : Plan
worked_plan = canonical (file_programs worked)

abbrev pub worked_events : List Event
worked_events =
    ordinary (run 1) ∷ call_at 1 ∷ ordinary (move 2 2) ∷ call_at 1 ∷ call_at 2 ∷ call_at 1 ∷ call_at 2 ∷ call_at 1 ∷ call_at 2 ∷ call_at 1 ∷ call_at 2 ∷ call_at 1 ∷ []

-- the steps made: two calls at desk 1 find nothing to do
abbrev pub worked_steps : List Step
worked_steps =
    run 1 ∷ run 1 ∷ move 2 2 ∷ run 1 ∷ deliver 1 ∷ run 2 ∷ deliver 1 ∷ deliver 1 ∷ run 1 ∷ deliver 1 ∷ run 2 ∷ run 2 ∷ deliver 1 ∷ run 1 ∷ []

-- task 1 creates 2 and 3 and finishes; all three are ready at desk 1 when both are born
abbrev pub family_plan : Plan
family_plan = canonical ((create 2 ∷ create 3 ∷ finish ∷ []) ∷ (finish ∷ []) ∷ (finish ∷ []) ∷ [])

abbrev pub both_born : List Event
both_born = ordinary (run 1) ∷ ordinary (run 1) ∷ []

-- three calls at desk 1, with others between
abbrev pub three_calls : List Event
three_calls = call_at 1 ∷ call_at 2 ∷ call_at 1 ∷ ordinary (run 7) ∷ call_at 1 ∷ []

-- both children are on their way to desk 2, and it is called twice
abbrev pub both_moving : List Event
both_moving = ordinary (run 1) ∷ ordinary (run 1) ∷ ordinary (move 2 2) ∷ ordinary (move 3 2) ∷ []

abbrev pub two_calls : List Event
two_calls = call_at 2 ∷ call_at 1 ∷ call_at 2 ∷ []
