-- A plan in which each stuck state occurs, and the worked plan, which finishes; steps that bring each to rest on one desk, and on two with moves.
use Rattle.std.specs.Prelude.{List, [], ◌∷◌}
use Rattle.plan.specs.declared.Plan.{Plan}
use Rattle.plan.specs.Programs.{canonical}
use Rattle.rules.specs.declared.step.Step.{Step}
use Rattle.rules.proofs.Scripts.{create, sync, finish, send, receive, set, add, run, deliver, move}

-- 1 waits, 2 stands before a finish that 12 refuses, 3 is sending, 4 and 5 are receiving: those three wait for each other
abbrev pub stuck_plan : Plan
stuck_plan =
    canonical
    ((create 2 ∷ create 3 ∷ create 4 ∷ sync ∷ finish ∷ []) ∷ (create 5 ∷ finish ∷ []) ∷ (set 7 ∷ send 1 ∷ send 3 ∷ finish ∷ [])
    ∷ (receive 2 ∷ receive 1 ∷ finish ∷ []) ∷ (receive 3 ∷ send 2 ∷ finish ∷ []) ∷ [])

-- the sixth step is refused
abbrev pub stuck_still : List Step
stuck_still = run 1 ∷ run 1 ∷ run 1 ∷ run 1 ∷ run 2 ∷ run 2 ∷ run 3 ∷ run 3 ∷ run 4 ∷ run 5 ∷ []

-- tasks 4 and 2 go to desk 2, and an offer follows task 4
abbrev pub stuck_moving : List Step
stuck_moving =
    run 1 ∷ run 1 ∷ run 1 ∷ move 4 2 ∷ deliver 1 ∷ run 4 ∷ run 2 ∷ move 2 2 ∷ run 5 ∷ run 3 ∷ run 3 ∷ deliver 1 ∷ deliver 1 ∷ run 1 ∷ []

abbrev pub ending_plan : Plan
ending_plan = canonical ((create 2 ∷ set 7 ∷ send 3 ∷ sync ∷ finish ∷ []) ∷ (receive 3 ∷ add 1 ∷ finish ∷ []) ∷ [])

abbrev pub ending_still : List Step
ending_still = run 1 ∷ run 1 ∷ run 1 ∷ run 2 ∷ run 1 ∷ run 2 ∷ run 2 ∷ run 1 ∷ []

abbrev pub ending_moving : List Step
ending_moving =
    run 1 ∷ run 1 ∷ move 2 2 ∷ run 1 ∷ deliver 2 ∷ deliver 1 ∷ run 2 ∷ deliver 1 ∷ deliver 1 ∷ run 2 ∷ run 2 ∷ run 1 ∷ deliver 1 ∷ run 1 ∷ []
