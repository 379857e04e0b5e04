-- A plan in which task 1 sends two words, and steps on two desks: the first word passes directly, then the receiver moves, and the second is called
-- for. At the end both tasks are done.
use Rattle.std.specs.Prelude.{List, [], ◌∷◌, ◌++◌}
use Rattle.plan.specs.declared.Plan.{Plan}
use Rattle.plan.specs.Programs.{canonical}
use Rattle.rules.specs.declared.step.Step.{Step}
use Rattle.rules.proofs.Scripts.{create, sync, finish, send, receive, set, add, run, deliver, move}

abbrev pub words_plan : Plan
words_plan = canonical ((create 2 ∷ set 7 ∷ send 3 ∷ add 1 ∷ send 3 ∷ sync ∷ finish ∷ []) ∷ (receive 3 ∷ receive 3 ∷ finish ∷ []) ∷ [])

-- to the delivery of the call: the offer follows the pointer of the desk that the receiver left
abbrev pub words_before : List Step
words_before = run 1 ∷ run 1 ∷ run 2 ∷ run 1 ∷ move 2 2 ∷ deliver 1 ∷ run 1 ∷ run 1 ∷ run 2 ∷ deliver 1 ∷ deliver 1 ∷ []

-- the word, the finish of the receiver, its ended letter, and the rest of the sender
abbrev pub words_all : List Step
words_all = words_before ++ (deliver 1 ∷ run 2 ∷ deliver 1 ∷ run 1 ∷ run 1 ∷ [])
