-- Cases of the finish check: rigs at rest on one desk, and what is said of them.
use mathlib.Core.Path.{◌≡◌, refl}
use mathlib.Core.Bool.{true, false}
use mathlib.Core.List.{List, [], ◌∷◌}
use Prim.Native.Nat.{ℕ}
use Rattle.plan.specs.Programs.{Programs}
use Rattle.rules.specs.declared.step.Step.{Step}
use Rattle.rules.specs.declared.system.System.{System}
use Rattle.rules.specs.Numbers.{task_id}
use Rattle.rules.specs.Steps.{ruled_steps, quiescent}
use Rattle.rules.specs.Finish.{Stuck, verdict, stuck_list, finish_lines}
use Rattle.rules.proofs.Scripts.{create, sync, finish, send, receive, set, add, run, start_on}
use Rattle.rules.proofs.Evaluated.{evaluated}

-- a plan on one desk after these steps
abbrev after : Programs → List Step → System
after m ss = (ruled_steps (start_on 1 m) ss).system

-- task t depends on task u
abbrev on : ℕ → ℕ → Stuck
on t u = record { task = task_id t; on = task_id u }

-- the four states of a stuck task: 1 waits, 2 is ready at a finish that 12 refuses, 3 is sending, 4 and 5 are receiving
abbrev four_states : Programs
four_states =
    (create 2 ∷ create 3 ∷ create 4 ∷ sync ∷ finish ∷ []) ∷ (create 5 ∷ finish ∷ []) ∷ (set 7 ∷ send 1 ∷ send 3 ∷ finish ∷ [])
    ∷ (receive 2 ∷ receive 1 ∷ finish ∷ []) ∷ (receive 3 ∷ send 2 ∷ finish ∷ []) ∷ []

abbrev stuck : System
stuck = after four_states (run 1 ∷ run 1 ∷ run 1 ∷ run 1 ∷ run 2 ∷ run 2 ∷ run 3 ∷ run 3 ∷ run 4 ∷ run 5 ∷ [])

stuck_rests : quiescent stuck ≡ true
unfolding evaluated
stuck_rests = refl

stuck_verdict : verdict stuck ≡ false
unfolding evaluated
stuck_verdict = refl

stuck_each : stuck_list stuck ≡ on 1 2 ∷ on 2 5 ∷ on 3 4 ∷ on 4 5 ∷ on 5 3 ∷ []
unfolding evaluated
stuck_each = refl

-- `no 9`, `1 2`, `2 5`, `3 4`, `4 5`, `5 3`
stuck_lines : finish_lines stuck 9
    ≡ (110 ∷ 111 ∷ 32 ∷ 57 ∷ 10 ∷ []) ∷ (49 ∷ 32 ∷ 50 ∷ 10 ∷ []) ∷ (50 ∷ 32 ∷ 53 ∷ 10 ∷ []) ∷ (51 ∷ 32 ∷ 52 ∷ 10 ∷ [])
    ∷ (52 ∷ 32 ∷ 53 ∷ 10 ∷ []) ∷ (53 ∷ 32 ∷ 51 ∷ 10 ∷ []) ∷ []
unfolding evaluated
stuck_lines = refl

-- of two children the lower one is done: "its lowest living child" is the other
abbrev one_done : System
one_done =
    after ((create 2 ∷ create 3 ∷ sync ∷ send 1 ∷ finish ∷ []) ∷ (finish ∷ []) ∷ (receive 1 ∷ finish ∷ []) ∷ [])
    (run 1 ∷ run 1 ∷ run 1 ∷ run 2 ∷ run 3 ∷ [])

one_done_each : stuck_list one_done ≡ on 1 3 ∷ on 3 1 ∷ []
unfolding evaluated
one_done_each = refl

-- an unborn task is not listed, and may be depended on
abbrev one_unborn : System
one_unborn = after ((receive 1 ∷ create 2 ∷ finish ∷ []) ∷ (send 1 ∷ finish ∷ []) ∷ []) (run 1 ∷ [])

one_unborn_each : stuck_list one_unborn ≡ on 1 2 ∷ []
unfolding evaluated
one_unborn_each = refl

-- the worked plan comes to its end
abbrev ended : System
ended =
    after ((create 2 ∷ set 7 ∷ send 3 ∷ sync ∷ finish ∷ []) ∷ (receive 3 ∷ add 1 ∷ finish ∷ []) ∷ [])
    (run 1 ∷ run 1 ∷ run 1 ∷ run 2 ∷ run 1 ∷ run 2 ∷ run 2 ∷ run 1 ∷ [])

ended_verdict : verdict ended ≡ true
unfolding evaluated
ended_verdict = refl

-- `yes 8`
ended_lines : finish_lines ended 8 ≡ (121 ∷ 101 ∷ 115 ∷ 32 ∷ 56 ∷ 10 ∷ []) ∷ []
unfolding evaluated
ended_lines = refl
