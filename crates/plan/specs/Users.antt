-- Which tasks have an instruction of a kind with an argument, and what follows: a channel's ends, a task's parent.
use Rattle.std.specs.Prelude.{ℕ, suc, Bool, true, false, List, [], ◌∷◌, length, nat_eq, nat_lt}
use Rattle.base.specs.Choice.{pick}
use Rattle.base.specs.Range.{joined}
use Rattle.base.specs.Lists.{every, any}
use Rattle.plan.specs.declared.TaskId.{TaskId}
use Rattle.plan.specs.declared.ChannelId.{ChannelId}
use Rattle.plan.specs.Numbers.{task_id}
use Rattle.plan.specs.Kinds.{op_create, op_send, op_receive, is_use}
use Rattle.plan.specs.Programs.{Program, Programs, program_at, instruction_at}

-- the number t, once for each instruction of kind k with argument a in the program g
abbrev pub uses_in : ℕ → ℕ → ℕ → Program → List ℕ
uses_in k a t g = joined (length g) (λ i. pick (is_use k a (instruction_at g i)) (t ∷ []) [])

-- for each instruction of kind k with argument a, in order, the number of its task
unfoldable pub users : Programs → ℕ → ℕ → List ℕ
users m k a = joined (length m) (λ j. uses_in k a (suc j) (program_at m j))

-- the first of some task numbers, 0 if there is none
abbrev pub first_of : List ℕ → ℕ
first_of [] = 0
first_of (t ∷ ts) = t

-- they are all of one task
abbrev pub one_task : List ℕ → Bool
one_task [] = true
one_task (t ∷ ts) = every (nat_eq t) ts

-- a task is among both
abbrev pub share : List ℕ → List ℕ → Bool
share ss rs = any (λ s. any (nat_eq s) rs) ss

-- just one of two ends has a task
abbrev pub one_end : List ℕ → List ℕ → Bool
one_end [] [] = false
one_end [] (r ∷ rs) = true
one_end (s ∷ ss) [] = true
one_end (s ∷ ss) (r ∷ rs) = false

-- there is exactly one, and it is lower than u
abbrev pub only_lower : ℕ → List ℕ → Bool
only_lower u [] = false
only_lower u (t ∷ []) = nat_lt t u
only_lower u (t ∷ s ∷ ts) = false

-- channel c's sender and receiver and task u's parent, in a plan that is accepted; 0 if there is none
abbrev pub sender_of : Programs → ChannelId → TaskId
sender_of m c = task_id (first_of (users m op_send c.0))

abbrev pub receiver_of : Programs → ChannelId → TaskId
receiver_of m c = task_id (first_of (users m op_receive c.0))

abbrev pub parent_of : Programs → TaskId → TaskId
parent_of m u = task_id (first_of (users m op_create u.0))
