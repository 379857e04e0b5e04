-- A plan with repeats: a sender that sends and adds three times, and its receiver; and a run of it to rest. A plan without repeats.
use Rattle.std.specs.Prelude.{Bool, true, ◌&&◌, List, [], ◌∷◌, ℕ}
use Rattle.plan.specs.Kinds.{op_create, op_sync, op_finish, op_send, op_receive, op_set, op_add}
use Rattle.plan.specs.Layout.{layout}
use Rattle.plan.specs.Numbers.{task_id, channel_id}
use Rattle.plan.specs.Programs.{Programs}
use Rattle.plan.specs.Repeats.{op_repeat, op_repeat_end}
use Rattle.plan.proofs.Edges.{does}
use Rattle.net.specs.Guards.{enabled}
use Rattle.net.specs.Labels.{Label, own, pass}
use Rattle.repeats.specs.Machine.{Repeated, repeat_effect}

abbrev pub repeat_programs : Programs
repeat_programs =
    (does op_create 2 ∷ does op_set 7 ∷ does op_repeat 3 ∷ does op_send 3 ∷ does op_add 1 ∷ does op_repeat_end 0 ∷ does op_sync 0 ∷ does op_finish 0 ∷ [])
    ∷ (does op_repeat 3 ∷ does op_receive 3 ∷ does op_repeat_end 0 ∷ does op_finish 0 ∷ [])
    ∷ []

-- its file
abbrev pub repeat_file : List ℕ
repeat_file = layout repeat_programs

-- a sender and its receiver without a repeat
abbrev pub plain_programs : Programs
plain_programs =
    (does op_create 2 ∷ does op_set 7 ∷ does op_send 3 ∷ does op_finish 0 ∷ [])
    ∷ (does op_receive 3 ∷ does op_finish 0 ∷ [])
    ∷ []

abbrev pub plain_file : List ℕ
plain_file = layout plain_programs

-- task 1 or 2 does an instruction of its own, or a word passes channel 3
abbrev one : Label
one = own (task_id 1)

abbrev two : Label
two = own (task_id 2)

abbrev word : Label
word = pass (channel_id 3)

-- from the start to rest: after three words task 2 leaves its repeat and is done, and then task 1
abbrev pub repeat_labels : List Label
repeat_labels =
    one ∷ one ∷ one ∷ two ∷ word ∷ one ∷ one ∷ two ∷ word ∷ one ∷ two ∷ one ∷ word ∷ one ∷ one ∷ two ∷ two ∷ one ∷ one ∷ []

-- the state after some labels, and whether each could be taken
unfoldable pub after : Programs → Repeated → List Label → Repeated
after m s [] = s
after m s (l ∷ ls) = after m (repeat_effect m s l) ls

unfoldable pub taken : Programs → Repeated → List Label → Bool
taken m s [] = true
taken m s (l ∷ ls) = enabled m s.net l && taken m (repeat_effect m s l) ls
