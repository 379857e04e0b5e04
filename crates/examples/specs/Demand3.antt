-- A plan of five tasks, and steps that bring it to rest on three desks: the sender of channel 83 is on its way while its offers are, and its
-- second word wraps on level 2.
use Rattle.std.specs.Prelude.{List, [], ◌∷◌}
use Rattle.plan.specs.declared.Plan.{Plan}
use Rattle.plan.specs.declared.ChannelId.{ChannelId}
use Rattle.plan.specs.Kinds.{op_set, op_add}
use Rattle.plan.specs.Numbers.{channel_id}
use Rattle.plan.specs.Programs.{Programs, canonical}
use Rattle.plan.proofs.Edges.{does_on}
use Rattle.rules.specs.declared.step.Step.{Step}
use Rattle.rules.proofs.Scripts.{create, sync, finish, send, receive, run, deliver, move}

abbrev pub example_programs : Programs
example_programs =
    (create 2 ∷ create 3 ∷ create 4 ∷ create 5 ∷ sync ∷ finish ∷ [])
    ∷ (finish ∷ [])
    ∷ (receive 83 ∷ receive 83 ∷ receive 83 ∷ finish ∷ [])
    ∷ (does_on 2 op_set 33057 ∷ send 83 ∷ does_on 2 op_add 37657 ∷ send 83 ∷ send 83 ∷ finish ∷ [])
    ∷ (finish ∷ [])
    ∷ []

abbrev pub example_plan : Plan
example_plan = canonical example_programs

-- the first word passes directly; the second, offered from another desk, by letters. Task 1 moves while its four children live, and waits for them
-- at desk 1: their ended letters follow it
abbrev pub example_before : List Step
example_before =
    move 1 3 ∷ deliver 1 ∷ run 1 ∷ run 1 ∷ run 3 ∷ run 1 ∷ run 4 ∷ run 4 ∷ run 4 ∷ run 1 ∷ move 1 1 ∷ run 5 ∷ deliver 2 ∷ deliver 1 ∷ run 1 ∷ run 2
    ∷ deliver 1 ∷ move 4 2 ∷ deliver 1 ∷ run 3 ∷ run 4 ∷ deliver 1 ∷ deliver 1 ∷ deliver 1 ∷ []

abbrev pub example_all : List Step
example_all =
    move 1 3 ∷ deliver 1 ∷ run 1 ∷ run 1 ∷ run 3 ∷ run 1 ∷ run 4 ∷ run 4 ∷ run 4 ∷ run 1 ∷ move 1 1 ∷ run 5 ∷ deliver 2 ∷ deliver 1 ∷ run 1 ∷ run 2
    ∷ deliver 1 ∷ move 4 2 ∷ deliver 1 ∷ run 3 ∷ run 4 ∷ deliver 1 ∷ deliver 1 ∷ deliver 1 ∷ run 3 ∷ move 4 2 ∷ run 4 ∷ deliver 1 ∷ deliver 1
    ∷ move 4 3 ∷ deliver 1 ∷ run 3 ∷ deliver 1 ∷ run 4 ∷ deliver 1 ∷ deliver 1 ∷ run 1 ∷ []

abbrev pub example_channel : ChannelId
example_channel = channel_id 83
