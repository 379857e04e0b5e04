-- Two plans that differ only in the argument of a set: task 1 adds 1 to 65,535, which goes over the top, or to 7; and steps on two desks by which
-- its word reaches task 2, by letters. At the end both tasks are done.
use Rattle.std.specs.Prelude.{List, [], ◌∷◌, ℕ}
use Rattle.plan.specs.declared.ChannelId.{ChannelId}
use Rattle.plan.specs.declared.Plan.{Plan}
use Rattle.plan.specs.Numbers.{channel_id}
use Rattle.plan.specs.Programs.{Programs, canonical}
use Rattle.rules.specs.declared.step.Step.{Step}
use Rattle.rules.proofs.Scripts.{create, sync, finish, send, receive, set, add, run, deliver, move}

abbrev level_programs : ℕ → Programs
level_programs n = (create 2 ∷ set n ∷ add 1 ∷ send 83 ∷ sync ∷ finish ∷ []) ∷ (receive 83 ∷ finish ∷ []) ∷ []

abbrev pub high_plan : Plan
high_plan = canonical (level_programs 65535)

abbrev pub low_plan : Plan
low_plan = canonical (level_programs 7)

abbrev pub level_steps : List Step
level_steps =
    run 1 ∷ move 2 2 ∷ deliver 1 ∷ run 2 ∷ run 1 ∷ run 1 ∷ run 1 ∷ run 1 ∷ deliver 1 ∷ deliver 1 ∷ deliver 1 ∷ run 2 ∷ deliver 1 ∷ run 1 ∷ run 1 ∷ []

abbrev pub level_channel : ChannelId
level_channel = channel_id 83
