-- Rigs in which two tasks at different desks may run next: both post letters, a finish and a create meet, the two ends of a channel meet.
use Rattle.std.specs.Prelude.{List, [], ◌∷◌}
use Rattle.plan.specs.declared.Plan.{Plan}
use Rattle.plan.specs.Programs.{canonical}
use Rattle.rules.specs.declared.message.Message.{Message}
use Rattle.rules.specs.declared.message.Message.TheVariants.{Advert, Terminated, Migration, Offered}
use Rattle.rules.specs.declared.step.Step.{Step}
use Rattle.rules.specs.Numbers.{task_id, processor_id, channel_id}
use Rattle.rules.specs.Cells.{hint, offer}
use Rattle.rules.proofs.Scripts.{create, sync, finish, send, receive, run, deliver, move}

-- tasks 2 and 3, at desks 2 and 3 of three, are to send to task 4, of which their desks know nothing: it was created after they left, and is on its way
abbrev pub senders_plan : Plan
senders_plan =
    canonical
    ((create 2 ∷ create 3 ∷ create 4 ∷ sync ∷ finish ∷ [])
    ∷ (send 1 ∷ finish ∷ [])
    ∷ (send 2 ∷ finish ∷ [])
    ∷ (receive 1 ∷ receive 2 ∷ finish ∷ [])
    ∷ [])

abbrev pub senders_before : List Step
senders_before = run 1 ∷ run 1 ∷ move 2 2 ∷ move 3 3 ∷ deliver 1 ∷ deliver 1 ∷ run 1 ∷ move 4 2 ∷ []

-- the letter in the mail, and the adverts of each
abbrev pub senders_mail : List Message
senders_mail = Migration (processor_id 2) (task_id 4) ∷ []

abbrev pub adverts2 : List Message
adverts2 = Advert (channel_id 1) (processor_id 1) (processor_id 2) ∷ Advert (channel_id 1) (processor_id 3) (processor_id 2) ∷ []

abbrev pub adverts3 : List Message
adverts3 = Advert (channel_id 2) (processor_id 1) (processor_id 3) ∷ Advert (channel_id 2) (processor_id 2) (processor_id 3) ∷ []

-- task 2, at desk 2, is to finish, and its parent, at desk 1, to create task 3
abbrev pub family_plan : Plan
family_plan = canonical ((create 2 ∷ create 3 ∷ sync ∷ finish ∷ []) ∷ (finish ∷ []) ∷ (finish ∷ []) ∷ [])

abbrev pub family_before : List Step
family_before = run 1 ∷ move 2 2 ∷ deliver 1 ∷ []

abbrev pub ended2 : List Message
ended2 = Terminated (hint (processor_id 1) 1) (task_id 2) ∷ []

-- task 2, at desk 2, is to send to task 3, which is to receive at desk 1
abbrev pub ends_plan : Plan
ends_plan = canonical ((create 2 ∷ create 3 ∷ sync ∷ finish ∷ []) ∷ (send 1 ∷ finish ∷ []) ∷ (receive 1 ∷ finish ∷ []) ∷ [])

abbrev pub ends_before : List Step
ends_before = run 1 ∷ run 1 ∷ move 2 2 ∷ deliver 1 ∷ []

abbrev pub offer2 : List Message
offer2 = Offered (channel_id 1) (offer (processor_id 2) 1) (hint (processor_id 1) 1) ∷ []
