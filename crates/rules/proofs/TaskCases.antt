-- Cases of tasks, of what is kept of two, of births and moves, and of the mail.
use mathlib.Core.Path.{◌≡◌, refl}
use mathlib.Core.Bool.{true, false}
use mathlib.Core.List.{[], ◌∷◌}
use lib.ListN.{replicate}
use Rattle.plan.specs.declared.ProcessorId.{ProcessorId}
use Rattle.rules.specs.declared.channel.Cell.{Cell}
use Rattle.rules.specs.declared.message.Message.{Message}
use Rattle.rules.specs.declared.message.Message.TheVariants.{Empty, Advert}
use Rattle.rules.specs.declared.rule.Posting.TheVariants.{Adverts}
use Rattle.rules.specs.declared.system.System.{System}
use Rattle.rules.specs.Numbers.{task_id, channel_id, no_processor}
use Rattle.rules.specs.Tasks.{departed}
use Rattle.rules.specs.Cells.{hint, offer, newer, larger, with_hint, with_held, with_noted, with_granted, with_carried, with_travelling, carrying, holding, noting}
use Rattle.rules.specs.Networks.{messages, message_at, enqueued_all, dequeued, messages_of}
use Rattle.rules.specs.Systems.{entry_at, channel_at, with_cell}
use Rattle.rules.specs.Arrivals.{taken_over, arrival_receiving, arrival_sending}
use Rattle.rules.specs.Moves.{departure_sending}
use Rattle.rules.specs.Steps.{ruled_steps, quiescent}
use Rattle.rules.specs.StepFiles.{steps_ok}
use Rattle.rules.proofs.Scripts.{create, finish, send, receive, run, deliver, move, start_on}
use Rattle.rules.specs.Starts.{blank}
use Rattle.rules.specs.Deliver.{got_migration}
use Rattle.rules.proofs.Sites.{processor, one, empty, born_at, small, crowded}
use Rattle.rules.proofs.Evaluated.{evaluated}

-- "of equals the desk's own stays"; "the larger number is kept, of equals the earlier"
own_stays : (d e : ProcessorId) → newer (hint d 5) (hint e 5) ≡ hint d 5
unfolding evaluated
own_stays d e = refl

earlier_stays : (d e : ProcessorId) → larger (offer d 5) (offer e 5) ≡ offer d 5
unfolding evaluated
earlier_stays d e = refl

larger_kept : (d e : ProcessorId) → larger (offer d 5) (offer e 6) ≡ offer e 6
unfolding evaluated
larger_kept d e = refl

-- a held or carried offer is kept beside a smaller one, a note beside a later advert
held_kept : (d e : ProcessorId) (x : Cell) → holding (with_held x (offer d 5)) (offer e 4) ≡ with_held x (offer d 5)
unfolding evaluated
held_kept d e x = refl

carried_kept : (d e : ProcessorId) (x : Cell) → carrying (with_carried x (offer d 5)) (offer e 4) ≡ with_carried x (offer d 5)
unfolding evaluated
carried_kept d e x = refl

note_kept : (x : Cell) → noting (with_noted x (processor 2)) (processor 3) ≡ with_noted x (processor 2)
unfolding evaluated
note_kept x = refl

-- a departure and an arrival, of the record
departs : (departed (born_at (processor 1))).moves ≡ 2
departs = refl

-- arrival of a receiver: the pointer, and the held offer that counts or not
receiver_arrives_lem : arrival_receiving (processor 2) 3 (with_granted (with_held empty (offer (processor 1) 5)) 4)
    ≡ with_hint (with_granted (with_carried empty (offer (processor 1) 5)) 4) (hint (processor 2) 3)
unfolding evaluated
receiver_arrives_lem = refl

held_dropped : taken_over (with_granted (with_held empty (offer (processor 1) 5)) 5) ≡ with_granted empty 5
unfolding evaluated
held_dropped = refl

-- a carried offer that is larger stays
held_smaller : taken_over (with_carried (with_held empty (offer (processor 1) 4)) (offer (processor 3) 5)) ≡ with_carried empty (offer (processor 3) 5)
unfolding evaluated
held_smaller = refl

-- the pointer of an arrival is set, also over a larger count
set_over : arrival_receiving (processor 2) 3 (with_hint empty (hint (processor 4) 9)) ≡ with_hint empty (hint (processor 2) 3)
unfolding evaluated
set_over = refl

-- a sender leaves and arrives: its pointer travels; it does not replace a newer one
sender_leaves : departure_sending (with_hint empty (hint (processor 2) 3)) ≡ with_travelling (with_hint empty (hint (processor 2) 3)) (hint (processor 2) 3)
unfolding evaluated
sender_leaves = refl

sender_arrives_lem : arrival_sending (with_travelling empty (hint (processor 2) 3)) ≡ with_hint empty (hint (processor 2) 3)
unfolding evaluated
sender_arrives_lem = refl

sender_behind : arrival_sending (with_travelling (with_hint empty (hint (processor 4) 5)) (hint (processor 2) 3)) ≡ with_hint empty (hint (processor 4) 5)
unfolding evaluated
sender_behind = refl

-- on two desks, task 1 receives on channel 1: at the start, after a move to desk 2, after its arrival
abbrev mover : System
mover = start_on 2 ((receive 1 ∷ create 2 ∷ finish ∷ []) ∷ (send 1 ∷ finish ∷ []) ∷ [])

start_pointer : (entry_at mover (processor 1) one).hint ≡ hint (processor 1) 1
unfolding evaluated
start_pointer = refl

moved_pointer : (entry_at (ruled_steps mover (move 1 2 ∷ [])).system (processor 1) one).hint ≡ hint (processor 2) 2
unfolding evaluated
moved_pointer = refl

-- on its way, nothing can run, but there is a letter
moving_rest : quiescent (ruled_steps mover (move 1 2 ∷ [])).system ≡ false
unfolding evaluated
moving_rest = refl

arrived_pointer : (entry_at (ruled_steps mover (move 1 2 ∷ deliver 1 ∷ [])).system (processor 2) one).hint ≡ hint (processor 2) 2
unfolding evaluated
arrived_pointer = refl

-- the last channel, at both ends: the pointer of a start; a pointer that travels, and another channel's that stays
last_received : (entry_at (start_on 2 ((receive 128 ∷ create 2 ∷ finish ∷ []) ∷ (send 128 ∷ finish ∷ []) ∷ [])) (processor 1) (channel_id 128)).hint ≡ hint (processor 1) 1
unfolding evaluated
last_received = refl

abbrev sender : System
sender =
    let r = start_on 2 ((send 128 ∷ create 2 ∷ finish ∷ []) ∷ (receive 128 ∷ finish ∷ []) ∷ []) in
    with_cell (with_cell r (processor 1) (channel_id 128) (with_hint empty (hint (processor 2) 3))) (processor 1) (channel_id 2) (with_travelling empty (hint (processor 2) 4))

last_sent : (channel_at (ruled_steps sender (move 1 2 ∷ [])).system (channel_id 128)).travelling ≡ hint (processor 2) 3
unfolding evaluated
last_sent = refl

last_arrived : (entry_at (ruled_steps sender (move 1 2 ∷ deliver 1 ∷ [])).system (processor 2) (channel_id 128)).hint ≡ hint (processor 2) 3
unfolding evaluated
last_arrived = refl

other_travels : (channel_at (ruled_steps sender (move 1 2 ∷ deliver 1 ∷ [])).system (channel_id 2)).travelling ≡ hint (processor 2) 4
unfolding evaluated
other_travels = refl

-- a mover letter for a task that is not moving has no effect
idle_mover : got_migration small (processor 2) (task_id 1) ≡ small
unfolding evaluated small
idle_mover = refl

-- "called becomes that send's number": the first of two sends
that_send : (channel_at (ruled_steps (start_on 1 ((create 2 ∷ send 1 ∷ send 1 ∷ finish ∷ []) ∷ (receive 1 ∷ finish ∷ []) ∷ [])) (run 1 ∷ run 1 ∷ run 2 ∷ [])).system one).granted ≡ 1
unfolding evaluated
that_send = refl

-- and the offer that the receiver then carries has its number
that_offer : (channel_at (ruled_steps (start_on 1 ((create 2 ∷ send 1 ∷ send 1 ∷ finish ∷ []) ∷ (receive 1 ∷ finish ∷ []) ∷ [])) (run 1 ∷ run 1 ∷ [])).system one).carried ≡ offer (processor 1) 1
unfolding evaluated
that_offer = refl

-- the last entry of desk 1 and the first of desk 2 are two entries
entries_apart : (entry_at (with_cell small (processor 1) (channel_id 128) (with_noted empty (processor 1))) (processor 2) one).noted ≡ no_processor
unfolding evaluated small
entries_apart = refl

-- "an advert to every other desk in rising order"
adverts : messages_of 3 (Adverts one (processor 2)) ≡ Advert one (processor 1) (processor 2) ∷ Advert one (processor 3) (processor 2) ∷ []
unfolding evaluated
adverts = refl

-- "Letters join the mail's end; taking one closes the gap.": three letters, without the second; and the empty mail again
abbrev message : ProcessorId → ProcessorId → Message
message d e = Advert one d e

taken_second : messages (dequeued (enqueued_all small.network (message (processor 1) (processor 2) ∷ message (processor 2) (processor 3) ∷ message (processor 3) (processor 4) ∷ [])) 2)
    ≡ message (processor 1) (processor 2) ∷ message (processor 3) (processor 4) ∷ []
unfolding evaluated small
taken_second = refl

taken_only : dequeued (enqueued_all small.network (message (processor 1) (processor 2) ∷ [])) 1 ≡ small.network
unfolding evaluated small
taken_only = refl

-- the last of 256 letters: the slot that it leaves is empty
taken_last : message_at (dequeued (crowded 256 small).network 256) 256 ≡ Empty
unfolding evaluated crowded small
taken_last = refl

taken_count : (dequeued (crowded 256 small).network 256).used ≡ 255
unfolding evaluated crowded small
taken_count = refl

-- a rig whose task can run is not at rest
ready_rest : quiescent small ≡ false
unfolding evaluated small
ready_rest = refl

-- a rig that 9 refuses runs nothing, so without letters it is at rest
refused_rest : quiescent (blank 7 small.plan) ≡ true
unfolding evaluated small
refused_rest = refl

-- "8, .. over 2,000 steps"
steps_2000 : steps_ok (replicate 8000 0) ≡ true
unfolding evaluated
steps_2000 = refl

steps_2001 : steps_ok (replicate 8004 0) ≡ false
unfolding evaluated
steps_2001 = refl
