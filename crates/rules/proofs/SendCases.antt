-- Each way of a send and of a receive: the sender is at desk 1, the receiver at desk 1 or 2, and the send is the fifth.
use mathlib.Core.Path.{◌≡◌, refl}
use mathlib.Core.Bool.{true, false}
use mathlib.Core.List.{[], ◌∷◌}
use Rattle.std.specs.Prelude.{Some}
use Rattle.rules.specs.declared.task.TaskState.TheVariants.{Receiving}
use Rattle.rules.specs.declared.message.Message.TheVariants.{Offered, ReadyToReceive}
use Rattle.rules.specs.declared.rule.Posting.TheVariants.{Nothing, Single, Adverts}
use Rattle.rules.specs.Numbers.{channel_id}
use Rattle.rules.specs.Tasks.{with_state, with_pc, advanced, taking}
use Rattle.rules.specs.Cells.{hint, offer, with_hint, with_held, with_noted, with_granted, with_awaiting, with_carried}
use Rattle.rules.specs.Places.{send_number}
use Rattle.rules.specs.Send.{send_rule, send_waits}
use Rattle.rules.specs.Receive.{receive_rule, receive_waits}
use Rattle.rules.proofs.Scripts.{send, receive, set, finish}
use Rattle.rules.proofs.Sites.{processor, one, seven, empty, talker, listener, site}
use Rattle.rules.proofs.Evaluated.{evaluated}

-- the receiver is here and receives: the word passes, and the number called becomes 5
send_passes_lem : send_rule (site false 1 true empty) one 5
    ≡ record { sender = advanced (talker false); receiver = taking (listener 1) seven; cell = with_granted empty 5; posting = Nothing; received = Some (one, seven) }
unfolding evaluated
send_passes_lem = refl

-- a carried offer stays
send_keeps_carried : (send_rule (site false 1 true (with_carried empty (offer (processor 3) 9))) one 5).cell ≡ with_granted (with_carried empty (offer (processor 3) 9)) 5
unfolding evaluated
send_keeps_carried = refl

-- it has called: it carries the offer
send_called : send_rule (site false 1 true (with_awaiting empty true)) one 5
    ≡ send_waits (site false 1 true empty) (with_carried (with_awaiting empty true) (offer (processor 1) 5)) Nothing
unfolding evaluated
send_called = refl

-- it is here and does not receive on this channel: the same
send_carried_lem : send_rule (site false 1 false empty) one 5 ≡ send_waits (site false 1 false empty) (with_carried empty (offer (processor 1) 5)) Nothing
unfolding evaluated
send_carried_lem = refl

-- it is elsewhere: pointer unknown, naming this desk, naming another
send_unknown : send_rule (site false 2 true empty) one 5 ≡ send_waits (site false 2 true empty) empty (Adverts one (processor 1))
unfolding evaluated
send_unknown = refl

send_held_lem : send_rule (site false 2 true (with_hint empty (hint (processor 1) 4))) one 5
    ≡ send_waits (site false 2 true empty) (with_held (with_hint empty (hint (processor 1) 4)) (offer (processor 1) 5)) Nothing
unfolding evaluated
send_held_lem = refl

send_posted_lem : send_rule (site false 2 true (with_hint empty (hint (processor 3) 4))) one 5
    ≡ send_waits (site false 2 true empty) (with_hint empty (hint (processor 3) 4)) (Single (Offered one (offer (processor 1) 5) (hint (processor 3) 4)))
unfolding evaluated
send_posted_lem = refl

-- the sender then: it has executed the send
send_waiting : (send_waits (site false 1 false empty) empty Nothing).sender ≡ with_pc (talker true) 2
unfolding evaluated
send_waiting = refl

-- the sender is here and sends: the word passes, the number called becomes 5, a carried offer is dropped
receive_passes_lem : receive_rule (site true 1 false (with_carried empty (offer (processor 1) 5))) one 5
    ≡ record { sender = talker false; receiver = advanced (taking (listener 1) seven); cell = with_granted empty 5; posting = Nothing; received = Some (one, seven) }
unfolding evaluated
receive_passes_lem = refl

-- a note stays, a mark is cleared
receive_keeps_note : (receive_rule (site true 1 false (with_awaiting (with_noted empty (processor 3)) true)) one 5).cell ≡ with_granted (with_noted empty (processor 3)) 5
unfolding evaluated
receive_keeps_note = refl

-- it waits: it has executed the receive
receive_waiting : (receive_waits (site false 1 false empty) empty Nothing).receiver ≡ with_pc (with_state (listener 1) Receiving) 2
unfolding evaluated
receive_waiting = refl

-- it sends elsewhere, or does not send on this channel
receive_elsewhere : receive_rule (site true 2 false empty) one 5 ≡ receive_waits (site true 2 false empty) empty Nothing
unfolding evaluated
receive_elsewhere = refl

receive_waits_lem : receive_rule (site false 1 false empty) one 5 ≡ receive_waits (site false 1 false empty) empty Nothing
unfolding evaluated
receive_waits_lem = refl

-- a receive that waits leaves the mark
receive_marked : (receive_rule (site false 1 false (with_awaiting empty true)) one 5).cell ≡ with_awaiting empty true
unfolding evaluated
receive_marked = refl

-- a carried offer that counts is answered before a note
receive_carried : receive_rule (site false 2 false (with_noted (with_carried empty (offer (processor 1) 1)) (processor 3))) one 5
    ≡ receive_waits (site false 2 false empty) (with_awaiting (with_granted (with_noted empty (processor 3)) 1) true) (Single (ReadyToReceive one (processor 1) (hint (processor 2) 3)))
unfolding evaluated
receive_carried = refl

-- one that does not count stays
receive_stale : receive_rule (site false 2 false (with_granted (with_carried empty (offer (processor 1) 1)) 1)) one 5
    ≡ receive_waits (site false 2 false empty) (with_granted (with_carried empty (offer (processor 1) 1)) 1) Nothing
unfolding evaluated
receive_stale = refl

-- a note is answered where none was called, and only there
receive_noted : receive_rule (site false 2 false (with_noted empty (processor 1))) one 5
    ≡ receive_waits (site false 2 false empty) (with_awaiting (with_granted empty 1) true) (Single (ReadyToReceive one (processor 1) (hint (processor 2) 3)))
unfolding evaluated
receive_noted = refl

receive_noted_late : receive_rule (site false 2 false (with_noted (with_granted empty 1) (processor 1))) one 5
    ≡ receive_waits (site false 2 false empty) (with_noted (with_granted empty 1) (processor 1)) Nothing
unfolding evaluated
receive_noted_late = refl

-- "the sender's w-th on that channel"
own_channel : send_number (send 1 ∷ send 2 ∷ set 2 ∷ receive 2 ∷ send 2 ∷ send 2 ∷ finish ∷ []) (channel_id 2) 5 ≡ 2
unfolding evaluated
own_channel = refl
