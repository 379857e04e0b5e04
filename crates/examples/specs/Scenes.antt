-- Runs from a start with every line of their traces. Each tells the rules from some wrong rule; the lines agree with a model that was
-- written from the paper apart from these definitions.
use Rattle.std.specs.Prelude.{true, false, List, [], ◌∷◌}
use Rattle.rules.proofs.Scripts.{create, sync, finish, send, receive, set, add, raw, run, deliver, move, ok, word, refuses, Script}

-- an advert that is noted, and one that finds its receiver; the note no longer counts
abbrev pub notes_at_two_processors : Script
notes_at_two_processors =
    record {
      processors = 3;
      plan =
          (create 2 ∷ create 3 ∷ finish ∷ []) ∷ (set 7 ∷ send 1 ∷ finish ∷ []) ∷ (receive 1 ∷ receive 1 ∷ finish ∷ []) ∷ [];
      lines =
          ok (run 1) ∷ ok (run 2) ∷ ok (run 2) ∷ ok (run 1) ∷ ok (move 3 3) ∷ ok (deliver 1) ∷ ok (deliver 2) ∷ ok (run 3) ∷
          refuses 14 (deliver 2) ∷ ok (deliver 1) ∷ ok (deliver 1) ∷ word 1 7 (deliver 1) ∷ ok (move 3 2) ∷ ok (deliver 1) ∷ ok (run 3) ∷
          ok (run 2) ∷ [];
      rest = true;
      messages = 0;
    }

-- an offer held for a receiver on its way, and a second offer while the first word is under way
abbrev pub held_offer_word_late : Script
held_offer_word_late =
    record {
      processors = 2;
      plan =
          (create 2 ∷ create 3 ∷ finish ∷ []) ∷ (send 1 ∷ send 1 ∷ send 1 ∷ finish ∷ []) ∷ (receive 1 ∷ receive 1 ∷ finish ∷ []) ∷ [];
      lines =
          ok (run 1) ∷ ok (run 1) ∷ ok (move 3 2) ∷ ok (move 2 2) ∷ ok (deliver 2) ∷ ok (run 2) ∷ ok (deliver 1) ∷ ok (move 3 1) ∷
          ok (deliver 1) ∷ ok (run 3) ∷ ok (deliver 1) ∷ word 1 0 (deliver 1) ∷ ok (run 3) ∷ ok (run 2) ∷ ok (deliver 1) ∷ ok (deliver 1) ∷
          ok (run 2) ∷ ok (deliver 2) ∷ word 1 0 (deliver 1) ∷ ok (run 3) ∷ [];
      rest = true;
      messages = 0;
    }

-- a parent that waits for its children; a receiver that moves and then waits on another channel
abbrev pub sync_and_two_channels : Script
sync_and_two_channels =
    record {
      processors = 2;
      plan =
          (create 2 ∷ create 3 ∷ create 4 ∷ sync ∷ sync ∷ finish ∷ []) ∷ (send 1 ∷ send 1 ∷ send 2 ∷ finish ∷ []) ∷ (finish ∷ []) ∷
          (receive 1 ∷ receive 2 ∷ finish ∷ []) ∷ [];
      lines =
          ok (run 1) ∷ ok (run 1) ∷ ok (run 2) ∷ ok (run 1) ∷ ok (run 1) ∷ word 1 0 (run 4) ∷ ok (move 4 2) ∷ ok (run 3) ∷ ok (deliver 1) ∷
          ok (deliver 1) ∷ ok (run 4) ∷ ok (run 2) ∷ ok (deliver 1) ∷ [];
      rest = true;
      messages = 0;
    }

-- an arriving sender whose pointer is older than the desk's own
abbrev pub arriving_sender_old_pointer : Script
arriving_sender_old_pointer =
    record {
      processors = 2;
      plan =
          (create 2 ∷ create 3 ∷ sync ∷ finish ∷ []) ∷ (receive 1 ∷ receive 1 ∷ finish ∷ []) ∷ (set 3 ∷ send 1 ∷ send 1 ∷ finish ∷ []) ∷ [];
      lines =
          ok (run 1) ∷ ok (run 2) ∷ ok (run 1) ∷ ok (run 1) ∷ ok (run 3) ∷ word 1 3 (run 3) ∷ ok (move 3 2) ∷ ok (move 2 2) ∷ ok (deliver 1) ∷
          ok (move 3 1) ∷ ok (deliver 2) ∷ ok (move 3 2) ∷ ok (deliver 2) ∷ ok (run 3) ∷ ok (deliver 1) ∷ word 1 3 (run 2) ∷ ok (run 3) ∷
          ok (deliver 1) ∷ ok (run 2) ∷ ok (deliver 1) ∷ ok (run 1) ∷ [];
      rest = true;
      messages = 0;
    }

-- a carried offer, moves refused in their order, a malformed run
abbrev pub carried_offer_moves_along : Script
carried_offer_moves_along =
    record {
      processors = 2;
      plan =
          (create 2 ∷ add 3 ∷ receive 1 ∷ send 2 ∷ finish ∷ []) ∷ (send 1 ∷ receive 2 ∷ send 1 ∷ finish ∷ []) ∷ [];
      lines =
          ok (run 1) ∷ ok (run 2) ∷ ok (run 1) ∷ word 1 0 (run 1) ∷ ok (run 1) ∷ refuses 19 (raw 1 1 1) ∷ ok (move 2 2) ∷ refuses 15 (move 2 3) ∷
          ok (deliver 1) ∷ ok (run 2) ∷ refuses 11 (move 1 1) ∷ ok (deliver 1) ∷ word 2 0 (deliver 1) ∷ ok (run 2) ∷ ok (deliver 1) ∷ [];
      rest = true;
      messages = 0;
    }

-- a pointer that travels with its sender; then a send whose receiver is not born yet
abbrev pub pointer_travels_with_sender : Script
pointer_travels_with_sender =
    record {
      processors = 3;
      plan =
          (create 2 ∷ receive 2 ∷ receive 2 ∷ create 3 ∷ finish ∷ []) ∷ (send 2 ∷ send 2 ∷ send 1 ∷ finish ∷ []) ∷ (receive 1 ∷ finish ∷ [])
          ∷ [];
      lines =
          ok (run 1) ∷ ok (run 2) ∷ word 2 0 (run 1) ∷ ok (move 2 2) ∷ ok (deliver 1) ∷ refuses 16 (move 1 1) ∷ ok (run 2) ∷ ok (deliver 1) ∷
          ok (run 1) ∷ ok (deliver 1) ∷ ok (run 2) ∷ [];
      rest = false;
      messages = 3;
    }

-- an offer held for a receiver on its way, which then waits on another channel; malformed steps
abbrev pub held_for_other_channel : Script
held_for_other_channel =
    record {
      processors = 2;
      plan =
          (create 2 ∷ send 1 ∷ send 2 ∷ finish ∷ []) ∷ (receive 2 ∷ receive 1 ∷ finish ∷ []) ∷ [];
      lines =
          ok (run 1) ∷ refuses 19 (raw 2 1 1) ∷ refuses 10 (move 0 3) ∷ ok (move 2 2) ∷ ok (run 1) ∷ ok (deliver 2) ∷ ok (deliver 1) ∷ ok (run 2) ∷ [];
      rest = true;
      messages = 0;
    }

-- a call that tells the sender's desk where the receiver is
abbrev pub call_teaches_sender : Script
call_teaches_sender =
    record {
      processors = 3;
      plan =
          (create 2 ∷ create 3 ∷ finish ∷ []) ∷ (send 1 ∷ send 1 ∷ finish ∷ []) ∷ (receive 1 ∷ finish ∷ []) ∷ [];
      lines =
          ok (run 1) ∷ ok (move 2 3) ∷ ok (run 1) ∷ refuses 12 (run 1) ∷ refuses 16 (move 1 1) ∷ ok (run 3) ∷ ok (deliver 1) ∷ ok (run 2) ∷
          ok (deliver 1) ∷ ok (deliver 2) ∷ ok (run 2) ∷ [];
      rest = false;
      messages = 3;
    }

-- an offer that arrives after its word was passed directly
abbrev pub stale_offer_dropped : Script
stale_offer_dropped =
    record {
      processors = 2;
      plan =
          (create 2 ∷ sync ∷ finish ∷ []) ∷ (create 3 ∷ send 1 ∷ finish ∷ []) ∷ (receive 1 ∷ receive 1 ∷ finish ∷ []) ∷ [];
      lines =
          ok (run 1) ∷ ok (run 1) ∷ ok (run 2) ∷ ok (move 3 2) ∷ refuses 11 (run 1) ∷ ok (run 2) ∷ ok (deliver 1) ∷ ok (move 3 1) ∷
          ok (deliver 1) ∷ ok (deliver 1) ∷ word 1 0 (run 3) ∷ ok (run 3) ∷ ok (deliver 1) ∷ [];
      rest = true;
      messages = 0;
    }

-- a sum over 65,535; an ended letter along the child's own pointer
abbrev pub sum_wraps_and_ended_along_own : Script
sum_wraps_and_ended_along_own =
    record {
      processors = 3;
      plan =
          (create 2 ∷ receive 1 ∷ finish ∷ []) ∷ (add 65535 ∷ add 65535 ∷ send 1 ∷ finish ∷ []) ∷ [];
      lines =
          ok (move 1 3) ∷ ok (deliver 1) ∷ ok (run 1) ∷ ok (run 2) ∷ ok (move 2 2) ∷ ok (deliver 1) ∷ ok (run 2) ∷ ok (run 2) ∷
          ok (deliver 1) ∷ ok (run 1) ∷ ok (deliver 1) ∷ ok (run 2) ∷ word 1 65534 (deliver 1) ∷ ok (deliver 1) ∷ ok (run 1) ∷ [];
      rest = true;
      messages = 0;
    }

-- no direct pass to a receiver that has called
abbrev pub no_direct_pass_when_called : Script
no_direct_pass_when_called =
    record {
      processors = 2;
      plan =
          (create 2 ∷ receive 1 ∷ receive 1 ∷ receive 1 ∷ finish ∷ []) ∷ (send 1 ∷ add 2 ∷ set 2 ∷ send 1 ∷ finish ∷ []) ∷ [];
      lines =
          ok (run 1) ∷ ok (run 1) ∷ ok (move 2 2) ∷ ok (deliver 1) ∷ ok (run 2) ∷ ok (deliver 1) ∷ ok (deliver 1) ∷ ok (run 2) ∷
          ok (move 2 1) ∷ ok (deliver 2) ∷ ok (run 2) ∷ ok (run 2) ∷ word 1 0 (deliver 1) ∷ word 1 2 (run 1) ∷ ok (run 2) ∷ ok (run 1) ∷ [];
      rest = true;
      messages = 0;
    }

-- an advert that arrives after its word was passed directly
abbrev pub late_advert_after_pass : Script
late_advert_after_pass =
    record {
      processors = 2;
      plan =
          (create 2 ∷ create 3 ∷ finish ∷ []) ∷ (send 1 ∷ finish ∷ []) ∷ (receive 1 ∷ receive 1 ∷ finish ∷ []) ∷ [];
      lines =
          ok (run 1) ∷ ok (run 2) ∷ ok (run 1) ∷ word 1 0 (run 3) ∷ ok (move 3 2) ∷ ok (deliver 2) ∷ ok (run 3) ∷ ok (deliver 1) ∷ [];
      rest = false;
      messages = 0;
    }

-- two ended letters for one parent
abbrev pub two_ended_messages : Script
two_ended_messages =
    record {
      processors = 2;
      plan =
          (create 2 ∷ create 3 ∷ receive 2 ∷ finish ∷ []) ∷ (receive 1 ∷ finish ∷ []) ∷ (send 2 ∷ send 1 ∷ finish ∷ []) ∷ [];
      lines =
          ok (move 1 2) ∷ ok (deliver 1) ∷ ok (run 1) ∷ ok (run 1) ∷ ok (move 3 1) ∷ ok (deliver 1) ∷ ok (run 1) ∷ ok (move 2 1) ∷
          ok (deliver 1) ∷ ok (run 3) ∷ ok (deliver 1) ∷ ok (deliver 1) ∷ ok (run 3) ∷ word 1 0 (run 2) ∷ ok (run 2) ∷ ok (run 3) ∷
          ok (deliver 3) ∷ ok (deliver 2) ∷ word 2 0 (deliver 1) ∷ ok (run 1) ∷ [];
      rest = true;
      messages = 0;
    }

-- an offer that follows a moving receiver
abbrev pub offer_chases_moving_receiver : Script
offer_chases_moving_receiver =
    record {
      processors = 2;
      plan =
          (create 2 ∷ send 1 ∷ finish ∷ []) ∷ (receive 1 ∷ finish ∷ []) ∷ [];
      lines =
          ok (run 1) ∷ ok (move 2 2) ∷ ok (deliver 1) ∷ ok (run 1) ∷ ok (move 2 1) ∷ ok (deliver 1) ∷ ok (deliver 1) ∷ ok (move 2 2) ∷
          ok (deliver 1) ∷ ok (deliver 2) ∷ [];
      rest = false;
      messages = 1;
    }

-- a noted advert that a receive answers
abbrev pub note_answered : Script
note_answered =
    record {
      processors = 2;
      plan =
          (create 2 ∷ create 3 ∷ finish ∷ []) ∷ (set 7 ∷ send 1 ∷ finish ∷ []) ∷ (receive 1 ∷ receive 1 ∷ finish ∷ []) ∷ [];
      lines =
          ok (run 1) ∷ ok (run 2) ∷ ok (run 2) ∷ ok (deliver 1) ∷ ok (run 1) ∷ ok (move 3 2) ∷ ok (deliver 1) ∷ ok (run 3) ∷ ok (deliver 1)
          ∷ word 1 7 (deliver 1) ∷ ok (run 3) ∷ [];
      rest = false;
      messages = 0;
    }

-- an ended letter that follows its moving parent over desks, and is held where the parent is about to arrive
abbrev pub ended_chases_parent : Script
ended_chases_parent =
    record {
      processors = 3;
      plan = (create 2 ∷ finish ∷ []) ∷ (finish ∷ []) ∷ [];
      lines =
          ok (run 1) ∷ ok (move 1 2) ∷ ok (deliver 1) ∷ ok (move 1 3) ∷ ok (run 2) ∷ ok (deliver 2) ∷ ok (deliver 2) ∷ refuses 14 (deliver 2) ∷
          refuses 11 (run 1) ∷ ok (deliver 1) ∷ ok (run 1) ∷ [];
      rest = true;
      messages = 0;
    }

-- three children held for one parent
abbrev pub three_held_for_one : Script
three_held_for_one =
    record {
      processors = 2;
      plan = (create 2 ∷ create 3 ∷ create 4 ∷ sync ∷ finish ∷ []) ∷ (finish ∷ []) ∷ (finish ∷ []) ∷ (finish ∷ []) ∷ [];
      lines =
          ok (run 1) ∷ ok (run 1) ∷ ok (run 1) ∷ ok (move 1 2) ∷ ok (run 2) ∷ ok (run 3) ∷ ok (run 4) ∷ ok (deliver 3) ∷ ok (deliver 3) ∷
          ok (deliver 2) ∷ refuses 14 (deliver 2) ∷ ok (deliver 1) ∷ ok (run 1) ∷ ok (run 1) ∷ [];
      rest = true;
      messages = 0;
    }

-- a letter that comes after its parent: the parent waits at the desk where it has moved to
abbrev pub ended_finds_moved_parent : Script
ended_finds_moved_parent =
    record {
      processors = 3;
      plan = (create 2 ∷ sync ∷ finish ∷ []) ∷ (finish ∷ []) ∷ [];
      lines =
          ok (run 1) ∷ ok (move 2 3) ∷ ok (deliver 1) ∷ ok (move 1 2) ∷ ok (deliver 1) ∷ ok (run 1) ∷ refuses 11 (run 1) ∷ ok (run 2) ∷
          ok (deliver 1) ∷ refuses 11 (run 1) ∷ ok (deliver 1) ∷ ok (run 1) ∷ [];
      rest = true;
      messages = 0;
    }

-- a child that is a parent: both move, and each letter finds its own
abbrev pub parents_in_achain : Script
parents_in_achain =
    record {
      processors = 2;
      plan = (create 2 ∷ sync ∷ finish ∷ []) ∷ (create 3 ∷ sync ∷ finish ∷ []) ∷ (finish ∷ []) ∷ [];
      lines =
          ok (run 1) ∷ ok (run 2) ∷ ok (move 2 2) ∷ ok (move 1 2) ∷ ok (deliver 2) ∷ ok (run 3) ∷ ok (deliver 2) ∷ ok (deliver 1) ∷ ok (run 1) ∷
          ok (run 2) ∷ ok (run 2) ∷ ok (run 1) ∷ [];
      rest = true;
      messages = 0;
    }

unfoldable pub scenes : List Script
scenes =
    notes_at_two_processors ∷ held_offer_word_late ∷ sync_and_two_channels ∷ arriving_sender_old_pointer ∷ carried_offer_moves_along ∷ pointer_travels_with_sender
    ∷ held_for_other_channel ∷ call_teaches_sender ∷ stale_offer_dropped ∷ sum_wraps_and_ended_along_own ∷ no_direct_pass_when_called ∷ late_advert_after_pass
    ∷ two_ended_messages ∷ offer_chases_moving_receiver ∷ note_answered
    ∷ ended_chases_parent ∷ three_held_for_one ∷ ended_finds_moved_parent ∷ parents_in_achain ∷ []
