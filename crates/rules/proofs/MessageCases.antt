-- Each way of an offer, an advert, a call and a word letter: the sender is at desk 1, the receiver at desk 2 or 3.
use mathlib.Core.Path.{◌≡◌, refl}
use mathlib.Core.Bool.{true, false}
use Rattle.std.specs.Prelude.{None, Some}
use Rattle.plan.specs.declared.Word.{Word as WordOf}
use Rattle.rules.specs.declared.channel.Hint.{Hint}
use Rattle.rules.specs.declared.message.Message.TheVariants.{Offered, ReadyToReceive, Data}
use Rattle.rules.specs.declared.rule.Posting.TheVariants.{Nothing, Single}
use Rattle.rules.specs.Tasks.{taking}
use Rattle.rules.specs.Cells.{hint, offer, with_hint, with_held, with_noted, with_granted, with_awaiting, with_carried}
use Rattle.rules.specs.Offers.{kept, offer_rule, advert_rule}
use Rattle.rules.specs.Calls.{call_rule, data_rule}
use Rattle.rules.proofs.Sites.{processor, one, seven, empty, talker, listener, site}
use Rattle.rules.proofs.Evaluated.{evaluated}

-- an offer with number 5 at desk 2, sent along a pointer of count 4. It no longer counts and the receiver is here: dropped
offer_dropped : offer_rule (site true 2 true (with_granted empty 5)) one (offer (processor 1) 5) (hint (processor 2) 4)
    ≡ kept (site true 2 true empty) (with_granted empty 5) Nothing
unfolding evaluated
offer_dropped = refl

-- the receiver is here: it receives and has not called; it has called; it does not receive
offer_answered_lem : offer_rule (site true 2 true (with_granted empty 4)) one (offer (processor 1) 5) (hint (processor 2) 4)
    ≡ kept (site true 2 true empty) (with_awaiting (with_granted empty 5) true) (Single (ReadyToReceive one (processor 1) (hint (processor 2) 3)))
unfolding evaluated
offer_answered_lem = refl

-- another that is carried stays beside the answer
offer_beside : (offer_rule (site true 2 true (with_carried empty (offer (processor 3) 9))) one (offer (processor 1) 5) (hint (processor 2) 4)).cell
    ≡ with_awaiting (with_granted (with_carried empty (offer (processor 3) 9)) 1) true
unfolding evaluated
offer_beside = refl

offer_called : offer_rule (site true 2 true (with_awaiting empty true)) one (offer (processor 1) 5) (hint (processor 2) 4)
    ≡ kept (site true 2 true empty) (with_carried (with_awaiting empty true) (offer (processor 1) 5)) Nothing
unfolding evaluated
offer_called = refl

offer_carried : offer_rule (site true 2 false empty) one (offer (processor 1) 5) (hint (processor 2) 4)
    ≡ kept (site true 2 false empty) (with_carried empty (offer (processor 1) 5)) Nothing
unfolding evaluated
offer_carried = refl

-- it is not here: the desk's pointer names another desk with a larger count; not a larger one; this desk; none
offer_forwarded : offer_rule (site true 3 true (with_hint empty (hint (processor 3) 5))) one (offer (processor 1) 5) (hint (processor 2) 4)
    ≡ kept (site true 3 true empty) (with_hint empty (hint (processor 3) 5)) (Single (Offered one (offer (processor 1) 5) (hint (processor 3) 5)))
unfolding evaluated
offer_forwarded = refl

offer_equal : offer_rule (site true 3 true (with_hint empty (hint (processor 3) 4))) one (offer (processor 1) 5) (hint (processor 2) 4)
    ≡ kept (site true 3 true empty) (with_held (with_hint empty (hint (processor 3) 4)) (offer (processor 1) 5)) Nothing
unfolding evaluated
offer_equal = refl

offer_expected : offer_rule (site true 3 true (with_hint empty (hint (processor 2) 5))) one (offer (processor 1) 5) (hint (processor 2) 4)
    ≡ kept (site true 3 true empty) (with_held (with_hint empty (hint (processor 2) 5)) (offer (processor 1) 5)) Nothing
unfolding evaluated
offer_expected = refl

-- one that no longer counts is held there too
offer_stale : offer_rule (site true 3 true (with_granted empty 5)) one (offer (processor 1) 5) (hint (processor 2) 4)
    ≡ kept (site true 3 true empty) (with_held (with_granted empty 5) (offer (processor 1) 5)) Nothing
unfolding evaluated
offer_stale = refl

-- an advert at desk 2: answered where none was called; else noted
advert_answered : advert_rule (site true 2 true empty) one (processor 2) (processor 1)
    ≡ kept (site true 2 true empty) (with_awaiting (with_granted empty 1) true) (Single (ReadyToReceive one (processor 1) (hint (processor 2) 3)))
unfolding evaluated
advert_answered = refl

-- whether it has called is not asked
advert_marked : (advert_rule (site true 2 true (with_awaiting empty true)) one (processor 2) (processor 1)).cell ≡ with_awaiting (with_granted empty 1) true
unfolding evaluated
advert_marked = refl

advert_late : advert_rule (site true 2 true (with_granted empty 1)) one (processor 2) (processor 1)
    ≡ kept (site true 2 true empty) (with_noted (with_granted empty 1) (processor 1)) Nothing
unfolding evaluated
advert_late = refl

advert_busy : advert_rule (site true 2 false empty) one (processor 2) (processor 1) ≡ kept (site true 2 false empty) (with_noted empty (processor 1)) Nothing
unfolding evaluated
advert_busy = refl

advert_elsewhere : advert_rule (site true 3 true empty) one (processor 2) (processor 1) ≡ kept (site true 3 true empty) (with_noted empty (processor 1)) Nothing
unfolding evaluated
advert_elsewhere = refl

-- a call at desk 1 from desk 2: the desk learns where the receiver is, unless it knows better
call_taken : call_rule (site true 2 true (with_hint empty (hint (processor 3) 3))) one (processor 1) (hint (processor 2) 4)
    ≡ record { sender = talker false; receiver = listener 2; cell = with_hint empty (hint (processor 2) 4); posting = Single (Data one (processor 2) seven); received = None }
unfolding evaluated
call_taken = refl

call_older : call_rule (site true 2 true (with_hint empty (hint (processor 3) 5))) one (processor 1) (hint (processor 2) 4)
    ≡ record { sender = talker false; receiver = listener 2; cell = with_hint empty (hint (processor 3) 5); posting = Single (Data one (processor 2) seven); received = None }
unfolding evaluated
call_older = refl

-- a word letter at desk 2: the receiver takes it, and the mark is cleared
data_taken : data_rule (site false 2 true (with_awaiting (with_granted empty 1) true)) one (processor 2) seven
    ≡ record { sender = talker false; receiver = taking (listener 2) seven; cell = with_granted empty 1; posting = Nothing; received = Some (one, seven) }
unfolding evaluated
data_taken = refl

-- "Where that isn't so, the letter is removed without effect": no sender sends here; no receiver receives here, or it has not called
idle_call : (h : Hint) → call_rule (site false 2 true empty) one (processor 1) h ≡ kept (site false 2 true empty) empty Nothing
unfolding evaluated
idle_call h = refl

far_call : (h : Hint) → call_rule (site true 2 true empty) one (processor 2) h ≡ kept (site true 2 true empty) empty Nothing
unfolding evaluated
far_call h = refl

idle_data : (w : WordOf) → data_rule (site true 2 true empty) one (processor 2) w ≡ kept (site true 2 true empty) empty Nothing
unfolding evaluated
idle_data w = refl

busy_data : (w : WordOf) → data_rule (site true 2 false (with_awaiting empty true)) one (processor 2) w ≡ kept (site true 2 false empty) (with_awaiting empty true) Nothing
unfolding evaluated
busy_data w = refl

far_data : (w : WordOf) → data_rule (site true 3 true (with_awaiting empty true)) one (processor 2) w ≡ kept (site true 3 true empty) (with_awaiting empty true) Nothing
unfolding evaluated
far_data w = refl
