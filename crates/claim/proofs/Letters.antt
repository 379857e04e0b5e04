-- A letter leaves within as many calls at its desk as letters for the desk stood up to and including it.
use mathlib.Core.Path.{◌≡◌, refl, sym, ◌∙◌, ap, subst, subst₂}
use mathlib.Core.Bool.{true, false}
use mathlib.Core.List.{List, [], ◌∷◌, ◌++◌}
use mathlib.Core.Logic.{inl, inr, by_cases}
use Prim.Native.Nat.{ℕ, ◌-◌, ◌≤◌}
use native.Mathlib.Omega.{arith}
use native.Mathlib.Decide.{ℕ_discrete}
use lib.Dec.{eqb, leb}
use lib.ListN.{length, get_or, take, drop}
use borrow.Author.Tests.{eqb-true, eq-eqb, ne_eqb}
use Rattle.std.specs.Prelude.{Ok}
use Rattle.base.specs.Choice.{pick}
use Rattle.base.specs.Lists.{count}
use Rattle.base.proofs.Tests.{and_right, every_at}
use Rattle.plan.specs.declared.Plan.{Plan}
use Rattle.plan.specs.declared.ProcessorId.{ProcessorId}
use Rattle.rules.specs.declared.message.Message.{Message}
use Rattle.rules.specs.declared.message.Message.TheVariants.{Empty}
use Rattle.rules.specs.declared.step.Step.{Step}
use Rattle.rules.specs.declared.dispatch.Dispatched.{Dispatched}
use Rattle.rules.specs.declared.system.System.{System}
use Rattle.rules.specs.Numbers.{processor_id, same_processor, processor_ok}
use Rattle.rules.specs.Networks.{message_at}
use Rattle.rules.specs.Sound.{message_ok, network_ok}
use Rattle.rules.specs.Steps.{step_answer, step, steps_by, steps}
use Rattle.rules.specs.Dispatch.{addressee, earliest, deliver_step, delivery_turn, run_turn, ruled_dispatch, dispatched, step_of}
use Rattle.rules_laws.proofs.Messages.{message_at_messages, messages_dequeued}
use Rattle.rules_laws.proofs.Sound.{system_passed}
use Rattle.rules_sound.proofs.Kept.{mail_then}
use Rattle.claim.specs.Events.{Event, ordinary, call, is_call_at, returned, happens, happened, mixed}
use Rattle.claim.specs.Letters.{position_without, followed, LetterLeaves, LettersLeave}
use Rattle.claim.proofs.Lists.{either}
use Rattle.claim.proofs.Quiet.{deliver_accepted}
use Rattle.claim.proofs.Events.{event_runs, call_but}
use Rattle.claim.proofs.Live.{Live, live_step_lem, live_event, live_events, live_mixed, ruled}
use Rattle.claim.proofs.Earliest.{letter_desk, is_for, Earliest, earliest_is}
use Rattle.claim.proofs.Positions.{stands_itself, stands_then, stands_joined, stands_fewer, one_passes}
use Rattle.claim.proofs.Followed.{followed_none, followed_append, followed_but, followed_delivery, mail, room, length_mail, Follows, follows_then, steps_follow}

module _ (n : ℕ) (p : Plan) (d : ProcessorId) where
  -- a call at d, where the letter at position k is for d
  module _ (r : System) (l : Live n p r) (k : ℕ) (some : 1 ≤ k) (there : k ≤ length (mail r)) (is : is_for d (get_or (mail r) (k - 1) Empty) ≡ true) where
    abbrev i : ℕ
    i = earliest d (mail r)

    first : Earliest d (mail r) k i
    first = earliest_is d (mail r) k some there is

    -- the desk is one of the rig
    pub desk_there : processor_ok n d ≡ true
    unfolding network_ok
    desk_there =
        let letter = get_or (mail r) (k - 1) Empty in
        let all = and_right (leb r.network.used 256) _ (system_passed r l.ok).network in
        let fine = every_at (message_ok r.processors r.plan.tasks) (mail r) (k - 1) Empty (omega arith) all in
        let same : addressee letter ≡ d = ap processor_id (eqb-true (addressee letter).0 d.0 is) in
        subst₂ (λ (m : ℕ) (e : ProcessorId). processor_ok m e ≡ true) l.processors same (letter_desk r.processors r.plan.tasks letter fine)

    -- the steps: the delivery of the earliest, and the run if there is one
    abbrev runs : List Step
    runs = step_of (run_turn (delivery_turn r d).system d).turn

    call_steps : (returned (dispatched r d)).steps ≡ deliver_step i ∷ runs
    unfolding ruled_dispatch delivery_turn step_of
    call_steps =
        ap (λ (o : Dispatched). (returned o).steps) (ruled l d desk_there)
        ∙ (let own : eqb i 0 ≡ false = ne_eqb i 0 (λ z. omega (arith, first.some)) in rw own refl)

    delivered_first : step_answer r (deliver_step i) ≡ Ok tt
    delivered_first = deliver_accepted r l.ok i first.some (omega (arith, first.first, there, length_mail l))

    one_fewer : Follows d 1 r k (step r (deliver_step i)).system (position_without i k)
    one_fewer =
        let (ms, then) = mail_then r (deliver_step i) l.shaped delivered_first in
        let low = first.some in
        let high : i ≤ length (mail r) = omega (arith, first.first, there) in
        let rest = take (i - 1) (mail r) ++ drop i (mail r) in
        let now : mail (step r (deliver_step i)).system ≡ rest ++ ms =
        then ∙ ap (λ (xs : List Message). xs ++ ms) (messages_dequeued r.network i low (omega (arith, high, length_mail l)) (room l)) in
        by_cases
        (ℕ_discrete i k)
        (λ (e : i ≡ k). inl (rw (eq-eqb i k e) refl))
        (λ ne.
        let f = stands_fewer (is_for d) Empty (mail r) i k low high some there first.is (omega (arith, first.first, ne)) in
        rw now (inr (stands_then (is_for d) Empty f (stands_joined (is_for d) Empty rest ms (position_without i k) f.some f.there))))

    list_follows : Follows d 1 r k (steps r (deliver_step i ∷ runs)).system (followed r (deliver_step i ∷ runs) k)
    unfolding steps_by
    list_follows =
        let q = (step r (deliver_step i)).system in
        subst (λ (j : ℕ). Follows d 1 r k (steps q runs).system j) (sym (followed_delivery r i runs k delivered_first))
        (follows_then d 1 0 r k q (position_without i k) (steps q runs).system (followed q runs (position_without i k)) one_fewer
        (λ z. ap (followed q runs) z ∙ followed_none q runs)
        (λ f. steps_follow n p d runs q (live_step_lem l (deliver_step i)) (position_without i k) f.some f.there))

    call_follows : let ss = (returned (dispatched r d)).steps in Follows d 1 r k (steps r ss).system (followed r ss k)
    call_follows = subst (λ (ss : List Step). Follows d 1 r k (steps r ss).system (followed r ss k)) (sym call_steps) list_follows

  -- an event
  event_follows : (e : Event) (r : System) → Live n p r → (k : ℕ) → 1 ≤ k → k ≤ length (mail r) → is_for d (get_or (mail r) (k - 1) Empty) ≡ true
      → Follows d (pick (is_call_at d e) 1 0) r k (happens r e).system (followed r (happens r e).steps k)
  unfolding happens is_call_at steps_by
  event_follows (ordinary s) r l k some there is = steps_follow n p d (s ∷ []) r l k some there
  event_follows (call e) r l k some there is =
      let now : (z : ProcessorId) → mail (dispatched r z).system ≡ mail (steps r (returned (dispatched r z)).steps).system = λ z. ap mail (call_but r z).is in
      either (same_processor e d)
      (λ same.
      let own : d ≡ e = ap processor_id (sym (eqb-true e.0 d.0 same)) in
      rw same
      (subst (λ (z : ProcessorId). Follows d 1 r k (dispatched r z).system (followed r (returned (dispatched r z)).steps k)) own
      (rw (now d) (call_follows r l k some there is))))
      (λ other. rw (other, now e) (steps_follow n p d (returned (dispatched r e)).steps r l k some there))

  -- events
  events_follow : (us : List Event) (r : System) → Live n p r → (k : ℕ) → 1 ≤ k → k ≤ length (mail r) → is_for d (get_or (mail r) (k - 1) Empty) ≡ true
      → Follows d (count (is_call_at d) us) r k (happened r us).system (followed r (happened r us).steps k)
  unfolding happened count followed
  events_follow [] r l k some there is = inr (stands_itself (is_for d) Empty (mail r) k some there)
  events_follow (e ∷ us) r l k some there is =
      let a = happens r e in
      let b = happened a.system us in
      let j = followed r a.steps k in
      let later : followed r (a.steps ++ b.steps) k ≡ followed a.system b.steps j =
      followed_append r a.steps b.steps k ∙ sym (followed_but (event_runs r e).but b.steps j) in
      rw later
      (follows_then d (pick (is_call_at d e) 1 0) (count (is_call_at d) us) r k a.system j b.system (followed a.system b.steps j)
      (event_follows e r l k some there is)
      (λ z. ap (followed a.system b.steps) z ∙ followed_none a.system b.steps)
      (λ f. events_follow us a.system (live_event l e) j f.some f.there (ap (is_for d) f.same ∙ is)))

-- from the start
module _ (n : ℕ) (p : Plan) (us : List Event) (r : System) (l : Live n p r) (k : ℕ) (some : 1 ≤ k) (there : k ≤ r.network.used) where
  abbrev pub letter : Message
  letter = message_at r.network k

  abbrev pub now : ℕ
  now = followed r (happened r us).steps k

  found : get_or (mail r) (k - 1) Empty ≡ letter
  found = sym (message_at_messages r.network k some there)

  pub own_desk : is_for (addressee letter) (get_or (mail r) (k - 1) Empty) ≡ true
  own_desk = rw found (eq-eqb (addressee letter).0 (addressee letter).0 refl)

  there_now : Follows (addressee letter) (count (is_call_at (addressee letter)) us) r k (happened r us).system now
  there_now = events_follow n p (addressee letter) us r l k some (omega (arith, there, length_mail l)) own_desk

  pub letter_leaves : LetterLeaves r us k
  letter_leaves = go there_now
    where
      q : System
      q = (happened r us).system

      go : Follows (addressee letter) (count (is_call_at (addressee letter)) us) r k q now → LetterLeaves r us k
      go (inl z) = record { same = λ ne. absurd (ne z); leaves = λ enough. z }
      go (inr f) =
          let high : now ≤ q.network.used = omega (arith, f.there, length_mail (live_events l us)) in
          let one =
          one_passes (is_for (addressee letter)) Empty (mail q) now f.some f.there (ap (is_for (addressee letter)) f.same ∙ own_desk) in
          record {
            same = λ ne. message_at_messages q.network now f.some high ∙ f.same ∙ found;
            leaves = λ enough. absurd (omega (arith, f.fewer, one, enough));
          }

pub letters_leave : LettersLeave
letters_leave n p es us some few a k low high = letter_leaves n p us (mixed n p es).system (live_mixed n p es some few a) k low high
