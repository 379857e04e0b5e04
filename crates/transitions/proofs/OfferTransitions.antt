-- The delivery of an offer is an act of its channel.
use mathlib.Core.Path.{◌≡◌, refl}
use mathlib.Core.Logic.{◌⊎◌, inl, inr, ⊎_elim}
use mathlib.Core.Bool.{Bool, true, false, not, ◌&&◌}
use mathlib.Core.List.{List}
use mathlib.Core.Option.{some}
use Prim.Native.Nat.{ℕ, ◌-◌, ◌≤◌, ◌<◌}
use native.Mathlib.Numerals.{add-one}
use lib.ListN.{get_elem?}
use borrow.Author.Tests.{eqb-true, eqb-false, ltb-true, ltb-false, not-true, not-false}
use Rattle.std.specs.Prelude.{Ok}
use Rattle.base.proofs.Choices.{pick_cases}
use Rattle.base.proofs.Tests.{and_left, and_right, first_fails, second_fails}
use Rattle.plan.specs.declared.ChannelId.{ChannelId}
use Rattle.plan.specs.Refusals.{plan_answer}
use Rattle.plan.specs.declared.Word.{Word}
use Rattle.plan.specs.Programs.{Programs}
use Rattle.plan_laws.proofs.Answers.{and_parts}
use Rattle.rules.specs.declared.channel.Hint.{Hint}
use Rattle.rules.specs.declared.channel.Offer.{Offer}
use Rattle.rules.specs.declared.message.Message.TheVariants.{Offered}
use Rattle.rules.specs.declared.rule.Site.{Site}
use Rattle.rules.specs.declared.rule.Posting.TheVariants.{Nothing, Single}
use Rattle.rules.specs.declared.rule.Outcome.{Outcome}
use Rattle.rules.specs.declared.system.System.{System}
use Rattle.rules.specs.Numbers.{same_processor, processor_ok, channel_number_ok}
use Rattle.rules.specs.Networks.{message_at}
use Rattle.rules.specs.Tasks.{is_at}
use Rattle.rules.specs.Cells.{counts, larger, carrying, holding, granting, hint as hint_of}
use Rattle.rules.specs.Receive.{call_to}
use Rattle.rules.specs.Systems.{meaning}
use Rattle.rules.specs.Offers.{kept, points_on, offer_rule}
use Rattle.rules.specs.Deliver.{opened}
use Rattle.rules.specs.Sound.{made_ok, message_ok, system_ok}
use Rattle.rules_laws.specs.Shapes.{Shaped}
use Rattle.net.specs.States.{Net}
use Rattle.channel.specs.Messages.{offer}
use Rattle.channel.specs.Views.{View}
use Rattle.channel.specs.Events.{offer_dropped, offer_answered_lem, offer_carried, offer_forwarded, offer_held, delivery_guard, delivered as deliveredView}
use Rattle.channel.specs.Deliveries.{Dropped, OfferAnswered, Carried, Forwarded, Held}
use Rattle.transitions.specs.Readings.{Reading, reading}
use Rattle.transitions.specs.Messages.{message_on, word_in}
use Rattle.transitions.specs.Views.{Histories, view_of, receiver_view, tables_view, state_view}
use Rattle.transitions.specs.Agreement.{Running}
use Rattle.transitions.proofs.Flags.{flag_on, flag_off, flag_not}
use Rattle.transitions.proofs.Flats.{Sorted}
use Rattle.transitions.proofs.Rigs.{message_ok_lem}
use Rattle.transitions.proofs.Outcomes.{site_read, tables_same, tables_held, posted_offer, posted_call}
use Rattle.transitions.proofs.MessageTransitions.{place, Transitions, kept_transitions, posted_transitions, DeliveredTransition, delivery_transition}

-- two tests of which not the second alone holds
either : (a b : Bool) → not a && b ≡ false → (a ≡ true) ⊎ (b ≡ false)
either true b e = inl refl
either false b e = inr e

-- the offer o at place p of the mail, along the pointer `hint`
module _ (m : Programs) (h : Histories) (x : Reading) (c : ChannelId) (p : ℕ) (o : Offer) (hint : Hint)
    (at : get_elem? x.messages p ≡ some (Offered c o hint)) where
  abbrev v : View
  v = view_of m h x c

  -- its desk, and what the rule looks at there
  abbrev d : ℕ
  d = hint.processor.0

  abbrev t : Site
  t = site_read m x c d

  abbrev own : Hint
  own = t.cell.entry.hint

  -- the receiver is here; receiving and not called; the letter no longer counts
  abbrev here : Bool
  here = is_at hint.processor t.receiver

  abbrev free : Bool
  free = t.receiving && not t.cell.channel.awaiting

  abbrev stale : Bool
  stale = not (counts t.cell o)

  abbrev its : Sorted (message_on c) x.messages p (offer d o.processor.0 o.number hint.moves)
  its = place c x.messages p at (posted_offer c o hint)

  -- the guard of each branch
  dropped : stale && here ≡ true → Dropped its.place d o.processor.0 o.number hint.moves v
  unfolding view_of receiver_view state_view
  dropped e = record { message = its.at; here = eqb-true _ _ (and_right stale here e); stale = ltb-false _ _ (not-true _ (and_left stale here e)) }

  counting : stale && here ≡ false → here ≡ true → (x.channels c).granted < o.number
  counting late e = ltb-true _ _ (not-false _ (first_fails stale here late e))

  answered : stale && here ≡ false → here && free ≡ true → OfferAnswered its.place d o.processor.0 o.number hint.moves v
  unfolding view_of receiver_view state_view
  answered late e =
      let is = and_left here free e in
      let now = and_right here free e in
      record {
        message = its.at;
        here = eqb-true _ _ is;
        counts = counting late is;
        receiving = flag_on t.receiving (and_left t.receiving _ now);
        uncalled = flag_off t.cell.channel.awaiting (not-true _ (and_right t.receiving _ now));
      }

  carried : stale && here ≡ false → here && free ≡ false → here ≡ true → Carried its.place d o.processor.0 o.number hint.moves v
  unfolding view_of receiver_view state_view
  carried late e is =
      record {
        message = its.at;
        here = eqb-true _ _ is;
        counts = counting late is;
        busy = flag_not t.receiving t.cell.channel.awaiting (second_fails here free e is);
      }

  forwarded : here ≡ false → points_on own hint hint.processor ≡ true → Forwarded its.place d o.processor.0 o.number hint.moves v
  unfolding view_of receiver_view tables_view
  forwarded away e =
      let other = not (same_processor own.processor hint.processor) in
      record {
        message = its.at;
        away = eqb-false _ _ away;
        other = eqb-false _ _ (not-true _ (and_left other _ e));
        newer = ltb-true _ _ (and_right other _ e);
      }

  held : here ≡ false → points_on own hint hint.processor ≡ false → Held its.place d o.processor.0 o.number hint.moves v
  unfolding view_of receiver_view tables_view
  held away e =
      record {
        message = its.at;
        away = eqb-false _ _ away;
        nothing_newer =
            ⊎_elim (λ z. inl (eqb-true _ _ z)) (λ z. inr (ltb-false _ _ z)) (either (same_processor own.processor hint.processor) _ e);
      }

  -- .. and its act
  module _ (accepted : plan_answer m ≡ Ok tt) (low : 1 ≤ c.0) (high : c.0 ≤ 128) where
    abbrev Transition : Outcome → Type 0
    Transition = Transitions m h x p c d

    transition_dropped : stale && here ≡ true → Transition (kept t t.cell Nothing)
    unfolding delivery_guard deliveredView view_of word_in
    transition_dropped e =
        kept_transitions m accepted h x c low high p d at (posted_offer c o hint) refl (offer_dropped d o.processor.0 o.number hint.moves)
        t.cell (dropped e) (rw (tables_same (x.entries c) d) refl)

    transition_answered : stale && here ≡ false → here && free ≡ true → Transition (kept t (granting t.cell) (call_to o.processor c t.receiver))
    unfolding delivery_guard deliveredView view_of word_in receiver_view state_view
    transition_answered late e =
        posted_transitions m accepted h x c low high p d at (posted_offer c o hint) refl (offer_answered_lem d o.processor.0 o.number hint.moves)
        (granting t.cell) (posted_call c o.processor (hint_of t.receiver.processor t.receiver.moves)) refl (answered late e)
        (rw (tables_same (x.entries c) d, add-one (x.channels c).granted) refl)

    transition_carried : stale && here ≡ false → here && free ≡ false → here ≡ true → Transition (kept t (carrying t.cell o) Nothing)
    unfolding delivery_guard deliveredView view_of word_in state_view
    transition_carried late e is =
        kept_transitions m accepted h x c low high p d at (posted_offer c o hint) refl (offer_carried d o.processor.0 o.number hint.moves)
        (carrying t.cell o) (carried late e is) (rw (tables_same (x.entries c) d) refl)

    transition_forwarded : here ≡ false → points_on own hint hint.processor ≡ true → Transition (kept t t.cell (Single (Offered c o own)))
    unfolding delivery_guard deliveredView view_of word_in tables_view
    transition_forwarded away e =
        posted_transitions m accepted h x c low high p d at (posted_offer c o hint) refl (offer_forwarded d o.processor.0 o.number hint.moves)
        t.cell (posted_offer c o own) refl (forwarded away e) (rw (tables_same (x.entries c) d) refl)

    transition_held : here ≡ false → points_on own hint hint.processor ≡ false → Transition (kept t (holding t.cell o) Nothing)
    unfolding delivery_guard deliveredView view_of word_in tables_view
    transition_held away e =
        kept_transitions m accepted h x c low high p d at (posted_offer c o hint) refl (offer_held d o.processor.0 o.number hint.moves)
        (holding t.cell o) (held away e) (rw (tables_held (x.entries c) d (larger t.cell.entry.held o)) refl)

    offer_transitions : Transition (offer_rule t c o hint)
    unfolding offer_rule
    offer_transitions =
        pick_cases Transition (stale && here) _ _ transition_dropped
        (λ late. pick_cases Transition (here && free) _ _ (transition_answered late)
        (λ e. pick_cases Transition here _ _ (transition_carried late e)
        (λ away. pick_cases Transition (points_on own hint hint.processor) _ _ (transition_forwarded away) (transition_held away))))

-- the letter at position p of a rig that a run reaches
module _ (r : System) (shaped : Shaped r) (ok : system_ok r ≡ true) (h : Histories) {s : Net} {w : ChannelId → List Word}
    (run : Running (meaning r) h s (reading r) w) (p : ℕ) (low : 1 ≤ p) (high : p ≤ r.network.used) where
  pub offer_transition : (c : ChannelId) (o : Offer) (hint : Hint) → message_at r.network p ≡ Offered c o hint → DeliveredTransition r h p
  unfolding opened message_ok
  offer_transition c o hint e =
      let (number, rest) = and_parts (channel_number_ok c) _ (message_ok_lem r shaped ok p low high (Offered c o hint) e) in
      let processor = and_left (processor_ok r.processors hint.processor) _ (and_right (made_ok r.processors o) _ rest) in
      delivery_transition r shaped ok p low high c hint.processor number processor h (Offered c o hint) (λ x. offer_rule x c o hint) e refl
      (λ accepted l u at. offer_transitions (meaning r) h (reading r) c (p - 1) o hint at accepted l u)
