-- The delivery of an advert is an act of its channel.
use mathlib.Core.Path.{◌≡◌, refl}
use mathlib.Core.Bool.{Bool, true, false, ◌&&◌}
use mathlib.Core.List.{List}
use mathlib.Core.Option.{some}
use Prim.Native.Nat.{ℕ, ◌-◌, ◌≤◌}
use native.Mathlib.Numerals.{add-one}
use lib.ListN.{get_elem?}
use borrow.Author.Tests.{eqb-true, eqb-false, eq-eqb}
use Rattle.std.specs.Prelude.{Ok}
use Rattle.base.proofs.Choices.{pick_cases}
use Rattle.base.proofs.Tests.{and_left, and_right, second_fails}
use Rattle.plan.specs.declared.ProcessorId.{ProcessorId}
use Rattle.plan.specs.declared.ChannelId.{ChannelId}
use Rattle.plan.specs.Refusals.{plan_answer}
use Rattle.plan.specs.declared.Word.{Word}
use Rattle.plan.specs.Programs.{Programs}
use Rattle.plan_laws.proofs.Answers.{and_parts}
use Rattle.rules.specs.declared.message.Message.TheVariants.{Advert}
use Rattle.rules.specs.declared.rule.Site.{Site}
use Rattle.rules.specs.declared.rule.Posting.TheVariants.{Nothing}
use Rattle.rules.specs.declared.rule.Outcome.{Outcome}
use Rattle.rules.specs.declared.system.System.{System}
use Rattle.rules.specs.Numbers.{processor_ok, channel_number_ok}
use Rattle.rules.specs.Networks.{message_at}
use Rattle.rules.specs.Tasks.{is_at}
use Rattle.rules.specs.Cells.{hint, first_noted, none_called, noting, granting}
use Rattle.rules.specs.Receive.{call_to}
use Rattle.rules.specs.Systems.{meaning}
use Rattle.rules.specs.Offers.{kept, advert_rule}
use Rattle.rules.specs.Deliver.{opened}
use Rattle.rules.specs.Sound.{message_ok, system_ok}
use Rattle.rules_laws.specs.Shapes.{Shaped}
use Rattle.net.specs.States.{Net}
use Rattle.channel.specs.Messages.{advert}
use Rattle.channel.specs.Views.{View}
use Rattle.channel.specs.Deliveries.{AdvertAnswered, AdvertNoted}
use Rattle.channel.specs.Events.{advert_answered, advert_noted_lem, delivery_guard, delivered as deliveredView}
use Rattle.transitions.specs.Readings.{Reading, reading}
use Rattle.transitions.specs.Messages.{message_on, word_in}
use Rattle.transitions.specs.Views.{Histories, view_of, receiver_view, tables_view, state_view}
use Rattle.transitions.specs.Agreement.{Running}
use Rattle.transitions.proofs.Flags.{flag_on, flag_is}
use Rattle.transitions.proofs.Flats.{Sorted}
use Rattle.transitions.proofs.Rigs.{message_ok_lem}
use Rattle.transitions.proofs.Outcomes.{site_read, tables_same, tables_noted, posted_advert, posted_call}
use Rattle.transitions.proofs.MessageTransitions.{place, Transitions, kept_transitions, posted_transitions, DeliveredTransition, delivery_transition}

-- the advert to desk d, from the desk `from`, at place p of the mail
module _ (m : Programs) (h : Histories) (x : Reading) (c : ChannelId) (p : ℕ) (d from : ProcessorId)
    (at : get_elem? x.messages p ≡ some (Advert c d from)) where
  abbrev v : View
  v = view_of m h x c

  abbrev t : Site
  t = site_read m x c d.0

  -- the receiver is here; receiving, and none is called
  abbrev here : Bool
  here = is_at d t.receiver

  abbrev free : Bool
  free = t.receiving && none_called t.cell

  abbrev its : Sorted (message_on c) x.messages p (advert d.0 from.0)
  its = place c x.messages p at (posted_advert c d from)

  -- the guard of each branch
  answered : here && free ≡ true → AdvertAnswered its.place d.0 from.0 v
  unfolding view_of receiver_view state_view
  answered e =
      let now = and_right here free e in
      record {
        message = its.at;
        here = eqb-true _ _ (and_left here free e);
        receiving = flag_on t.receiving (and_left t.receiving _ now);
        first = eqb-true _ _ (and_right t.receiving _ now);
      }

  noted : here && free ≡ false → AdvertNoted its.place d.0 from.0 v
  unfolding view_of receiver_view state_view
  noted e =
      record {
        message = its.at;
        not_now = λ is on. eqb-false _ _ (second_fails t.receiving _ (second_fails here free e (eq-eqb _ _ is)) (flag_is t.receiving on));
      }

  -- .. and its act
  module _ (accepted : plan_answer m ≡ Ok tt) (low : 1 ≤ c.0) (high : c.0 ≤ 128) where
    abbrev Transition : Outcome → Type 0
    Transition = Transitions m h x p c d.0

    transition_answered : here && free ≡ true → Transition (kept t (granting t.cell) (call_to from c t.receiver))
    unfolding delivery_guard deliveredView view_of word_in receiver_view state_view
    transition_answered e =
        posted_transitions m accepted h x c low high p d.0 at (posted_advert c d from) refl (advert_answered d.0 from.0)
        (granting t.cell) (posted_call c from (hint t.receiver.processor t.receiver.moves)) refl (answered e)
        (rw (tables_same (x.entries c) d.0, add-one (x.channels c).granted) refl)

    transition_noted : here && free ≡ false → Transition (kept t (noting t.cell from) Nothing)
    unfolding delivery_guard deliveredView view_of word_in tables_view
    transition_noted e =
        kept_transitions m accepted h x c low high p d.0 at (posted_advert c d from) refl (advert_noted_lem d.0 from.0)
        (noting t.cell from) (noted e) (rw (tables_noted (x.entries c) d.0 (first_noted t.cell.entry.noted from)) refl)

    advert_transitions : Transition (advert_rule t c d from)
    unfolding advert_rule
    advert_transitions = pick_cases Transition (here && free) _ _ transition_answered transition_noted

-- the letter at position p of a rig that a run reaches
module _ (r : System) (shaped : Shaped r) (ok : system_ok r ≡ true) (h : Histories) {s : Net} {w : ChannelId → List Word}
    (run : Running (meaning r) h s (reading r) w) (p : ℕ) (low : 1 ≤ p) (high : p ≤ r.network.used) where
  pub advert_transition : (c : ChannelId) (d from : ProcessorId) → message_at r.network p ≡ Advert c d from → DeliveredTransition r h p
  unfolding opened message_ok
  advert_transition c d from e =
      let (number, rest) = and_parts (channel_number_ok c) _ (message_ok_lem r shaped ok p low high (Advert c d from) e) in
      let processor = and_left (processor_ok r.processors d) _ rest in
      delivery_transition r shaped ok p low high c d number processor h (Advert c d from) (λ x. advert_rule x c d from) e refl
      (λ accepted l u at. advert_transitions (meaning r) h (reading r) c (p - 1) d from at accepted l u)
