-- What the deliveries of an offer, an advert, a call and a word share: from what the letter's rule leaves to the act.
use mathlib.Core.Path.{◌≡◌, refl, sym, ap, ◌∙◌}
use mathlib.Core.Bool.{true}
use mathlib.Core.List.{List, [], ◌++◌, append-nil}
use mathlib.Core.Option.{some}
use Prim.Native.Nat.{ℕ, ◌-◌, ◌≤◌}
use native.Mathlib.Omega.{arith}
use lib.ListN.{length, get_elem?}
use Rattle.std.specs.Prelude.{Ok}
use Rattle.base.proofs.Tests.{within_low, within_high}
use Rattle.plan.specs.declared.TaskId.{TaskId}
use Rattle.plan.specs.declared.ProcessorId.{ProcessorId}
use Rattle.plan.specs.declared.ChannelId.{ChannelId}
use Rattle.plan.specs.declared.Word.{Word}
use Rattle.plan.specs.Programs.{Programs}
use Rattle.plan.specs.Refusals.{plan_answer}
use Rattle.plan.specs.Users.{sender_of, receiver_of}
use Rattle.rules.specs.declared.channel.Cell.{Cell}
use Rattle.rules.specs.declared.message.Message.{Message}
use Rattle.rules.specs.declared.rule.Site.{Site}
use Rattle.rules.specs.declared.rule.Posting.{Posting}
use Rattle.rules.specs.declared.rule.Posting.TheVariants.{Nothing, Single}
use Rattle.rules.specs.declared.rule.Outcome.{Outcome}
use Rattle.rules.specs.declared.system.System.{System}
use Rattle.rules.specs.Numbers.{processor_ok, channel_number_ok}
use Rattle.rules.specs.Networks.{message_at, messages_of}
use Rattle.rules.specs.Systems.{task_at, meaning, channel_at, entry_at}
use Rattle.rules.specs.Effects.{Effect, completed, site_at, with_outcome}
use Rattle.rules.specs.Offers.{kept}
use Rattle.rules.specs.Deliver.{on_channel, opened, delivered}
use Rattle.rules.specs.Sound.{system_ok}
use Rattle.rules_laws.specs.Shapes.{Shaped}
use Rattle.rules_laws.proofs.Messages.{dequeued_used}
use Rattle.channel.specs.Bags.{one, without}
use Rattle.channel.specs.Messages.{ChannelMessage}
use Rattle.channel.specs.Views.{with_messages}
use Rattle.channel.specs.Events.{Delivery, delivery, delivery_guard, guard, after, delivered as deliveredView}
use Rattle.transitions.specs.Readings.{Reading, reading, with_outcome_read}
use Rattle.transitions.specs.Messages.{message_on, messages_on, word_in, words_in}
use Rattle.transitions.specs.Views.{Histories, view_of}
use Rattle.transitions.specs.EndSteps.{stays}
use Rattle.transitions.specs.Transitions.{Passing, by_nobody, ChannelTransition}
use Rattle.transitions.proofs.Flats.{flat_one, flat_post, flat_without, Sorted, flat_place}
use Rattle.transitions.proofs.Frames.{IsCell, read_outcome, read_dequeued}
use Rattle.transitions.proofs.Rigs.{plan_accepted, network_few, is_cell, sender_few, receiver_few, message_at_lem, emptied, emptied_shaped}
use Rattle.transitions.proofs.Outcomes.{site_read, site_read_lem, Posted, OnlyOn, posted_nothing, only_posted, only_without, messages_posted}
use Rattle.transitions.proofs.Outcomes.{passing_nothing, outcome_view, EndsStep, outcome_transition}

-- the message a at place p of the mail, which is the letter l of channel c
module _ (c : ChannelId) (ms : List Message) (p : ℕ) {a : Message} {l : ChannelMessage} (at : get_elem? ms p ≡ some a) (is : Posted c (one a) (one l)) where
  -- where it stands among the letters of its channel
  pub place : Sorted (message_on c) ms p l
  place = flat_place (message_on c) ms p l at (sym (flat_one (message_on c) a) ∙ is.on)

  -- it leaves, and these join
  module _ {ps : List Message} {ls : List ChannelMessage} (join : Posted c ps ls) where
    only_left : OnlyOn c ms (without ms p ++ ps)
    only_left = only_posted c (only_without c ms p at is) join

    messages_left : messages_on c (without ms p ++ ps) ≡ without (messages_on c ms) place.place ++ ls
    messages_left = messages_posted c (without ms p) join ∙ ap (◌++ ls) place.taken

-- Rules.

-- the rig after the outcome o of a rule about channel c at desk d, for the letter at place p of the mail, from 0
abbrev pub with_message_read : Programs → Reading → ℕ → ChannelId → ℕ → Outcome → Reading
with_message_read m x p c d o =
    with_outcome_read x (sender_of m c) (receiver_of m c) c d o (without x.messages p ++ messages_of x.processors o.posting)

-- that is an act of the channel; at most one letter is posted, and an end that is none stays
pub record Transitions (m : Programs) (h : Histories) (x : Reading) (p : ℕ) (c : ChannelId) (d : ℕ) (o : Outcome) : Type 0 where
  pub few : length (messages_of x.processors o.posting) ≤ 1
  pub no_sender : (sender_of m c).0 ≡ 0 → o.sender ≡ x.tasks (sender_of m c)
  pub no_receiver : (receiver_of m c).0 ≡ 0 → o.receiver ≡ x.tasks (receiver_of m c)
  pub place : ℕ
  pub by : Delivery
  pub transition : ChannelTransition m h x (with_message_read m x p c d o) (delivery place by) o.received

module _ (m : Programs) (accepted : plan_answer m ≡ Ok tt) (h : Histories) (x : Reading) (c : ChannelId) (low : 1 ≤ c.0) (high : c.0 ≤ 128)
    (p d : ℕ) where
  module _ {a : Message} {l : ChannelMessage} (at : get_elem? x.messages p ≡ some a) (is : Posted c (one a) (one l)) where
    abbrev q : ℕ
    q = (place c x.messages p at is).place

    -- the channel's letters without it
    abbrev left : List ChannelMessage
    left = without (messages_on c x.messages) q

    -- ls is what is posted
    pub transitions_by : (by : Delivery) (o : Outcome) {ls : List ChannelMessage} {n k : ℕ} {value : Word} → EndsStep m x c o n k value
        → o.sender.pc ≡ (x.tasks (sender_of m c)).pc → o.receiver.pc ≡ (x.tasks (receiver_of m c)).pc
        → length (messages_of x.processors o.posting) ≤ 1 → Posted c (messages_of x.processors o.posting) ls
        → Passing c (x.tasks (sender_of m c)).word (words_in (messages_on c x.messages)) n k value (words_in (left ++ ls)) o.received
        → delivery_guard q by (view_of m h x c) → with_messages (left ++ ls) (outcome_view m h x c d o []) ≡ deliveredView q by (view_of m h x c)
        → Transitions m h x p c d o
    unfolding guard after
    transitions_by by o {ls} ends sp up few join passing allowed seen =
        let here = messages_left c x.messages p at is join in
        record {
          few = few;
          no_sender = ends.no_sender;
          no_receiver = ends.no_receiver;
          place = q;
          by = by;
          transition =
              outcome_transition m accepted h x c low high d o (delivery q by) ends (only_left c x.messages p at is join) allowed
              (ap (λ z. with_messages z (outcome_view m h x c d o [])) here ∙ seen) (rw here passing)
              (λ y s u. by_nobody (rw s sp) (rw u up));
        }

    both_stay : (y : Cell) (posting : Posting) → EndsStep m x c (kept (site_read m x c d) y posting) 0 0 (x.tasks (receiver_of m c)).word
    both_stay y posting = record { sender = stays; receiver = stays; no_sender = λ e. refl; no_receiver = λ e. refl }

    -- a letter that is no word, and both tasks stay; no letter is posted, or one that is no word
    module _ (no_word : word_in l ≡ []) (by : Delivery) (cell : Cell) where
      words_left : words_in left ≡ words_in (messages_on c x.messages)
      words_left = flat_without word_in (messages_on c x.messages) q (place c x.messages p at is).at no_word

      pub kept_transitions : delivery_guard q by (view_of m h x c)
          → with_messages left (outcome_view m h x c d (kept (site_read m x c d) cell Nothing) []) ≡ deliveredView q by (view_of m h x c)
          → Transitions m h x p c d (kept (site_read m x c d) cell Nothing)
      unfolding messages_of
      kept_transitions allowed seen =
          let none = append-nil left in
          transitions_by by (kept (site_read m x c d) cell Nothing) (both_stay cell Nothing) refl refl (omega arith) (posted_nothing c x.processors)
          (rw none (passing_nothing words_left)) allowed (rw none seen)

      pub posted_transitions : {b : Message} {k : ChannelMessage} → Posted c (one b) (one k) → word_in k ≡ [] → delivery_guard q by (view_of m h x c)
          → with_messages (left ++ one k) (outcome_view m h x c d (kept (site_read m x c d) cell (Single b)) []) ≡ deliveredView q by (view_of m h x c)
          → Transitions m h x p c d (kept (site_read m x c d) cell (Single b))
      unfolding messages_of
      posted_transitions {b} {k} join none allowed seen =
          transitions_by by (kept (site_read m x c d) cell (Single b)) (both_stay cell (Single b)) refl refl (omega arith) join
          (passing_nothing (flat_post word_in left k [] none ∙ append-nil (words_in left) ∙ words_left)) allowed seen

-- The rig: the letter at position p, from 1.

-- its delivery is an act of a channel
abbrev pub DeliveredTransition : System → Histories → ℕ → Type 0
DeliveredTransition r h p =
    (q : ℕ) × (a : Delivery) × ChannelTransition (meaning r) h (reading r) (reading (completed (delivered r p))) (delivery q a) (delivered r p).received

module _ (r : System) (shaped : Shaped r) (ok : system_ok r ≡ true) (p : ℕ) (low : 1 ≤ p) (high : p ≤ r.network.used) where
  abbrev rest : System
  rest = emptied r shaped ok p low high

  -- about channel c at desk d
  module _ (c : ChannelId) (d : ProcessorId) (number : channel_number_ok c ≡ true) (processor : processor_ok r.processors d ≡ true) where
    abbrev s : TaskId
    s = sender_of (meaning r) c

    abbrev u : TaskId
    u = receiver_of (meaning r) c

    cell : IsCell d c
    cell = is_cell r shaped ok d c (within_low 1 r.processors d.0 processor) (within_high 1 r.processors d.0 processor) number

    -- its rule does not see it in the mail, and what the rule leaves is read
    site_rest : site_at rest s u c d ≡ site_read (meaning r) (reading r) c d.0
    unfolding site_at entry_at channel_at
    site_rest = site_read_lem r shaped c d cell

    read_rest : (o : Outcome) → length (messages_of r.processors o.posting) ≤ 1
        → (s.0 ≡ 0 → o.sender ≡ task_at r s) → (u.0 ≡ 0 → o.receiver ≡ task_at r u)
        → reading (completed (with_outcome rest s u c d o)) ≡ with_message_read (meaning r) (reading r) (p - 1) c d.0 o
    unfolding reading
    read_rest o few sn un =
        let used = dequeued_used r.network p in
        let posted = messages_of r.processors o.posting in
        read_outcome rest (emptied_shaped r shaped ok p low high) s u c d o cell (sender_few r shaped ok c) (receiver_few r shaped ok c) sn un
        (omega (arith, network_few r shaped ok))
        ∙ ap (λ (x : Reading). with_outcome_read x s u c d.0 o (x.messages ++ posted)) (read_dequeued r shaped p low high (network_few r shaped ok))

    -- the letter a, with its rule
    module _ (h : Histories) (a : Message) (rule : Site → Outcome) (e : message_at r.network p ≡ a)
        (opens : opened rest a ≡ on_channel rest c d rule) where
      abbrev outcome : Outcome
      outcome = rule (site_read (meaning r) (reading r) c d.0)

      effect : delivered r p ≡ with_outcome rest s u c d outcome
      unfolding delivered
      effect = ap (opened rest) e ∙ opens ∙ ap (λ x. with_outcome rest s u c d (rule x)) site_rest

      effect_received : (delivered r p).received ≡ outcome.received
      unfolding with_outcome
      effect_received = ap (λ (x : Effect). x.received) effect

      effect_read : Transitions (meaning r) h (reading r) (p - 1) c d.0 outcome
          → reading (completed (delivered r p)) ≡ with_message_read (meaning r) (reading r) (p - 1) c d.0 outcome
      unfolding reading
      effect_read by = ap (λ x. reading (completed x)) effect ∙ read_rest outcome by.few by.no_sender by.no_receiver

      -- where what the rule leaves is an act, so is the delivery
      pub delivery_transition : (plan_answer (meaning r) ≡ Ok tt → 1 ≤ c.0 → c.0 ≤ 128 → get_elem? (reading r).messages (p - 1) ≡ some a
          → Transitions (meaning r) h (reading r) (p - 1) c d.0 outcome)
          → DeliveredTransition r h p
      delivery_transition transitions =
          let by = transitions (plan_accepted r shaped ok) cell.low cell.high (message_at_lem r shaped ok p low high a e) in
          rw (effect_read by, effect_received) (by.place, by.by, by.transition)
