-- Births, departures and arrivals keep the invariant. A law for the sender and one for the receiver; clauses that are not named are as before.
use mathlib.Core.Path.{◌≡◌, refl, sym, ◌∙◌}
use mathlib.Core.Logic.{◌≢◌, by_cases, inl, inr}
use Prim.Native.Nat.{ℕ, suc, ◌≤◌, ◌<◌}
use native.Mathlib.Omega.{arith}
use native.Mathlib.Decide.{ℕ_discrete}
use Rattle.base.proofs.Updates.{updated_same, updated_other}
use Rattle.rules.specs.declared.channel.Hint.{Hint}
use Rattle.rules.specs.declared.channel.Offer.{Offer}
use Rattle.channel.specs.Updates.{at_number}
use Rattle.channel.specs.Bags.{In}
use Rattle.channel.specs.Hints.{hint_to, Right, Table, Way, Coming}
use Rattle.channel.specs.Messages.{offer, calls, words}
use Rattle.channel.specs.Views.{View, offer_of, sender_at, receiver_at, sent_with, hints_are, held_are, carried_is, travelling_is}
use Rattle.channel.specs.Places.{SenderBorn, sender_born, SenderDeparts, sender_departs, SenderArrives, sender_arrives, ReceiverBorn, receiver_born, ReceiverDeparts, receiver_departs, ReceiverArrives, receiver_arrives}
use Rattle.channel.specs.Invariant.{by_message, by_held, by_carried, by_adverts, Invariant}
use Rattle.channel.proofs.Updates.{at_elim}
use Rattle.channel.proofs.Hints.{newer_right, right_more, depart, arrive, bear, learn, way_more}
use Rattle.channel.proofs.Messages.{no_call_lem, no_word}
use Rattle.channel.proofs.Offers.{OfferLive, NextOffered, SendOffered, taking_over_elim, taking_number, quiets}

module _ (v : View) (i : Invariant v) where
  -- a sender that does not send is now at desk d, or at none, with other pointers
  sender_placed : (d : ℕ) (hints : ℕ → Hint) (h : Hint) → v.sender.sending ≡ 0
      → (1 ≤ v.sender.sent → 1 ≤ d → 1 ≤ (hints d).moves)
      → (1 ≤ v.sender.sent → d ≡ 0 → 1 ≤ h.moves)
      → Table v.processors v.receiver.history v.receiver.moves v.receiver.at hints
      → Right v.receiver.history v.receiver.moves h
      → Invariant (hints_are hints (travelling_is h (sender_at d v)))
  sender_placed d hints h z known known_travelling table right =
      let no : v.sender.sending ≢ 1 = omega arith in
      let offered : v.sender.sending ≡ 1 → NextOffered (sender_at d v) = λ on. absurd (no on) in
      search (arith, no, quiets)

  pub sender_born_keeps : (d : ℕ) → SenderBorn d v → Invariant (sender_born d v)
  sender_born_keeps d g =
      sender_placed d v.tables.hints v.state.travelling
      (let a = i.sender_stands in let b = g.nowhere in omega arith)
      (λ a b. absurd (let c = g.first in omega arith)) (λ a b. absurd (let c = g.first in omega arith)) i.table i.travelling

  pub sender_departs_keeps : SenderDeparts v → Invariant (sender_departs v)
  sender_departs_keeps g =
      sender_placed 0 v.tables.hints (sender_departs v).state.travelling g.idle
      (λ a b. absurd (omega arith)) (λ a b. i.known a g.stands) i.table (i.table.right v.sender.at)

  pub sender_arrives_keeps : (d : ℕ) → SenderArrives d v → Invariant (sender_arrives d v)
  sender_arrives_keeps d g =
      sender_placed d (sender_arrives d v).tables.hints (hint_to 0 0)
      (let a = i.sender_stands in let b = g.moving in omega arith)
      (λ a b. let x = newer_right (v.tables.hints d) v.state.travelling in let y = i.known_travelling a g.moving in rw updated_same (omega arith))
      (λ a b. absurd (let y = g.processor in omega arith))
      (learn d v.state.travelling i.travelling i.table)
      (record { old = omega arith; says = sym i.table.none })

  -- whichever desk gets a new pointer, the sender's still knows where the receiver was
  pointer_known : (x e k : ℕ) → 1 ≤ k → 1 ≤ v.sender.sent → 1 ≤ v.sender.at → 1 ≤ (at_number v.tables.hints x (hint_to e k) v.sender.at).moves
  pointer_known x e k some a b =
      at_elim (λ y h. y ≡ v.sender.at → 1 ≤ h.moves) v.tables.hints x (hint_to e k) (λ q. some) (λ y ne q. rw q (i.known a b)) v.sender.at refl

  -- a receiver that does not receive is now at desk d, or at none, with count m, history h and other pointers
  receiver_placed : (d m : ℕ) (h : ℕ → ℕ) (hints : ℕ → Hint) (held : ℕ → Offer) (c : Offer) → v.receiver.receiving ≡ 0
      → Table v.processors h m d hints
      → (1 ≤ v.sender.sent → 1 ≤ v.sender.at → 1 ≤ (hints v.sender.at).moves)
      → Right h m v.state.travelling
      → ((to d w k : ℕ) → In (offer to d w k) v.messages → Way h m to k)
      → ((x : ℕ) → v.state.granted < (held x).number → Coming d m x (h m))
      → ((x : ℕ) → OfferLive v (held x))
      → OfferLive v c
      → SendOffered (held_are held (carried_is c v))
      → Invariant (hints_are hints (held_are held (carried_is c (sent_with m h (receiver_at d v)))))
  receiver_placed d m h hints held c z table known right way held_for live-held live-carried offered =
      let n = i.counts in
      let no : v.receiver.receiving ≢ 1 = omega arith in
      let c0 : calls v.messages ≡ 0 = omega arith in
      let w0 : words v.messages ≡ 0 = omega arith in
      search (arith, no, no_call_lem, no_word)

  pub receiver_born_keeps : (d : ℕ) → ReceiverBorn d v → Invariant (receiver_born d v)
  receiver_born_keeps d g =
      receiver_placed d 1 (receiver_born d v).receiver.history (receiver_born d v).tables.hints v.tables.held v.state.carried
      (let a = i.receiver_stands in let b = g.nowhere in omega arith)
      (bear d g.processor g.last (rw (g.nowhere, g.first) at i.table)) (pointer_known d d 1 (omega arith))
      (right_more d (rw g.first at i.travelling))
      (λ to e w k m. let y = i.way to e w k m in let a = y.some in let b = y.old in let c = g.first in absurd (omega arith))
      (λ x l. let c = (i.held_for x l).born in let e = g.first in absurd (omega arith))
      i.offer_held i.offer_carried i.offered

  pub receiver_departs_keeps : (e : ℕ) → ReceiverDeparts e v → Invariant (receiver_departs e v)
  receiver_departs_keeps e g =
      let m : ℕ = suc v.receiver.moves in
      receiver_placed 0 m (receiver_departs e v).receiver.history (receiver_departs e v).tables.hints v.tables.held v.state.carried g.idle
      (depart v.receiver.at e g.stands g.processor g.last i.table) (pointer_known v.receiver.at e m (omega arith))
      (right_more e i.travelling)
      (λ to d w k l. way_more e (i.way to d w k l))
      (λ x l. let c = (i.held_for x l).moving in let s = g.stands in absurd (omega arith))
      i.offer_held i.offer_carried i.offered

  -- what is held where it arrives is carried now
  arrived_offered : (d : ℕ) → v.state.granted ≡ v.sender.sent → NextOffered v → NextOffered (receiver_arrives d v)
  arrived_offered d e (by_message to d' k' m) = by_message to d' k' m
  arrived_offered d e (by_held y q) = by_cases (ℕ_discrete y d)
      (λ (z : y ≡ d). by_carried (taking_number v v.state.carried (v.tables.held d) i.offer_carried (i.offer_held d) e (inr (rw z at q))))
      (λ ne. by_held y (rw updated_other q))
  arrived_offered d e (by_carried q) = by_carried (taking_number v v.state.carried (v.tables.held d) i.offer_carried (i.offer_held d) e (inl q))
  arrived_offered d e (by_adverts z f) = by_adverts z f

  pub receiver_arrives_keeps : (d : ℕ) → ReceiverArrives d v → Invariant (receiver_arrives d v)
  receiver_arrives_keeps d g =
      let m : ℕ = v.receiver.moves in
      let new : View = receiver_arrives d v in
      receiver_placed d m v.receiver.history new.tables.hints new.tables.held new.state.carried
      (let a = i.receiver_stands in let b = g.moving in omega arith)
      (arrive d g.born g.sent (rw g.moving at i.table)) (pointer_known d d m g.born)
      i.travelling i.way
      (at_elim (λ y o. v.state.granted < o.number → Coming d m y (v.receiver.history m)) v.tables.held d (offer_of 0 0)
      (λ l. absurd (omega arith)) (λ y ne l. absurd (ne ((i.held_for y l).sent ∙ sym g.sent))))
      (at_elim (λ y. OfferLive v) v.tables.held d (offer_of 0 0) (λ l. absurd (omega arith)) (λ y ne. i.offer_held y))
      (taking_over_elim (OfferLive v) v.state.granted v.state.carried (v.tables.held d) i.offer_carried (i.offer_held d))
      (λ on e. arrived_offered d e (i.offered on e))
