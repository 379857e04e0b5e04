-- Sends and receives keep the invariant. One law for the two ways in which a word passes directly, and one for the answers.
use mathlib.Core.Path.{◌≡◌, refl, sym, ◌∙◌}
use mathlib.Core.Logic.{◌≢◌, inl, inr, by_cases, ⊎_elim}
use mathlib.Core.List.Memᴰ
use mathlib.Core.List.{List}
use Prim.Native.Nat.{ℕ, suc, ◌≤◌, ◌<◌}
use native.Mathlib.Omega.{arith}
use native.Mathlib.Decide.{dec_le}
use Rattle.base.proofs.Updates.{updated_same}
use Rattle.plan.specs.declared.ProcessorId.{ProcessorId}
use Rattle.rules.specs.declared.channel.Offer.{Offer}
use Rattle.rules.specs.Cells.{larger}
use Rattle.channel.specs.Bags.{In}
use Rattle.channel.specs.Messages.{ChannelMessage, offer, call, is_call, is_word, kind, adverts}
use Rattle.channel.specs.Views.{View, offer_of, with_messages, sending_is, sent_is, receiving_is, received_is, noted_are, granted_is, awaiting_is, carried_is}
use Rattle.channel.specs.Transfers.{Sends, SendPasses, send_passes, SendCarried, send_carried, SendAdvertised, send_advertised, SendHeld, send_held, SendPosted, send_posted, ReceivePasses, receive_passes, ReceiveWaits, receive_waits, answered, CarriedAnswered, carried_answered, NotedAnswered, noted_answered}
use Rattle.channel.specs.Invariant.{Live, CallOk, by_message, by_held, by_carried, by_adverts, Invariant}
use Rattle.channel.proofs.Bags.{total_append, total_post, in_new}
use Rattle.channel.proofs.Hints.{unknown, known, names_itself, coming, pointed}
use Rattle.channel.proofs.Adverts.{adverts_in, in_adverts, post_adverts, total_adverts_zero}
use Rattle.channel.proofs.Messages.{post_other, post_offer, post_call, no_call_lem, no_word}
use Rattle.channel.proofs.Offers.{OfferLive, IsNext, NextOffered, SendOffered, ComingTo, CountsWith, IdleCarried, NetworkOk, larger_elim, held_elim, larger_number, quiet, advert_quiet, live_more, done, quiets}
use Rattle.channel.specs.Hints.{Way}

-- the offer of a send that begins: it is of the send under way, and its number is kept where it stands beside another
abbrev next_offer : View → Offer
next_offer v = offer_of v.sender.at (suc v.sender.sent)

next_live : (v : View) → OfferLive (sending_is 1 v) (next_offer v)
next_live v l = record { on = refl; number = refl; from = refl }

next_number : (v : View) → Sends v → (o : Offer) → OfferLive v o → v.state.granted ≡ v.sender.sent → IsNext v (larger o (next_offer v)).number
next_number v s o q e = larger_number (sending_is 1 v) o (next_offer v) (quiet s.idle q) (next_live v) e (inr refl)

module _ (v : View) (i : Invariant v) where
  pub send_carried_keeps : SendCarried v → Invariant (send_carried v)
  send_carried_keeps g =
      let z : v.sender.sending ≡ 0 = g.send.idle in
      let c = i.counts in
      let live = larger_elim (OfferLive (send_carried v)) v.state.carried (next_offer v) (quiet z i.offer_carried) (next_live v) in
      let next : SendOffered (send_carried v) = λ on e. by_carried (next_number v g.send v.state.carried i.offer_carried e) in
      let busy : IdleCarried (send_carried v) = λ on e. absurd (g.busy on e) in
      search (arith, g.busy, quiets)

  pub send_held_keeps : SendHeld v → Invariant (send_held v)
  send_held_keeps g =
      let z : v.sender.sending ≡ 0 = g.send.idle in
      let c = i.counts in
      let d : ℕ = v.sender.at in
      let live = held_elim (λ y. OfferLive (send_held v)) v.tables.held d (next_offer v) (λ y. quiet z (i.offer_held y)) (next_live v) in
      let next : SendOffered (send_held v) = λ on e. by_held d (rw updated_same (next_number v g.send (v.tables.held d) (i.offer_held d) e)) in
      let (last, born) = names_itself i.table d g.send.stands g.named in
      let there : ComingTo v d = coming i.table d last born g.away in
      let held_for = held_elim (λ y o. v.state.granted < o.number → ComingTo v y) v.tables.held d (next_offer v) i.held_for (λ l. there) in
      let apart : d ≢ v.receiver.at = λ r. g.away (sym r) in
      search (arith, quiets)

  pub receive_waits_keeps : ReceiveWaits v → Invariant (receive_waits v)
  receive_waits_keeps g = let c = i.counts in search arith

  pub send_advertised_keeps : SendAdvertised v → Invariant (send_advertised v)
  unfolding is_call is_word kind
  send_advertised_keeps g =
      let z : v.sender.sending ≡ 0 = g.send.idle in
      let d : ℕ = v.sender.at in
      let n : ℕ = v.processors in
      let c = i.counts in
      let a = total_append is_call v.messages (adverts d n) in
      let b = total_append is_word v.messages (adverts d n) in
      let e = total_adverts_zero is_call d (λ x. refl) n in
      let f = total_adverts_zero is_word d (λ x. refl) n in
      let network : NetworkOk (send_advertised v) = record {
        way = λ to e w k m. i.way to e w k (old (omega arith) m);
        offers = λ to e w k m. quiet z (i.offer_messages to e w k (old (omega arith) m));
        adverts = λ to e m. ⊎_elim (λ q. advert_quiet z (i.advert_messages to e q))
            (λ q c.
            let a = adverts_in d n q in
            let r = a.is in
            let s : to ≡ a.to = cc in
            record { on = refl; from = (cc); other = λ q. a.other (sym s ∙ q) }) (Memᴰ.append_cases v.messages m);
        calls = λ to e k m. let q = (i.call_messages to e k (old (omega arith) m)).on in absurd (omega arith);
        words = λ to x m. i.word_messages to x (old (omega arith) m);
      } in
      let unsent : v.sender.sent ≡ 0 = by_cases (dec_le 1 v.sender.sent)
      (λ l. let q = i.known l g.send.stands in let u = unknown i.table d g.unknown in absurd (omega arith)) (λ l. omega arith) in
      let next : NextOffered (send_advertised v) = by_adverts unsent (λ x l u ne. inl (Memᴰ.append_right v.messages (in_adverts d n x l u ne))) in
      let apart : d ≢ v.receiver.at = λ r. g.away (sym r) in
      search (arith, quiets)
    where
      old : {m : ChannelMessage} → kind m ≢ 1 → In m (send_advertised v).messages → In m v.messages
      old = post_adverts v.messages v.sender.at v.processors

  pub send_posted_keeps : SendPosted v → Invariant (send_posted v)
  unfolding is_call is_word kind
  send_posted_keeps g =
      let z : v.sender.sending ≡ 0 = g.send.idle in
      let d : ℕ = v.sender.at in
      let x : ChannelMessage = offer (v.tables.hints d).processor.0 d (suc v.sender.sent) (v.tables.hints d).moves in
      let c = i.counts in
      let e = total_post is_call v.messages x in
      let f = total_post is_word v.messages x in
      let network : NetworkOk (send_posted v) = record {
        way = λ to e w k m. post_offer (λ to e w k. Way v.receiver.history v.receiver.moves to k) v.messages
            (pointed (i.table.right d) (known i.table d (let k = g.known in omega arith))) (i.way to e w k) m;
        offers = λ to e w k m. post_offer (λ to e w k. Live v.state.granted 1 v.sender.sent d e w) v.messages
            (next_live v) (λ m. quiet z (i.offer_messages to e w k m)) m;
        adverts = λ to e m. advert_quiet z (i.advert_messages to e (post_other v.messages x (omega arith) m));
        calls = λ to e k m. let q = (i.call_messages to e k (post_other v.messages x (omega arith) m)).on in absurd (omega arith);
        words = λ to y m. i.word_messages to y (post_other v.messages x (omega arith) m);
      } in
      let next : NextOffered (send_posted v) = by_message (v.tables.hints d).processor.0 d (v.tables.hints d).moves (in_new v.messages x) in
      let apart : d ≢ v.receiver.at = λ r. g.away (sym r) in
      search (arith, quiets)

  -- a word passes directly: both ends are ready, g is called and c carried
  passed : (s r g : ℕ) (c : Offer) → s ≡ 0 → r ≡ 0 → g ≡ suc v.sender.sent → OfferLive v c → v.state.awaiting ≡ 0
      → 1 ≤ v.receiver.at → v.sender.at ≡ v.receiver.at
      → Invariant
      (sent_is (suc v.sender.sent) (received_is (suc v.receiver.received) (carried_is c (awaiting_is 0 (granted_is g (receiving_is r (sending_is s v)))))))
  passed s r g c zs zr new live zero stands here =
      let n = i.counts in
      let sent : ℕ = suc v.sender.sent in
      let gone : (d w : ℕ) → OfferLive v (offer_of d w) → Live g s sent v.sender.at d w = λ d w f l. done (omega arith) f (omega arith) in
      record {
        counts = omega arith;
        sender_stands = omega arith;
        receiver_stands = omega arith;
        table = i.table;
        travelling = i.travelling;
        way = i.way;
        offer_messages = λ to e w k m. gone e w (i.offer_messages to e w k m);
        offer_held = λ x. gone _ _ (i.offer_held x);
        offer_carried = gone _ _ live;
        advert_messages = λ to e m q. absurd (omega arith);
        advert_noted_lem = λ x l q. absurd (omega arith);
        call_messages = λ to e k m. no_call_lem (omega arith) m;
        word_messages = λ to x m. no_word (omega arith) m;
        known = λ a b. let t = i.table.top stands in let u = i.table.born stands in rw here (omega arith);
        known_travelling = λ a e. absurd (omega arith);
        offered = λ on e. absurd (omega arith);
        held_for = λ x l. i.held_for x (omega arith);
        idle_carried = λ on e. absurd (omega arith);
        idle_noted = λ on e. absurd (omega arith);
        idle_apart = λ on e. absurd (omega arith);
      }

  pub send_passes_keeps : SendPasses v → Invariant (send_passes v)
  send_passes_keeps g =
      passed v.sender.sending 0 (send_passes v).state.granted v.state.carried g.send.idle refl refl i.offer_carried g.uncalled
      (let a = g.send.stands in let h = g.here in omega arith) (sym g.here)

  pub receive_passes_keeps : ReceivePasses v → Invariant (receive_passes v)
  receive_passes_keeps g =
      passed 0 v.receiver.receiving (receive_passes v).state.granted (offer_of 0 0) refl g.idle refl (λ l. absurd (omega arith))
      (let c = i.counts in let z = g.idle in omega arith) g.stands g.here

  -- an answer to desk d, the sender's; no letter is new but the call, and none of those that are gone was a call or a word
  pub answered_keeps : (d r : ℕ) (c : Offer) (noted : ℕ → ProcessorId) (ls : List ChannelMessage) → r ≡ 1 → 1 ≤ v.receiver.at
      → v.state.awaiting ≡ 0 → v.sender.sending ≡ 1 → d ≡ v.sender.at → OfferLive v c
      → ((m : ChannelMessage) → In m ls → In m v.messages) → CountsWith v ls
      → Invariant (answered d (receiving_is r (carried_is c (noted_are noted (with_messages ls v)))))
  unfolding is_call is_word kind
  answered_keeps d r c noted ls on stands zero sending from live old n =
      let x : ChannelMessage = call d v.receiver.at v.receiver.moves in
      record {
        counts = let e = total_post is_call ls x in let f = total_post is_word ls x in omega arith;
        sender_stands = i.sender_stands;
        receiver_stands = omega arith;
        table = i.table;
        travelling = i.travelling;
        way = λ to e w k m. i.way to e w k (old _ (post_other ls x (omega arith) m));
        offer_messages = λ to e w k m. live_more (i.offer_messages to e w k (old _ (post_other ls x (omega arith) m)));
        offer_held = λ x. live_more (i.offer_held x);
        offer_carried = live_more live;
        advert_messages = λ to e m q. absurd (omega arith);
        advert_noted_lem = λ x l q. absurd (omega arith);
        call_messages = λ to e k m. post_call (CallOk v.sender.sending v.sender.at v.receiver.at v.receiver.moves) ls
            (record { on = sending; to_sender = from; from_receiver = refl; count = refl }) (λ m. i.call_messages to e k (old _ m)) m;
        word_messages = λ to y m. i.word_messages to y (old _ (post_other ls x (omega arith) m));
        known = i.known;
        known_travelling = i.known_travelling;
        offered = λ on e. absurd (omega arith);
        held_for = λ x l. i.held_for x (omega arith);
        idle_carried = λ on e. absurd (omega arith);
        idle_noted = λ on e. absurd (omega arith);
        idle_apart = λ on e. absurd (omega arith);
      }

  pub carried_answered_keeps : CarriedAnswered v → Invariant (carried_answered v)
  carried_answered_keeps g =
      let now = i.offer_carried g.counts in
      let c = i.counts in
      let z = g.receive.idle in
      answered_keeps v.state.carried.processor.0 1 (offer_of 0 0) v.tables.noted v.messages refl g.receive.stands
      (omega arith) now.on now.from (λ l. absurd (omega arith)) (λ x m. m) c

  pub noted_answered_keeps : NotedAnswered v → Invariant (noted_answered v)
  noted_answered_keeps g =
      let now = i.advert_noted_lem v.receiver.at g.noted g.first in
      let c = i.counts in
      let z = g.receive.idle in
      answered_keeps (v.tables.noted v.receiver.at).0 1 v.state.carried (noted_answered v).tables.noted v.messages refl g.receive.stands
      (omega arith) now.on now.from i.offer_carried (λ x m. m) c
