-- Deliveries keep the invariant. Clauses that are not named are as before, or are of the letters that are left.
use mathlib.Core.Path.{◌≡◌, refl, sym}
use mathlib.Core.Logic.{◌≢◌, by_cases, ◌⊎◌, inl, inr, ⊎_elim}
use mathlib.Core.Option.{some}
use mathlib.Core.List.{List}
use Prim.Native.Nat.{ℕ, suc, ◌≤◌, ◌<◌}
use native.Mathlib.Omega.{arith}
use native.Mathlib.Decide.{ℕ_discrete}
use lib.ListN.{get_elem?}
use Rattle.base.proofs.Updates.{updated_same, updated_other}
use Rattle.plan.specs.declared.Word.{Word}
use Rattle.plan.specs.Numbers.{processor_id}
use Rattle.rules.specs.declared.channel.Offer.{Offer}
use Rattle.rules.specs.Cells.{larger, first_noted}
use Rattle.channel.specs.Bags.{In, one, without}
use Rattle.channel.specs.Hints.{hint_to, Right, Way}
use Rattle.channel.specs.Messages.{ChannelMessage, offer, advert, call, word, is_call, is_word, kind}
use Rattle.channel.specs.Views.{View, offer_of}
use Rattle.channel.specs.Deliveries.{taken, Dropped, OfferAnswered, offer_answered, Carried, carried, Forwarded, forwarded, Held, held, AdvertAnswered, AdvertNoted, advert_noted, Called, called, WordTaken, word_taken}
use Rattle.channel.specs.Invariant.{Advertised, by_message, by_held, by_carried, by_adverts, Invariant}
use Rattle.channel.proofs.Updates.{at_elim}
use Rattle.channel.proofs.Bags.{total_without, total_post, in_at, in_without, in_or_taken, in_new, in_front}
use Rattle.channel.proofs.Hints.{newer_right, held_coming, right_here, learn, pointed}
use Rattle.channel.proofs.Messages.{in_other, post_other, post_offer, post_word, no_call_lem, same_calls, same_words}
use Rattle.channel.proofs.Offers.{OfferLive, IsNext, NextOffered, SendOffered, ComingTo, CountsWith, IdleCarried, NetworkOk, larger_elim, held_elim, larger_number, noted_elim, first_noted_some, done_called}
use Rattle.channel.proofs.TransfersKeep.{answered_keeps}

-- what is said of letters holds of those that are left when one is taken; if it is no call and no word, the numbers stay
module _ (v : View) (i : Invariant v) (p : ℕ) where
  left : NetworkOk (taken p v)
  left = record {
    way = λ to d w k m. i.way to d w k (in_without v.messages p m);
    offers = λ to d w k m. i.offer_messages to d w k (in_without v.messages p m);
    adverts = λ to d m. i.advert_messages to d (in_without v.messages p m);
    calls = λ to d k m. i.call_messages to d k (in_without v.messages p m);
    words = λ to x m. i.word_messages to x (in_without v.messages p m);
  }

  left_counts : (m : ChannelMessage) → get_elem? v.messages p ≡ some m → is_call m ≡ 0 → is_word m ≡ 0 → CountsWith v (without v.messages p)
  left_counts m e c w = let n = i.counts in let a = same_calls v.messages p m e c in let b = same_words v.messages p m e w in omega arith

-- an offer is delivered
module _ (v : View) (i : Invariant v) (p x d w k : ℕ) (message : get_elem? v.messages p ≡ some (offer x d w k)) where
  now : OfferLive v (offer_of d w)
  now = i.offer_messages x d w k (in_at v.messages p message)

  -- if it joins another, the number of the next send is kept
  joined_number : (o : Offer) → OfferLive v o → v.state.granted ≡ v.sender.sent → IsNext v o.number ⊎ IsNext v w
      → IsNext v (larger o (offer_of d w)).number
  joined_number o live e s = larger_number v o (offer_of d w) live now e s

  -- the next send was offered by this letter, by one that is left, or by none
  offered_left : {C : Type 0} → v.sender.sending ≡ 1 → v.state.granted ≡ v.sender.sent
      → (IsNext v w → C)
      → ((to d k : ℕ) → In (offer to d (suc v.sender.sent) k) (without v.messages p) → C)
      → ((y : ℕ) → IsNext v (v.tables.held y).number → C)
      → (IsNext v v.state.carried.number → C)
      → (v.sender.sent ≡ 0 → ((y : ℕ) → 1 ≤ y → y ≤ v.processors → y ≢ v.sender.at
      → In (advert y v.sender.at) (without v.messages p) ⊎ (1 ≤ (v.tables.noted y).0)) → C)
      → C
  unfolding kind
  offered_left {C} on e this left held carried adverts = go (i.offered on e)
    where
      go : NextOffered v → C
      go (by_message to d' k' m) =
          ⊎_elim (λ (q : offer to d' (suc v.sender.sent) k' ≡ offer x d w k). this (cc)) (left to d' k') (in_or_taken v.messages p message m)
      go (by_held y q) = held y q
      go (by_carried q) = carried q
      go (by_adverts z f) = adverts z (λ y l u ne. ⊎_elim (λ m. inl (in_other v.messages p (omega arith) message m)) inr (f y l u ne))

  -- so it is still offered when the letter is dropped, carried, held or forwarded
  dropped_offered : w ≤ v.state.granted → SendOffered (taken p v)
  dropped_offered s on e = offered_left on e (λ q. absurd (omega arith)) by_message by_held by_carried by_adverts

  carried_offered : SendOffered (carried p d w v)
  carried_offered on e = offered_left on e (λ q. by_carried (number (inr q))) by_message by_held (λ q. by_carried (number (inl q))) by_adverts
    where
      number : IsNext v v.state.carried.number ⊎ IsNext v w → IsNext v (carried p d w v).state.carried.number
      number = joined_number v.state.carried i.offer_carried e

  held_offered : SendOffered (held p x d w v)
  held_offered on e = offered_left on e (λ q. by_held x (number (inr q))) by_message
      (λ y q. by_cases (ℕ_discrete y x) (λ (z : y ≡ x). by_held x (number (inl (rw z at q)))) (λ ne. by_held y (rw updated_other q)))
      by_carried by_adverts
    where
      number : IsNext v (v.tables.held x).number ⊎ IsNext v w → IsNext v ((held p x d w v).tables.held x).number
      number s = rw updated_same (joined_number (v.tables.held x) (i.offer_held x) e s)

  forwarded_offered : SendOffered (forwarded p x d w v)
  forwarded_offered on e = offered_left on e
      (λ (r : IsNext v w). by_message (v.tables.hints x).processor.0 d (v.tables.hints x).moves (rw (← r) (in_new (without v.messages p) onward)))
      (λ to d' k' m. by_message to d' k' (in_front (one onward) m))
      by_held by_carried
      (λ z f. by_adverts z (λ y l u ne. ⊎_elim (λ m. inl (in_front (one onward) m)) inr (f y l u ne)))
    where
      onward : ChannelMessage
      onward = offer (v.tables.hints x).processor.0 d w (v.tables.hints x).moves

module _ (v : View) (i : Invariant v) where
  pub dropped_keeps : (p x d w k : ℕ) → Dropped p x d w k v → Invariant (taken p v)
  unfolding is_call is_word
  dropped_keeps p x d w k g =
      let n = left_counts v i p (offer x d w k) g.message refl refl in
      let network = left v i p in
      let next = dropped_offered v i p x d w k g.message g.stale in
      search arith

  pub offer_answered_keeps : (p x d w k : ℕ) → OfferAnswered p x d w k v → Invariant (offer_answered p d v)
  unfolding is_call is_word
  offer_answered_keeps p x d w k g =
      let current = now v i p x d w k g.message g.counts in
      answered_keeps v i d v.receiver.receiving v.state.carried v.tables.noted (without v.messages p) g.receiving
      (let a = g.receiving in let b = i.receiver_stands in omega arith) g.uncalled current.on current.from i.offer_carried
      (λ y m. in_without v.messages p m) (left_counts v i p (offer x d w k) g.message refl refl)

  pub carried_keeps : (p x d w k : ℕ) → Carried p x d w k v → Invariant (carried p d w v)
  unfolding is_call is_word
  carried_keeps p x d w k g =
      let n = left_counts v i p (offer x d w k) g.message refl refl in
      let network = left v i p in
      let live = larger_elim (OfferLive v) v.state.carried (offer_of d w) i.offer_carried (now v i p x d w k g.message) in
      let next = carried_offered v i p x d w k g.message in
      let busy : IdleCarried (carried p d w v) = λ on e. absurd (g.busy on e) in
      search arith

  pub held_keeps : (p x d w k : ℕ) → Held p x d w k v → Invariant (held p x d w v)
  unfolding is_call is_word
  held_keeps p x d w k g =
      let n = left_counts v i p (offer x d w k) g.message refl refl in
      let network = left v i p in
      let live = held_elim (λ y. OfferLive v) v.tables.held x (offer_of d w) i.offer_held (now v i p x d w k g.message) in
      let next = held_offered v i p x d w k g.message in
      let y = i.way x d w k (in_at v.messages p g.message) in
      let there : ComingTo v x = held_coming i.table y g.nothing_newer g.away in
      let held_for = held_elim (λ y o. v.state.granted < o.number → ComingTo v y) v.tables.held x (offer_of d w) i.held_for (λ l. there) in
      search arith

  pub forwarded_keeps : (p x d w k : ℕ) → Forwarded p x d w k v → Invariant (forwarded p x d w v)
  unfolding is_call is_word kind
  forwarded_keeps p x d w k g =
      let ls : List ChannelMessage = without v.messages p in
      let e : ℕ = (v.tables.hints x).processor.0 in
      let j : ℕ = (v.tables.hints x).moves in
      let n = left_counts v i p (offer x d w k) g.message refl refl in
      let a = total_post is_call ls (offer e d w j) in
      let b = total_post is_word ls (offer e d w j) in
      let network : NetworkOk (forwarded p x d w v) = record {
        way = λ to e u c m. post_offer (λ to e u c. Way v.receiver.history v.receiver.moves to c) ls
            (pointed (i.table.right x) (let l = g.newer in omega arith)) ((left v i p).way to e u c) m;
        offers = λ to e u c m. post_offer (λ to e u c. OfferLive v (offer_of e u)) ls (now v i p x d w k g.message) ((left v i p).offers to e u c) m;
        adverts = λ to e' m. (left v i p).adverts to e' (post_other ls (offer e d w j) (omega arith) m);
        calls = λ to e' k m. (left v i p).calls to e' k (post_other ls (offer e d w j) (omega arith) m);
        words = λ to y m. (left v i p).words to y (post_other ls (offer e d w j) (omega arith) m);
      } in
      let next = forwarded_offered v i p x d w k g.message in
      search arith

  pub advert_answered_keeps : (p x d : ℕ) → AdvertAnswered p x d v → Invariant (offer_answered p d v)
  unfolding is_call is_word
  advert_answered_keeps p x d g =
      let current = i.advert_messages x d (in_at v.messages p g.message) g.first in
      let n = i.counts in
      let f = g.first in
      answered_keeps v i d v.receiver.receiving v.state.carried v.tables.noted (without v.messages p) g.receiving
      (let a = g.receiving in let b = i.receiver_stands in omega arith) (omega arith) current.on current.from i.offer_carried
      (λ y m. in_without v.messages p m) (left_counts v i p (advert x d) g.message refl refl)

  -- an advert is noted: where an advert is noted one stays noted, the next send is still offered, and nothing is noted where the receiver waits
  module _ (p x d : ℕ) (g : AdvertNoted p x d v) where
    noted_still : (y : ℕ) → 1 ≤ (v.tables.noted y).0 → 1 ≤ ((advert_noted p x d v).tables.noted y).0
    noted_still y l =
        at_elim (λ u a. u ≡ y → 1 ≤ a.0) v.tables.noted x (first_noted (v.tables.noted x) (processor_id d))
        (λ (e : x ≡ y). first_noted_some (v.tables.noted x) (processor_id d) (inl (rw e l))) (λ u ne (e : u ≡ y). rw e l) y refl

    noted_offered : v.sender.sending ≡ 1 → NextOffered v → NextOffered (advert_noted p x d v)
    unfolding kind
    noted_offered on (by_message to d' k' m) = by_message to d' k' (in_other v.messages p (omega arith) g.message m)
    noted_offered on (by_held y q) = by_held y q
    noted_offered on (by_carried q) = by_carried q
    noted_offered on (by_adverts z f) = by_adverts z
        (λ y l u ne. ⊎_elim (λ m. ⊎_elim (this y) inl (in_or_taken v.messages p g.message m)) (λ l. inr (noted_still y l)) (f y l u ne))
      where
        this : (y : ℕ) → advert y v.sender.at ≡ advert x d
            → In (advert y v.sender.at) (without v.messages p) ⊎ (1 ≤ ((advert_noted p x d v).tables.noted y).0)
        this y q =
            let a : y ≡ x = cc in
            let b : v.sender.at ≡ d = cc in
            let c = i.sender_stands in
            inr (rw (a, updated_same) (first_noted_some (v.tables.noted x) (processor_id d) (inr (omega arith))))

    noted_idle : v.receiver.receiving ≡ 1 → v.state.awaiting ≡ 0 → v.state.granted ≡ 0 → ((advert_noted p x d v).tables.noted v.receiver.at).0 ≡ 0
    noted_idle on z f =
        at_elim (λ y a. y ≡ v.receiver.at → a.0 ≡ 0) v.tables.noted x (first_noted (v.tables.noted x) (processor_id d))
        (λ q. absurd (g.not_now (sym q) on f)) (λ y ne q. rw q (i.idle_noted on z f)) v.receiver.at refl

  pub advert_noted_keeps : (p x d : ℕ) → AdvertNoted p x d v → Invariant (advert_noted p x d v)
  unfolding is_call is_word
  advert_noted_keeps p x d g =
      let n = left_counts v i p (advert x d) g.message refl refl in
      let network = left v i p in
      let this = i.advert_messages x d (in_at v.messages p g.message) in
      let noted = noted_elim (λ y a. 1 ≤ a.0 → v.state.granted ≡ 0 → Advertised v.sender.sending v.sender.at a.0 y)
      v.tables.noted x (processor_id d) i.advert_noted_lem (λ l. this) in
      let next : SendOffered (advert_noted p x d v) = λ on e. noted_offered p x d g on (i.offered on e) in
      let idle = noted_idle p x d g in
      search arith

  pub word_taken_keeps : (p x : ℕ) (value : Word) → WordTaken p x value v → Invariant (word_taken p v)
  unfolding is_call is_word kind
  word_taken_keeps p x value g =
      let n = i.counts in
      let s = g.called in
      let r = g.receiving in
      let c = total_without is_call v.messages p (word x value) g.message in
      let a = total_without is_word v.messages p (word x value) g.message in
      let network = left v i p in
      let next : SendOffered (taken p v) = λ on e. go (i.offered on e) in
      let idle : ◌≢◌ {A = ℕ} 0 1 = omega arith in
      search (arith, idle)
    where
      go : NextOffered v → NextOffered (taken p v)
      go (by_message to d' k' m) = by_message to d' k' (in_other v.messages p (omega arith) g.message m)
      go (by_held y q) = by_held y q
      go (by_carried q) = by_carried q
      go (by_adverts z f) = by_adverts z (λ y l u ne. ⊎_elim (λ m. inl (in_other v.messages p (omega arith) g.message m)) inr (f y l u ne))

  pub called_keeps : (p x d k : ℕ) (value : Word) → Called p x d k v → Invariant (called p x d k value v)
  unfolding is_call is_word kind
  called_keeps p x d k value g =
      let ls : List ChannelMessage = without v.messages p in
      let ok = i.call_messages x d k (in_at v.messages p g.message) in
      let n = i.counts in
      let c = total_without is_call v.messages p (call x d k) g.message in
      let a = total_without is_word v.messages p (call x d k) g.message in
      let b = total_post is_call ls (word d value) in
      let f = total_post is_word ls (word d value) in
      let all : v.state.granted ≡ suc v.sender.sent = omega arith in
      let stands : 1 ≤ v.receiver.at = let r = i.receiver_stands in omega arith in
      let right : Right v.receiver.history v.receiver.moves (hint_to d k) = rw (ok.from_receiver, ok.count) (right_here i.table stands) in
      let newer = newer_right (v.tables.hints x) (hint_to d k) in
      let born = i.table.born stands in
      let known : 1 ≤ ((called p x d k value v).tables.hints x).moves = rw updated_same (omega arith) in
      record {
        counts = omega arith;
        sender_stands = omega arith;
        receiver_stands = i.receiver_stands;
        table = learn x (hint_to d k) right i.table;
        travelling = i.travelling;
        way = λ to e w k m. (left v i p).way to e w k (post_other ls (word d value) (omega arith) m);
        offer_messages = λ to e w k m. done_called all ((left v i p).offers to e w k (post_other ls (word d value) (omega arith) m));
        offer_held = λ x. done_called all (i.offer_held x);
        offer_carried = done_called all i.offer_carried;
        advert_messages = λ to e m q. absurd (omega arith);
        advert_noted_lem = λ x l q. absurd (omega arith);
        call_messages = λ to e k' m. no_call_lem (omega arith) m;
        word_messages = λ to y m. post_word (λ to. to ≡ v.receiver.at) ls value ok.from_receiver ((left v i p).words to y) m;
        known = λ a b. rw g.here known;
        known_travelling = λ a e. let o = g.sending in let s = i.sender_stands in absurd (omega arith);
        offered = λ on e. absurd (omega arith);
        held_for = i.held_for;
        idle_carried = i.idle_carried;
        idle_noted = i.idle_noted;
        idle_apart = λ on e q. absurd (omega arith);
      }
