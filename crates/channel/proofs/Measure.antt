-- Laws of a channel's measure: each delivery makes it smaller, a send or a receive adds at most 3 and the number of desks, who is born or
-- arrives leaves it as it is, and each letter counts for at most 10.
use mathlib.Core.Path.{◌≡◌, refl, ap}
use mathlib.Core.Bool.{Bool, true, false, true≢false}
use mathlib.Core.Option.{some}
use mathlib.Core.List.{List, [], ◌∷◌, ◌++◌}
use Prim.Native.Nat.{ℕ, zero, suc, ◌+◌, ◌*◌, ◌≤◌, ◌<◌}
use native.Mathlib.Omega.{arith}
use lib.ListN.{get_elem?, length}
use Rattle.channel.specs.Updates.{at_number}
use Rattle.channel.specs.Bags.{In, one, without, total}
use Rattle.channel.specs.Messages.{ChannelMessage, offer, advert, call, word, is_advert, adverts}
use Rattle.channel.specs.Views.{View}
use Rattle.channel.specs.Events.{Place, sender_born_lem, sender_arrives_lem, receiver_born_lem, receiver_arrives_lem, sender_departs_lem, receiver_departs_lem, Transfer, send_passes_lem, send_carried_lem, send_advertised_lem, send_held_lem, send_posted_lem, receive_passes_lem, receive_waits_lem, carried_answered_lem, noted_answered_lem, Delivery, offer_dropped, offer_answered_lem, offer_carried, offer_forwarded, offer_held, advert_answered, advert_noted_lem, call_taken, word_taken_lem, place_guard, placed, transfer_guard, transferred, delivery_guard, delivered}
use Rattle.channel.specs.Invariant.{Invariant}
use Rattle.channel.specs.Measure.{weight, extra, measure}
use Rattle.channel.proofs.Bags.{total_append, total_post, total_without, total_same, in_at}
use Rattle.channel.proofs.Forwards.{forwards_most, forward_falls}
use Rattle.channel.proofs.Adverts.{total_adverts}

extra_mono : (g a b : ℕ) → a ≤ b → extra g a ≤ extra g b
unfolding extra
extra_mono zero zero b l = omega arith
extra_mono zero (suc a) zero l = absurd (omega arith)
extra_mono zero (suc a) (suc b) l = omega arith
extra_mono (suc g) a b l = omega arith

extra_most : (g a : ℕ) → (extra g a ≤ 2) × (extra g a ≤ 2 * a)
unfolding extra
extra_most zero zero = (omega arith, omega arith)
extra_most zero (suc a) = (omega arith, omega arith)
extra_most (suc g) a = (omega arith, omega arith)

extra_two : (g a : ℕ) → g ≡ 0 → 1 ≤ a → extra g a ≡ 2
unfolding extra
extra_two zero zero e l = absurd (omega arith)
extra_two zero (suc a) e l = refl
extra_two (suc g) a e l = absurd (omega arith)

-- the weight of a letter in a view, and how many deliveries given letters can ask for
abbrev weigh : View → ChannelMessage → ℕ
weigh v = weight v.receiver.history v.receiver.moves v.processors

abbrev asked : View → List ChannelMessage → ℕ
asked v xs = total (weigh v) xs + extra v.state.granted (total is_advert xs)

module _ (v : View) (p : ℕ) (m : ChannelMessage) (at : get_elem? v.messages p ≡ some m) where
  -- one letter less, nothing called
  less : 1 ≤ weigh v m → asked v (without v.messages p) < asked v v.messages
  less l =
      let a = total_without (weigh v) v.messages p m at in
      let b = total_without is_advert v.messages p m at in
      let c = extra_mono v.state.granted (total is_advert (without v.messages p)) (total is_advert v.messages) (omega arith) in
      omega arith

  -- a lighter letter for this one, and no advert
  lighter : (n : ChannelMessage) → weigh v n < weigh v m → is_advert n ≡ 0 → asked v (without v.messages p ++ one n) < asked v v.messages
  lighter n l z =
      let a = total_without (weigh v) v.messages p m at in
      let b = total_without is_advert v.messages p m at in
      let d = total_post (weigh v) (without v.messages p) n in
      let e = total_post is_advert (without v.messages p) n in
      let c = extra_mono v.state.granted (total is_advert (without v.messages p ++ one n)) (total is_advert v.messages) (omega arith) in
      omega arith

pub delivery_falls : (p : ℕ) (a : Delivery) (v : View) → Invariant v → delivery_guard p a v → measure (delivered p a v) < measure v
unfolding delivery_guard delivered measure weight is_advert extra
delivery_falls p (offer_dropped x d w k) v i g = less v p (offer x d w k) g.message (omega arith)
delivery_falls p (offer_carried x d w k) v i g = less v p (offer x d w k) g.message (omega arith)
delivery_falls p (offer_held x d w k) v i g = less v p (offer x d w k) g.message (omega arith)
delivery_falls p (advert_noted_lem x d) v i g = less v p (advert x d) g.message (omega arith)
delivery_falls p (word_taken_lem x value) v i g = less v p (word x value) g.message (omega arith)
delivery_falls p (call_taken x d k value) v i g = lighter v p (call x d k) g.message (word d value) (omega arith) refl
delivery_falls p (offer_forwarded x d w k) v i g =
    let y = i.way x d w k (in_at v.messages p g.message) in
    let s = forward_falls i.table x k y.some y.old y.says g.newer in
    lighter v p (offer x d w k) g.message (offer (v.tables.hints x).processor.0 d w (v.tables.hints x).moves) (omega arith) refl
delivery_falls p (offer_answered_lem x d w k) v i g =
    let a = total_without (weigh v) v.messages p (offer x d w k) g.message in
    let b = total_post (weigh v) (without v.messages p) (call d v.receiver.at v.receiver.moves) in
    omega arith
delivery_falls p (advert_answered x d) v i g =
    let a = total_without (weigh v) v.messages p (advert x d) g.message in
    let b = total_post (weigh v) (without v.messages p) (call d v.receiver.at v.receiver.moves) in
    let c = total_without is_advert v.messages p (advert x d) g.message in
    let e = extra_two v.state.granted (total is_advert v.messages) g.first (omega arith) in
    omega arith

-- a send adds an offer, or an advert for each other desk and 2; a receive adds a call
pub transfer_adds : (e : Transfer) (v : View) → Invariant v → transfer_guard e v → measure (transferred e v) ≤ measure v + (3 + v.processors)
unfolding transfer_guard transferred measure weight is_advert extra
transfer_adds send_passes_lem v i g = omega arith
transfer_adds send_carried_lem v i g = omega arith
transfer_adds send_held_lem v i g = omega arith
transfer_adds send_advertised_lem v i g =
    let a = total_append (weigh v) v.messages (adverts v.sender.at v.processors) in
    let b = total_adverts (weigh v) v.sender.at (λ x. omega arith) v.processors in
    let c = extra_most v.state.granted (total is_advert (v.messages ++ adverts v.sender.at v.processors)) in
    omega arith
transfer_adds send_posted_lem v i g =
    let h = v.tables.hints v.sender.at in
    let new : ChannelMessage = offer h.processor.0 v.sender.at (suc v.sender.sent) h.moves in
    let a = total_post (weigh v) v.messages new in
    let b = forwards_most v.receiver.history v.receiver.moves v.processors h.moves in
    let c = total_post is_advert v.messages new in
    let e = extra_mono v.state.granted (total is_advert (v.messages ++ one new)) (total is_advert v.messages) (omega arith) in
    omega arith
transfer_adds receive_passes_lem v i g = omega arith
transfer_adds receive_waits_lem v i g = omega arith
transfer_adds carried_answered_lem v i g =
    let a = total_post (weigh v) v.messages (call v.state.carried.processor.0 v.receiver.at v.receiver.moves) in
    omega arith
transfer_adds noted_answered_lem v i g =
    let a = total_post (weigh v) v.messages (call (v.tables.noted v.receiver.at).0 v.receiver.at v.receiver.moves) in
    omega arith

-- an end departs
unfoldable pub is_departure : Place → Bool
is_departure (sender_born_lem d) = false
is_departure (sender_arrives_lem d) = false
is_departure (receiver_born_lem d) = false
is_departure (receiver_arrives_lem d) = false
is_departure sender_departs_lem = true
is_departure (receiver_departs_lem e) = true

-- no offer is under way to a receiver that is not born
unborn : (d : ℕ) (v : View) → Invariant v → v.receiver.moves ≡ 0 → (m : ChannelMessage) → In m v.messages
    → weight (at_number v.receiver.history 1 d) 1 v.processors m ≡ weigh v m
unfolding weight
unborn d v i z (offer x e w k) h = let y = i.way x e w k h in absurd (omega arith)
unborn d v i z (advert x e) h = refl
unborn d v i z (call x e k) h = refl
unborn d v i z (word x value) h = refl

pub place_still : (e : Place) (v : View) → is_departure e ≡ false → Invariant v → place_guard e v → measure (placed e v) ≡ measure v
unfolding place_guard placed measure is_departure
place_still (sender_born_lem d) v s i g = refl
place_still (sender_arrives_lem d) v s i g = refl
place_still (receiver_arrives_lem d) v s i g = refl
place_still (receiver_born_lem d) v s i g =
    ap (◌+ extra v.state.granted (total is_advert v.messages)) (total_same _ _ v.messages (unborn d v i g.first))
place_still sender_departs_lem v s i g = absurd (true≢false s)
place_still (receiver_departs_lem e) v s i g = absurd (true≢false s)

-- with at most 6 desks each letter counts for at most 10
message_most : (history : ℕ → ℕ) (moves n : ℕ) → n ≤ 6 → (m : ChannelMessage) → weight history moves n m + 2 * is_advert m ≤ 10
unfolding weight is_advert
message_most history moves n six (offer x d w k) = omega (arith, forwards_most history moves n k)
message_most history moves n six (advert x d) = omega arith
message_most history moves n six (call x d k) = omega arith
message_most history moves n six (word x value) = omega arith

messages_most : (history : ℕ → ℕ) (moves n : ℕ) → n ≤ 6 → (xs : List ChannelMessage) → total (weight history moves n) xs + 2 * total is_advert xs ≤ 10 * length xs
unfolding total
messages_most history moves n six [] = omega arith
messages_most history moves n six (m ∷ xs) = omega (arith, message_most history moves n six m, messages_most history moves n six xs)

pub bounded : (v : View) → v.processors ≤ 6 → measure v ≤ 10 * length v.messages
unfolding measure
bounded v six =
    let a = messages_most v.receiver.history v.receiver.moves v.processors six v.messages in
    let b = extra_most v.state.granted (total is_advert v.messages) in
    omega arith
