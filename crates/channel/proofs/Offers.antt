-- Laws that the events share: the offer or the advert that is kept, offers that count no more, the way of an offer, and what holds while nothing
-- is sent.
use mathlib.Core.Path.{◌≡◌}
use mathlib.Core.Logic.{◌≢◌, ◌⊎◌, ⊎_elim}
use mathlib.Core.List.{List}
use Prim.Native.Nat.{ℕ, suc, ◌≤◌, ◌<◌}
use native.Mathlib.Omega.{arith}
use lib.Dec.{eqb, ltb}
use borrow.Author.Tests.{ltb-true, ltb-false, eqb-true, eqb-false}
use Rattle.base.proofs.Choices.{pick_either, pick_cases}
use Rattle.plan.specs.declared.ProcessorId.{ProcessorId}
use Rattle.plan.specs.declared.Word.{Word}
use Rattle.rules.specs.declared.channel.Offer.{Offer}
use Rattle.rules.specs.Cells.{larger, first_noted}
use Rattle.channel.specs.Updates.{at_number}
use Rattle.channel.specs.Bags.{In}
use Rattle.channel.specs.Hints.{Way, Coming}
use Rattle.channel.specs.Messages.{ChannelMessage, offer, advert, call, word, calls, words}
use Rattle.channel.specs.Views.{View, offer_of}
use Rattle.channel.specs.Places.{taking_over}
use Rattle.channel.specs.Invariant.{Counts, Live, Advertised, CallOk, Offered, Invariant}
use Rattle.channel.proofs.Updates.{at_elim}

-- clauses of the invariant: an offer that counts is of the send under way
abbrev pub OfferLive : View → Offer → Type 0
OfferLive v o = Live v.state.granted v.sender.sending v.sender.sent v.sender.at o.processor.0 o.number

-- n is the number of the next send
abbrev pub IsNext : View → ℕ → Type 0
IsNext v n = n ≡ suc v.sender.sent

-- the next send is offered; it has to be while it is under way and not called for
abbrev pub NextOffered : View → Type 0
NextOffered v = Offered v.processors v.sender.sent v.sender.at v.tables.held v.tables.noted v.state.carried v.messages

abbrev pub SendOffered : View → Type 0
SendOffered v = v.sender.sending ≡ 1 → v.state.granted ≡ v.sender.sent → NextOffered v

-- the receiver is on its way to desk x
abbrev pub ComingTo : View → ℕ → Type 0
ComingTo v x = Coming v.receiver.at v.receiver.moves x (v.receiver.history v.receiver.moves)

-- who receives and has not called carries nothing that counts
abbrev pub IdleCarried : View → Type 0
IdleCarried v = v.receiver.receiving ≡ 1 → v.state.awaiting ≡ 0 → v.state.carried.number ≤ v.state.granted

-- the numbers, with the letters l
abbrev pub CountsWith : View → List ChannelMessage → Type 0
CountsWith v l =
    Counts v.sender.sent v.sender.sending v.receiver.received v.receiver.receiving v.state.granted v.state.awaiting
    (calls l) (words l)

-- what is said of letters
pub record NetworkOk (v : View) : Type 0 where
  pub way : (to d w k : ℕ) → In (offer to d w k) v.messages → Way v.receiver.history v.receiver.moves to k
  pub offers : (to d w k : ℕ) → In (offer to d w k) v.messages → OfferLive v (offer_of d w)
  pub adverts : (to d : ℕ) → In (advert to d) v.messages → v.state.granted ≡ 0 → Advertised v.sender.sending v.sender.at d to
  pub calls : (to d k : ℕ) → In (call to d k) v.messages → CallOk v.sender.sending v.sender.at v.receiver.at v.receiver.moves to d k
  pub words : (to : ℕ) (x : Word) → In (word to x) v.messages → to ≡ v.receiver.at

-- of two offers one is kept
pub larger_elim : (Q : Offer → Type 0) (a b : Offer) → Q a → Q b → Q (larger a b)
unfolding larger
larger_elim Q a b x y = pick_either Q (ltb a.number b.number) b a y x

pub taking_over_elim : (Q : Offer → Type 0) (n : ℕ) (a b : Offer) → Q a → Q b → Q (taking_over n a b)
unfolding taking_over
taking_over_elim Q n a b x y = pick_either Q (ltb n b.number) (larger a b) a (larger_elim Q a b x y) x

-- to prove something of every held offer, one more being held at desk x
pub held_elim : (Q : ℕ → Offer → Type 0) (held : ℕ → Offer) (x : ℕ) (o : Offer) → ((y : ℕ) → Q y (held y)) → Q x o
    → (y : ℕ) → Q y (at_number held x (larger (held x) o) y)
held_elim Q held x o old new = at_elim Q held x (larger (held x) o) (larger_elim (Q x) (held x) o (old x) new) (λ y ne. old y)

-- if one of two offers is of the send under way, the one that is kept has its number
module _ (v : View) (a b : Offer) (la : OfferLive v a) (lb : OfferLive v b) (e : v.state.granted ≡ v.sender.sent)
    (s : IsNext v a.number ⊎ IsNext v b.number) where
  pub larger_number : IsNext v (larger a b).number
  unfolding larger
  larger_number = pick_cases (λ o. IsNext v o.number) (ltb a.number b.number) b a
      (λ t. let l = ltb-true a.number b.number t in ⊎_elim (λ q. (lb (omega arith)).number) (λ q. q) s)
      (λ t. let l = ltb-false a.number b.number t in ⊎_elim (λ q. q) (λ q. (la (omega arith)).number) s)

  pub taking_number : IsNext v (taking_over v.state.granted a b).number
  unfolding taking_over
  taking_number = pick_cases (λ o. IsNext v o.number) (ltb v.state.granted b.number) (larger a b) a
      (λ t. larger_number)
      (λ t. let l = ltb-false v.state.granted b.number t in ⊎_elim (λ q. q) (λ q. absurd (omega arith)) s)

-- of two adverts one is noted, and there is one if one was
pub first_noted_elim : (Q : ProcessorId → Type 0) (a d : ProcessorId) → Q a → Q d → Q (first_noted a d)
unfolding first_noted
first_noted_elim Q a d x y = pick_either Q (eqb a.0 0) d a y x

pub first_noted_some : (a d : ProcessorId) → (1 ≤ a.0) ⊎ (1 ≤ d.0) → 1 ≤ (first_noted a d).0
unfolding first_noted
first_noted_some a d s = pick_cases (λ x. 1 ≤ x.0) (eqb a.0 0) d a
    (λ t. let z = eqb-true a.0 0 t in ⊎_elim (λ q. absurd (omega arith)) (λ q. q) s)
    (λ t. let z : a.0 ≢ 0 = eqb-false a.0 0 t in omega arith)

pub noted_elim : (Q : ℕ → ProcessorId → Type 0) (noted : ℕ → ProcessorId) (x : ℕ) (d : ProcessorId) → ((y : ℕ) → Q y (noted y)) → Q x d
    → (y : ℕ) → Q y (at_number noted x (first_noted (noted x) d) y)
noted_elim Q noted x d old new = at_elim Q noted x (first_noted (noted x) d) (first_noted_elim (Q x) (noted x) d (old x) new) (λ y ne. old y)

-- while nothing is sent, no offer and no advert counts
pub quiet : {C : Type 0} {granted sending sent at d w : ℕ} → sending ≡ 0 → Live granted sending sent at d w → granted < w → C
quiet z f l = let e = (f l).on in absurd (omega arith)

pub advert_quiet : {C : Type 0} {granted sending at d x : ℕ} → sending ≡ 0 → (granted ≡ 0 → Advertised sending at d x) → granted ≡ 0 → C
advert_quiet z f l = let e = (f l).on in absurd (omega arith)

-- with one more called for, no more counts
pub live_more : {granted sending sent at d w : ℕ} → Live granted sending sent at d w → Live (suc granted) sending sent at d w
live_more f l = f (omega arith)

-- once the send is done, its offers count no more; nor once it is called for
pub done : {C : Type 0} {granted sending sent at d w : ℕ} → granted ≤ suc sent → Live granted sending sent at d w → suc sent < w → C
done z f l = let e = (f (omega arith)).number in absurd (omega arith)

pub done_called : {C : Type 0} {granted sending sent at d w : ℕ} → granted ≡ suc sent → Live granted sending sent at d w → granted < w → C
done_called z f l = let e = (f l).number in absurd (omega arith)

-- while nothing is sent, what is said of offers, adverts and calls holds of whatever the sender does next
module _ (v : View) (i : Invariant v) (z : v.sender.sending ≡ 0) where
  pub quiet_messages : (s n at to d w k : ℕ) → In (offer to d w k) v.messages → Live v.state.granted s n at d w
  quiet_messages s n at to d w k m = quiet z (i.offer_messages to d w k m)

  pub quiet_held : (s n at x : ℕ) → Live v.state.granted s n at (v.tables.held x).processor.0 (v.tables.held x).number
  quiet_held s n at x = quiet z (i.offer_held x)

  pub quiet_carried : (s n at : ℕ) → Live v.state.granted s n at v.state.carried.processor.0 v.state.carried.number
  quiet_carried s n at = quiet z i.offer_carried

  pub quiet_adverts : (s at to d : ℕ) → In (advert to d) v.messages → v.state.granted ≡ 0 → Advertised s at d to
  quiet_adverts s at to d m = advert_quiet z (i.advert_messages to d m)

  pub quiet_noted : (s at x : ℕ) → 1 ≤ (v.tables.noted x).0 → v.state.granted ≡ 0 → Advertised s at (v.tables.noted x).0 x
  quiet_noted s at x l = advert_quiet z (i.advert_noted_lem x l)

  pub quiet_calls : (s at r n to d k : ℕ) → In (call to d k) v.messages → CallOk s at r n to d k
  quiet_calls s at r n to d k m = let q = (i.call_messages to d k m).on in absurd (omega arith)

pub ruleset quiets = (quiet_messages, quiet_held, quiet_carried, quiet_adverts, quiet_noted, quiet_calls)
