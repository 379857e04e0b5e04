-- What the invariant says of one channel.
use mathlib.Core.Path.{◌≡◌, sym, ◌∙◌}
use mathlib.Core.Logic.{⊎_elim}
use mathlib.Core.Option.{some}
use mathlib.Core.List.Memᴰ
use mathlib.Core.List.{[]}
use Prim.Native.Nat.{ℕ, suc, ◌+◌, ◌≤◌}
use native.Mathlib.Omega.{arith}
use lib.ListN.{get_elem?}
use Rattle.plan.specs.declared.Word.{Word}
use Rattle.channel.specs.Bags.{In, total}
use Rattle.channel.specs.Messages.{ChannelMessage, offer, advert, call, word, is_call, is_word, calls, words}
use Rattle.channel.specs.Views.{View}
use Rattle.channel.specs.Deliveries.{Called, WordTaken}
use Rattle.channel.specs.Invariant.{by_message, by_held, by_carried, by_adverts, Invariant}
use Rattle.channel.proofs.Bags.{total_without, in_total, in_at}
use Rattle.channel.proofs.Hints.{at_most}
use Rattle.channel.proofs.Offers.{NextOffered}

-- what a call letter in the mail says of the channel
pub record CallAlone (v : View) : Type 0 where
  pub receiving : v.receiver.receiving ≡ 1
  pub awaiting : v.state.awaiting ≡ 1
  pub no_words : words v.messages ≡ 0

module _ (v : View) (i : Invariant v) where
  -- a call and a word always find what they suppose
  pub call_finds : (p x d k : ℕ) → get_elem? v.messages p ≡ some (call x d k) → Called p x d k v
  call_finds p x d k e =
      let c = i.call_messages x d k (in_at v.messages p e) in
      record { message = e; sending = c.on; here = sym c.to_sender }

  pub word_finds : (p x : ℕ) (value : Word) → get_elem? v.messages p ≡ some (word x value) → WordTaken p x value v
  unfolding is_word
  word_finds p x value e =
      let c = i.counts in
      let a = total_without is_word v.messages p (word x value) e in
      record { message = e; here = sym (i.word_messages x value (in_at v.messages p e)); receiving = omega arith; called = omega arith }

  -- a channel has at most one call or word letter in the mail, and none without the mark
  pub few_messages : calls v.messages + words v.messages ≤ 1
  few_messages = let c = i.counts in omega arith

  pub unmarked : v.state.awaiting ≡ 0 → (calls v.messages ≡ 0) × (words v.messages ≡ 0)
  unmarked e = let c = i.counts in (omega arith, omega arith)

  pub call_alone : (to d k : ℕ) → In (call to d k) v.messages → CallAlone v
  unfolding is_call
  call_alone to d k m =
      let c = i.counts in
      let a = in_total is_call v.messages (call to d k) m in
      record { receiving = omega arith; awaiting = omega arith; no_words = omega arith }

  -- with no letter under way the two ends are not both at it
  pub not_both : v.messages ≡ [] → v.sender.sending ≡ 1 → v.receiver.receiving ≡ 1 → ⊥
  unfolding total
  not_both e s r =
      let a : calls v.messages ≡ 0 = rw e in
      let b : words v.messages ≡ 0 = rw e in
      let c = i.counts in
      let all : v.state.granted ≡ v.sender.sent = omega arith in
      let free : v.state.awaiting ≡ 0 = omega arith in
      let stands : 1 ≤ v.receiver.at = let q = i.receiver_stands in omega arith in
      go all free stands (i.offered s all)
    where
      empty : (m : ChannelMessage) → In m v.messages → ⊥
      empty m h = Memᴰ.not-nil (rw e at h)

      go : v.state.granted ≡ v.sender.sent → v.state.awaiting ≡ 0 → 1 ≤ v.receiver.at → NextOffered v → ⊥
      go all free stands (by_message to d k m) = empty (offer to d (suc v.sender.sent) k) m
      go all free stands (by_held x q) = let z = (i.held_for x (omega arith)).moving in omega arith
      go all free stands (by_carried q) = let z = i.idle_carried r free in omega arith
      go all free stands (by_adverts z f) = ⊎_elim (λ m. empty (advert v.receiver.at v.sender.at) m)
          (λ l. let q = i.idle_noted r free (all ∙ z) in omega arith)
          (f v.receiver.at stands (at_most i.table) (λ q. i.idle_apart r free s (sym q)))
