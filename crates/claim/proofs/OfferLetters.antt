-- Offer letters: those with a count below a number, and that no count is above the receiver's.
use mathlib.Core.Path.{◌≡◌, refl, subst}
use mathlib.Core.Bool.{Bool, true, false, ◌&&◌}
use mathlib.Core.List.Memᴰ
use mathlib.Core.List.{List, [], ◌∷◌}
use Prim.Native.Nat.{ℕ, ◌≤◌}
use native.Mathlib.Omega.{arith}
use lib.Dec.{leb, ltb}
use borrow.Author.Tests.{eq-eqb}
use Rattle.base.specs.Choice.{pick}
use Rattle.base.specs.Lists.{count, every}
use Rattle.base.proofs.Tests.{and_left, and_right, within_low, within_high}
use Rattle.plan.specs.declared.Plan.{Plan}
use Rattle.plan.specs.declared.ChannelId.{ChannelId}
use Rattle.plan.specs.declared.Word.{Word}
use Rattle.plan.specs.Programs.{programs}
use Rattle.plan.specs.Users.{receiver_of}
use Rattle.rules.specs.declared.channel.Hint.{Hint}
use Rattle.rules.specs.declared.channel.Offer.{Offer}
use Rattle.rules.specs.declared.message.Message.{Message}
use Rattle.rules.specs.declared.message.Message.TheVariants.{Empty, Offered, Advert, ReadyToReceive, Data, Terminated, Migration}
use Rattle.rules.specs.declared.system.System.{System}
use Rattle.rules.specs.Numbers.{channel_number_ok}
use Rattle.rules.specs.Networks.{messages}
use Rattle.rules.specs.Systems.{task_at}
use Rattle.rules.specs.Sound.{message_ok, network_ok}
use Rattle.rules_laws.proofs.Sound.{system_passed}
use Rattle.channel.specs.Bags.{In}
use Rattle.channel.specs.Messages.{offer}
use Rattle.transitions.specs.Messages.{flat, message_on, messages_on}
use Rattle.transitions.specs.Readings.{reading}
use Rattle.transitions.specs.Views.{view_of, receiver_view}
use Rattle.invariant.proofs.Next.{Kept}
use Rattle.claim.specs.Statement.{from}
use Rattle.claim.specs.Chase.{is_offer}
use Rattle.claim.proofs.MailCounts.{count_less}

-- the offer (c, w), with a count below k
unfoldable pub older : ChannelId → ℕ → ℕ → Message → Bool
older c w k Empty = false
older c w k (Offered e o h) = is_offer c w (Offered e o h) && ltb h.moves k
older c w k (Advert e d from) = false
older c w k (ReadyToReceive e d h) = false
older c w k (Data e d v) = false
older c w k (Terminated h t) = false
older c w k (Migration d t) = false

-- such a letter is one
one_test : (b d : Bool) → pick {A = ℕ} (b && d) 1 0 ≤ pick b 1 0
one_test true true = omega arith
one_test true false = omega arith
one_test false d = omega arith

older_offer : (c : ChannelId) (w k : ℕ) (m : Message) → pick {A = ℕ} (older c w k m) 1 0 ≤ pick (is_offer c w m) 1 0
unfolding older is_offer
older_offer c w k Empty = omega arith
older_offer c w k (Offered e o h) = one_test (is_offer c w (Offered e o h)) (ltb h.moves k)
older_offer c w k (Advert e d from) = omega arith
older_offer c w k (ReadyToReceive e d h) = omega arith
older_offer c w k (Data e d v) = omega arith
older_offer c w k (Terminated h t) = omega arith
older_offer c w k (Migration d t) = omega arith

-- of the offer, its count alone is tested
pub older_is : (c : ChannelId) (w k : ℕ) (e : ChannelId) (o : Offer) (h : Hint) → is_offer c w (Offered e o h) ≡ true → older c w k (Offered e o h) ≡ ltb h.moves k
unfolding older
older_is c w k e o h its = rw its refl

pub older_few : (c : ChannelId) (w k : ℕ) (ms : List Message) → count (older c w k) ms ≤ count (is_offer c w) ms
older_few c w k ms = count_less (older c w k) (is_offer c w) (older_offer c w k) ms

-- what holds of every letter holds of one, and what one gives is there
every_in : {A : Type 0} (p : A → Bool) (xs : List A) {x : A} → In x xs → every p xs ≡ true → p x ≡ true
unfolding every
every_in p [] i h = absurd (Memᴰ.not-nil i)
every_in p (y ∷ ys) (Memᴰ.head e) h = rw e (and_left (p y) (every p ys) h)
every_in p (y ∷ ys) (Memᴰ.tail i) h = every_in p ys i (and_right (p y) (every p ys) h)

in_flat : {A B : Type 0} (f : A → List B) (xs : List A) {x : A} {b : B} → In x xs → In b (f x) → In b (flat f xs)
unfolding flat
in_flat f [] j i = absurd (Memᴰ.not-nil j)
in_flat f (y ∷ ys) {x} {b} (Memᴰ.head e) i = Memᴰ.append_left (flat f ys) (subst (λ z. In b (f z)) e i)
in_flat f (y ∷ ys) (Memᴰ.tail j) i = Memᴰ.append_right (f y) (in_flat f ys j i)

-- an offer letter of a rig that a run reaches: its channel, and its count
module _ {p : Plan} {r : System} {got : ChannelId → List Word} (k : Kept p r got) (c : ChannelId) (o : Offer) (h : Hint)
    (there : In (Offered c o h) (messages r.network)) where
  pub letter_channel : channel_number_ok c ≡ true
  unfolding network_ok message_ok
  letter_channel =
      let all = and_right (leb r.network.used 256) _ (system_passed r k.ok).network in
      and_left (channel_number_ok c) _ (every_in (message_ok r.processors r.plan.tasks) (messages r.network) there all)

  its_letter : In (offer h.processor.0 o.processor.0 o.number h.moves) (messages_on c (messages r.network))
  unfolding message_on
  its_letter = in_flat (message_on c) (messages r.network) there (rw (eq-eqb c.0 c.0 refl) (Memᴰ.head refl))

  pub letter_count : h.moves ≤ (task_at r (receiver_of (programs p) c)).moves
  unfolding view_of receiver_view reading
  letter_count =
      let low = within_low 1 128 c.0 letter_channel in
      let high = within_high 1 128 c.0 letter_channel in
      ((k.running.views c low high).way h.processor.0 o.processor.0 o.number h.moves its_letter).old
