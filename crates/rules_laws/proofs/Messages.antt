-- The mail as a list of letters: those that join it stand at its end, in order, and one that is taken leaves no gap.
use mathlib.Core.Path.{◌≡◌, refl, sym, ◌∙◌, ap}
use mathlib.Core.List.{List, [], ◌∷◌, ◌++◌, map-append, append_assoc, append-nil}
use Prim.Native.Nat.{ℕ, suc, ◌+◌, ◌-◌, ◌≤◌, ◌<◌}
use native.Mathlib.Numerals.{add-one}
use native.Mathlib.Omega.{arith}
use lib.ListN.{length, get_or, take, drop, length-append, length-take, length-drop, length-set, length-map, get_or-map}
use lib.Seq.{length-take-le, take-suc-set, take_at, take-take, split_at, get_or-take}
use lib.Dec.{eqb}
use Rattle.base.specs.Choice.{pick}
use Rattle.base.proofs.Choices.{pick_either}
use Rattle.base.proofs.Joins.{length_joined}
use Rattle.base.proofs.Sums.{sum_at_most}
use Rattle.base.proofs.Maps.{map_take, map_drop}
use Rattle.rules.specs.declared.message.Message.{Message}
use Rattle.rules.specs.declared.message.Message.TheVariants.{Empty, Advert}
use Rattle.rules.specs.declared.message.Slot.{Slot}
use Rattle.rules.specs.declared.message.Network.{Network}
use Rattle.rules.specs.declared.rule.Posting.{Posting}
use Rattle.rules.specs.declared.rule.Posting.TheVariants.{Nothing, Single, Adverts}
use Rattle.rules.specs.Numbers.{processor_id}
use Rattle.rules.specs.Networks.{slot, no_slot, messages, message_at, enqueued, enqueued_all, dequeued, messages_of}

abbrev in_slot : Slot → Message
in_slot s = s.message

pub length_messages : (n : Network) → n.used ≤ length n.slots → length (messages n) ≡ n.used
unfolding messages
length_messages n h = length-map (take n.used n.slots) in_slot ∙ length-take-le n.used n.slots h

-- letters that join
module _ (n : Network) (m : Message) where
  pub enqueued_used : (enqueued n m).used ≡ n.used + 1
  unfolding enqueued
  enqueued_used = refl

  pub enqueued_size : length (enqueued n m).slots ≡ length n.slots
  unfolding enqueued
  enqueued_size = length-set n.slots n.used (slot m)

  pub messages_enqueued : n.used < length n.slots → messages (enqueued n m) ≡ messages n ++ (m ∷ [])
  unfolding messages enqueued
  messages_enqueued h = rw (add-one n.used, take-suc-set n.slots n.used (slot m) h) (map-append in_slot (take n.used n.slots) (slot m ∷ []))

pub enqueued_all_used : (n : Network) (ms : List Message) → (enqueued_all n ms).used ≡ n.used + length ms
unfolding enqueued_all
enqueued_all_used n [] = omega arith
enqueued_all_used n (m ∷ ms) = enqueued_all_used (enqueued n m) ms ∙ rw (enqueued_used n m) (omega arith)

pub enqueued_all_size : (n : Network) (ms : List Message) → length (enqueued_all n ms).slots ≡ length n.slots
unfolding enqueued_all
enqueued_all_size n [] = refl
enqueued_all_size n (m ∷ ms) = enqueued_all_size (enqueued n m) ms ∙ enqueued_size n m

pub messages_enqueued_all : (n : Network) (ms : List Message) → n.used + length ms ≤ length n.slots → messages (enqueued_all n ms) ≡ messages n ++ ms
unfolding enqueued_all
messages_enqueued_all n [] h = sym (append-nil (messages n))
messages_enqueued_all n (m ∷ ms) h =
    messages_enqueued_all (enqueued n m) ms (omega (arith, enqueued_used n m, enqueued_size n m))
    ∙ rw (messages_enqueued n m (omega arith), append_assoc) refl

-- the letter at position p, and the mail without it
pub dequeued_used : (n : Network) (p : ℕ) → (dequeued n p).used ≡ n.used - 1
unfolding dequeued
dequeued_used n p = refl

module _ (n : Network) (p : ℕ) (some : 1 ≤ p) (there : p ≤ n.used) where
  pub message_at_messages : message_at n p ≡ get_or (messages n) (p - 1) Empty
  unfolding messages message_at
  message_at_messages = sym (get_or-map in_slot (take n.used n.slots) (p - 1) no_slot ∙ ap in_slot (get_or-take n.used n.slots (p - 1) no_slot (omega arith)))

  abbrev front : List Slot
  front = take (p - 1) n.slots ++ drop p (take n.used n.slots)

  module _ (room : n.used ≤ length n.slots) where
    pub messages_split : messages n ≡ take (p - 1) (messages n) ++ (message_at n p ∷ drop p (messages n))
    messages_split =
        let e : suc (p - 1) ≡ p = omega arith in
        let s = split_at (messages n) (p - 1) Empty (omega (arith, length_messages n room)) in
        rw message_at_messages (rw e at s)

    length_front : length front ≡ n.used - 1
    length_front = simp (length-append, length-take, length-drop) (omega arith)

    pub dequeued_size : length (dequeued n p).slots ≡ length n.slots
    unfolding dequeued
    dequeued_size = simp (length-append, length-take, length-drop) (omega arith)

    pub messages_dequeued : messages (dequeued n p) ≡ take (p - 1) (messages n) ++ drop p (messages n)
    unfolding messages dequeued
    messages_dequeued =
        let u = take n.used n.slots in
        let rest = no_slot ∷ drop n.used n.slots in
        rw (← append_assoc (take (p - 1) n.slots) (drop p u) rest, take_at front rest (n.used - 1) length_front, map-append in_slot)
        (rw (← take-take (p - 1) n.used n.slots (omega arith), map_take in_slot (p - 1) u, map_drop in_slot p u) refl)

-- no rule posts more letters than one a desk, or one
pub few_messages : (n : ℕ) (p : Posting) → length (messages_of n p) ≤ n + 1
unfolding messages_of
few_messages n Nothing = omega arith
few_messages n (Single m) = omega arith
few_messages n (Adverts c d) =
    let f : ℕ → List Message = λ k. pick (eqb (suc k) d.0) [] (Advert c (processor_id (suc k)) d ∷ []) in
    let few =
    sum_at_most 1 n (λ k. length (f k))
    (λ k l. pick_either (λ ls. length ls ≤ 1) (eqb (suc k) d.0) [] (Advert c (processor_id (suc k)) d ∷ []) (omega arith) (omega arith)) in
    omega (arith, length_joined n f, few)
