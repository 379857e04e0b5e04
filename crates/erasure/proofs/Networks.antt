-- The mail without words: which letter is at a place, letters that join it and one that leaves it.
use mathlib.Core.Path.{◌≡◌, refl, ap, sym, ◌∙◌}
use mathlib.Core.List.{List, [], ◌∷◌, ◌++◌, map}
use Prim.Native.Nat.{ℕ, suc, ◌+◌, ◌-◌}
use lib.Dec.{eqb}
use lib.ListN.{length, length-map, take, drop, get_or-map}
use Rattle.base.proofs.Maps.{map_take, map_drop}
use Rattle.base.proofs.Choices.{pick_either}
use Rattle.base.proofs.Folds.{fold_same}
use Rattle.rules.specs.declared.message.Message.{Message}
use Rattle.rules.specs.declared.message.Message.TheVariants.{Advert}
use Rattle.rules.specs.declared.message.Slot.{Slot}
use Rattle.rules.specs.declared.message.Network.{Network}
use Rattle.rules.specs.declared.rule.Posting.{Posting}
use Rattle.rules.specs.declared.rule.Posting.TheVariants.{Nothing, Single, Adverts}
use Rattle.rules.specs.Numbers.{processor_id}
use Rattle.rules.specs.Networks.{slot, no_slot, messages, message_at, enqueued, enqueued_all, dequeued, messages_of}
use Rattle.rules.specs.Erasures.{erased_message, erased_slot, erased_network}
use Rattle.erasure.specs.Erased.{erased_posting}
use Rattle.erasure.proofs.Lists.{map_set, map_append, map_joined}

-- the letter at a place, from 1
pub message_read : (n : Network) (p : ℕ) → message_at (erased_network n) p ≡ erased_message (message_at n p)
unfolding message_at erased_message
message_read n p = ap (λ (s : Slot). s.message) (get_or-map erased_slot n.slots (p - 1) no_slot)

-- all of them
messages_of_slots : (l : List Slot) → map (λ s. s.message) (map erased_slot l) ≡ map erased_message (map (λ s. s.message) l)
messages_of_slots [] = refl
messages_of_slots (x ∷ xs) = rw (messages_of_slots xs) refl

pub messages_erased : (n : Network) → messages (erased_network n) ≡ map erased_message (messages n)
unfolding messages
messages_erased n = rw (← map_take erased_slot n.used n.slots) (messages_of_slots (take n.used n.slots))

-- letters that join
pub joined_erased : (n : Network) (ms : List Message) → enqueued_all (erased_network n) (map erased_message ms) ≡ erased_network (enqueued_all n ms)
unfolding enqueued_all enqueued
joined_erased n [] = refl
joined_erased n (m ∷ ms) =
    ap (λ (l : List Slot). enqueued_all (record { slots = l; used = n.used + 1 }) (map erased_message ms)) (map_set erased_slot n.slots n.used (slot m))
    ∙ joined_erased (enqueued n m) ms

-- those that a rule posts, in a rig of n desks
pub posted_erased : (n : ℕ) (p : Posting) → messages_of n (erased_posting p) ≡ map erased_message (messages_of n p)
unfolding messages_of erased_posting erased_message
posted_erased n Nothing = refl
posted_erased n (Single m) = refl
posted_erased n (Adverts c d) =
    sym
    (map_joined erased_message n _
    ∙ fold_same _ _ n _ _
    (λ k l. pick_either (λ ms. map erased_message ms ≡ ms) (eqb (suc k) d.0) [] (Advert c (processor_id (suc k)) d ∷ []) refl refl))

pub posted_length : (n : ℕ) (p : Posting) → length (messages_of n (erased_posting p)) ≡ length (messages_of n p)
posted_length n p = ap length (posted_erased n p) ∙ length-map (messages_of n p) erased_message

-- the letter at p leaves
pub left_erased : (n : Network) (p : ℕ) → dequeued (erased_network n) p ≡ erased_network (dequeued n p)
unfolding dequeued erased_message
left_erased n p =
    let used = take n.used n.slots in
    rw (
      ← map_take erased_slot n.used n.slots,
      ← map_take erased_slot (p - 1) n.slots,
      ← map_drop erased_slot p used,
      ← map_drop erased_slot n.used n.slots,
      map_append erased_slot (take (p - 1) n.slots) (drop p used ++ (no_slot ∷ drop n.used n.slots)),
      map_append erased_slot (drop p used) (no_slot ∷ drop n.used n.slots),
    )
    refl
