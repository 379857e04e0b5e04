-- The mail.
use Rattle.std.specs.Prelude.{Bool, List, [], ◌∷◌, ◌++◌, map, ℕ, suc, ◌+◌, ◌-◌, eqb, leb, length, get_or, set, take, drop}
use Rattle.base.specs.Choice.{pick}
use Rattle.base.specs.Range.{joined}
use Rattle.rules.specs.declared.message.Message.{Message}
use Rattle.rules.specs.declared.message.Message.TheVariants.{Empty, Advert}
use Rattle.rules.specs.declared.message.Slot.{Slot}
use Rattle.rules.specs.declared.message.Network.{Network}
use Rattle.rules.specs.declared.rule.Posting.{Posting}
use Rattle.rules.specs.declared.rule.Posting.TheVariants.{Nothing, Single, Adverts}
use Rattle.rules.specs.Numbers.{processor_id, network_size}

abbrev pub slot : Message → Slot
slot m = record { message = m }

-- what an unused slot holds
abbrev pub no_slot : Slot
no_slot = slot Empty

-- the letters in the mail, in order
unfoldable pub messages : Network → List Message
messages n = map (λ s. s.message) (take n.used n.slots)

-- the letter at position p, from 1
unfoldable pub message_at : Network → ℕ → Message
message_at n p = (get_or n.slots (p - 1) no_slot).message

-- "Letters join the mail's end"
unfoldable pub enqueued : Network → Message → Network
enqueued n m = record { slots = set n.slots n.used (slot m); used = n.used + 1 }

unfoldable pub enqueued_all : Network → List Message → Network
enqueued_all n [] = n
enqueued_all n (m ∷ ms) = enqueued_all (enqueued n m) ms

-- "taking one closes the gap": without the letter at position p, from 1
unfoldable pub dequeued : Network → ℕ → Network
dequeued n p =
    record {
      slots = take (p - 1) n.slots ++ (drop p (take n.used n.slots) ++ (no_slot ∷ drop n.used n.slots));
      used = n.used - 1;
    }

-- the letters that a rule posts, in a rig of n desks; "an advert to every other desk in rising order"
unfoldable pub messages_of : ℕ → Posting → List Message
messages_of n Nothing = []
messages_of n (Single m) = m ∷ []
messages_of n (Adverts c d) = joined n (λ k. pick (eqb (suc k) d.0) [] (Advert c (processor_id (suc k)) d ∷ []))

-- they join the mail
abbrev pub posted : ℕ → Posting → Network → Network
posted n p k = enqueued_all k (messages_of n p)

-- "the letters needed" fit in a mail that has so many
abbrev pub fits_in : ℕ → Posting → ℕ → Bool
fits_in n p used = leb (used + length (messages_of n p)) network_size
