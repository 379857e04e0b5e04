-- Two closed runs. The paper's worked run as its channel 3 sees it, through nine events, each with its guard met: the sender is born at desk 1, the
-- receiver there too; it departs to desk 2; the offer goes after it and is held there; it arrives, receives, calls, and takes the word. And a chase.
use Prim.{Unit, tt}
use mathlib.Core.Path.{◌≡◌, refl}
use mathlib.Core.Logic.{inr}
use mathlib.Core.List.{List, [], ◌∷◌, ◌++◌}
use Prim.Native.Nat.{◌≤◌}
use native.Mathlib.Omega.{arith}
use Rattle.base.specs.Updates.{updated}
use Rattle.plan.specs.declared.Word.{Word}
use Rattle.rules.specs.Hints.{newer}
use Rattle.rules.specs.Cells.{larger}
use Rattle.channel.specs.Bags.{without}
use Rattle.channel.specs.Hints.{hint_to}
use Rattle.channel.specs.Views.{View}
use Rattle.channel.specs.Places.{taking_over}
use Rattle.channel.specs.Events.{Event, place, transfer, delivery, sender_born_lem, receiver_born_lem, receiver_departs_lem, receiver_arrives_lem, send_posted_lem, carried_answered_lem, offer_forwarded, offer_held, call_taken, word_taken_lem, guard, after, blank, place_guard, placed, transfer_guard, transferred, delivery_guard, delivered}
use Rattle.channel.specs.Invariant.{Invariant}
use Rattle.channel.proofs.Keep.{Met, after_all, all_keep, starts}

-- the definitions that an evaluation opens, under one name
unfoldable pub evaluated : Unit {0}
unfolding Met after_all guard after blank place_guard placed transfer_guard transferred delivery_guard delivered updated newer larger taking_over without
evaluated = tt

unfoldable pub sample : Word → List Event
sample x =
    place (sender_born_lem 1) ∷ place (receiver_born_lem 1) ∷ place (receiver_departs_lem 2) ∷ transfer send_posted_lem ∷ delivery 0 (offer_held 2 1 1 2)
    ∷ place (receiver_arrives_lem 2) ∷ transfer carried_answered_lem ∷ delivery 0 (call_taken 1 2 2 x) ∷ delivery 0 (word_taken_lem 2 x) ∷ []

pub sample_met : (x : Word) → Met (sample x) (blank 2)
unfolding evaluated sample
sample_met x = let unknown : 0 ≤ 2 = omega arith in search (arith, inr)

pub record Ended (v : View) : Type 0 where
  pub sent : v.sender.sent ≡ 1
  pub received : v.receiver.received ≡ 1
  pub granted : v.state.granted ≡ 1
  pub messages : v.messages ≡ []
  pub at : v.receiver.at ≡ 2
  pub known : v.tables.hints 1 ≡ hint_to 2 2

pub sample_ends : (x : Word) → Ended (after_all (sample x) (blank 2))
unfolding evaluated sample
sample_ends x = record { sent = refl; received = refl; granted = refl; messages = refl; at = refl; known = refl }

pub sample_keeps : (x : Word) → Invariant (after_all (sample x) (blank 2))
sample_keeps x = all_keep (sample x) (blank 2) (sample_met x) (starts 2)

-- the chase: the sender uses a pointer with count 2, the receiver moves to desk 3 and back to 2, with counts 3 and 4; the offer is forwarded twice
unfoldable pub posted : List Event
posted = place (sender_born_lem 1) ∷ place (receiver_born_lem 1) ∷ place (receiver_departs_lem 2) ∷ transfer send_posted_lem ∷ []

unfoldable pub hunt : List Event
hunt =
    place (receiver_arrives_lem 2) ∷ place (receiver_departs_lem 3) ∷ delivery 0 (offer_forwarded 2 1 1 2)
    ∷ place (receiver_arrives_lem 3) ∷ place (receiver_departs_lem 2) ∷ delivery 0 (offer_forwarded 3 1 1 3) ∷ delivery 0 (offer_held 2 1 1 4) ∷ []

pub hunt_met : Met (posted ++ hunt) (blank 3)
unfolding evaluated posted hunt
hunt_met = let older : 3 ≤ 4 = omega arith in search (arith, inr)

pub record Hunted (v : View) : Type 0 where
  pub moves : v.receiver.moves ≡ 4
  pub messages : v.messages ≡ []
  pub held : (v.tables.held 2).number ≡ 1

pub hunt_ends : Hunted (after_all (posted ++ hunt) (blank 3))
unfolding evaluated posted hunt
hunt_ends = record { moves = refl; messages = refl; held = refl }
