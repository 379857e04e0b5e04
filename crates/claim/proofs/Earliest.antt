-- The earliest letter for a desk, and that a letter of a rig is for a desk of it.
use mathlib.Core.Path.{◌≡◌, refl}
use mathlib.Core.Bool.{Bool, true}
use mathlib.Core.List.{List, [], ◌∷◌}
use Prim.Native.Nat.{ℕ, zero, suc, ◌-◌, ◌≤◌}
use native.Mathlib.Omega.{arith}
use lib.ListN.{length, get_or}
use borrow.Author.Tests.{ne_eqb}
use Rattle.base.proofs.Tests.{and_left, and_right, tests_differ}
use Rattle.plan.specs.declared.ProcessorId.{ProcessorId}
use Rattle.rules.specs.declared.message.Message.{Message}
use Rattle.rules.specs.declared.message.Message.TheVariants.{Empty, Offered, Advert, ReadyToReceive, Data, Terminated, Migration}
use Rattle.rules.specs.Numbers.{same_processor, processor_ok, channel_number_ok}
use Rattle.rules.specs.Sound.{known_ok, made_ok, message_ok}
use Rattle.rules.specs.Dispatch.{addressee, earliest}
use Rattle.claim.proofs.Lists.{either}

-- a letter of a rig is for a desk of it
pub letter_desk : (n m : ℕ) (x : Message) → message_ok n m x ≡ true → processor_ok n (addressee x) ≡ true
unfolding message_ok addressee
letter_desk n m Empty ok = absurd (tests_differ ok refl)
letter_desk n m (Offered c o h) ok =
    and_left (processor_ok n h.processor) _ (and_right (made_ok n o) (known_ok n h) (and_right (channel_number_ok c) _ ok))
letter_desk n m (Advert c d from) ok = and_left (processor_ok n d) _ (and_right (channel_number_ok c) _ ok)
letter_desk n m (ReadyToReceive c d h) ok = and_left (processor_ok n d) _ (and_right (channel_number_ok c) _ ok)
letter_desk n m (Data c d w) ok = and_right (channel_number_ok c) _ ok
letter_desk n m (Terminated h t) ok = and_left (processor_ok n h.processor) _ (and_left (known_ok n h) _ ok)
letter_desk n m (Migration d t) ok = and_left (processor_ok n d) _ ok

module _ (d : ProcessorId) where
  -- a letter for desk d
  abbrev pub is_for : Message → Bool
  is_for m = same_processor (addressee m) d

  -- position i is that of one, and no later than k
  pub record Earliest (ms : List Message) (k i : ℕ) : Type 0 where
    pub some : 1 ≤ i
    pub first : i ≤ k
    pub is : is_for (get_or ms (i - 1) Empty) ≡ true

  pub earliest_is : (ms : List Message) (k : ℕ) → 1 ≤ k → k ≤ length ms → is_for (get_or ms (k - 1) Empty) ≡ true → Earliest ms k (earliest d ms)
  unfolding earliest
  earliest_is [] k low high is = absurd (omega arith)
  earliest_is (m ∷ ms) zero low high is = absurd (omega arith)
  earliest_is (m ∷ ms) (suc zero) low high is = rw is (record { some = omega arith; first = omega arith; is = is })
  earliest_is (m ∷ ms) (suc (suc k)) low high is =
      either (is_for m)
      (λ own. rw own (record { some = omega arith; first = omega arith; is = own }))
      (λ other.
      let e : suc (suc k) - 1 ≡ suc (suc k - 1) = omega arith in
      let later = earliest_is ms (suc k) (omega arith) (omega arith) (rw e at is) in
      let i = earliest d ms in
      let at : suc i - 1 ≡ suc (i - 1) = omega (arith, later.some) in
      rw (other, ne_eqb i 0 (λ z. omega (arith, later.some)))
      (record { some = omega arith; first = omega (arith, later.first); is = rw at later.is }))
