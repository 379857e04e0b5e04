-- The earliest letter for a desk, by the places of the mail.
use mathlib.Core.Path.{◌≡◌, refl, sym, ◌∙◌, ap}
use mathlib.Core.Bool.{true, false, not}
use mathlib.Core.List.{List, [], ◌∷◌}
use Prim.Native.Nat.{ℕ, zero, suc, ◌+◌, ◌-◌, ◌<◌, ◌≤◌}
use native.Mathlib.Omega.{arith}
use lib.Dec.{eqb}
use lib.ListN.{length, get_or}
use borrow.Author.Tests.{eq-eqb, ne_eqb}
use Rattle.base.specs.Choice.{pick}
use Rattle.plan.specs.declared.ProcessorId.{ProcessorId}
use Rattle.rules.specs.declared.message.Message.{Message}
use Rattle.rules.specs.declared.message.Message.TheVariants.{Empty}
use Rattle.rules.specs.declared.message.Network.{Network}
use Rattle.rules.specs.Networks.{messages, message_at, no_slot}
use Rattle.rules.specs.Dispatch.{earliest}
use Rattle.rules_laws.proofs.Messages.{length_messages, message_at_messages}
use Rattle.dispatch.specs.Letters.{is_for}

module _ (d : ProcessorId) where
  -- none of the letters is
  none_for : (ms : List Message) → ((i : ℕ) → i < length ms → is_for d (get_or ms i Empty) ≡ false) → earliest d ms ≡ 0
  unfolding earliest
  none_for [] h = refl
  none_for (m ∷ ms) h = rw (h 0 (omega arith), none_for ms (λ i l. h (suc i) (omega arith))) refl

  -- that after the first k is the first one
  first_for : (ms : List Message) (k : ℕ) → k < length ms → ((i : ℕ) → i < k → is_for d (get_or ms i Empty) ≡ false) → is_for d (get_or ms k Empty) ≡ true
      → earliest d ms ≡ suc k
  unfolding earliest
  first_for [] k l h e = absurd (omega arith)
  first_for (m ∷ ms) zero l h e = rw e refl
  first_for (m ∷ ms) (suc k) l h e =
      rw (h 0 (omega arith), first_for ms k (omega arith) (λ i b. h (suc i) (omega arith)) e, ne_eqb (suc k) 0 (λ z. omega arith)) refl

-- the same of the mail
module _ (d : ProcessorId) (n : Network) (long : length n.slots ≡ 256) (few : n.used ≤ 256) where
  -- the letter after the first i
  abbrev letter : ℕ → Message
  letter i = (get_or n.slots i no_slot).message

  many : length (messages n) ≡ n.used
  many = length_messages n (omega arith)

  there : (i : ℕ) → i < n.used → get_or (messages n) i Empty ≡ letter i
  unfolding message_at
  there i l =
      let e : suc i - 1 ≡ i = omega arith in
      let q : letter (suc i - 1) ≡ get_or (messages n) (suc i - 1) Empty = message_at_messages n (suc i) (omega arith) (omega arith) in
      sym (rw e at q)

  pub none_earliest : ((i : ℕ) → i < n.used → is_for d (letter i) ≡ false) → earliest d (messages n) ≡ 0
  none_earliest h = none_for d (messages n) (λ i l. let b : i < n.used = rw many at l in ap (is_for d) (there i b) ∙ h i b)

  pub first_earliest : (k : ℕ) → k < n.used → ((i : ℕ) → i < k → is_for d (letter i) ≡ false) → is_for d (letter k) ≡ true → earliest d (messages n) ≡ suc k
  first_earliest k l h e =
      first_for d (messages n) k (rw many l) (λ i b. ap (is_for d) (there i (omega arith)) ∙ h i b) (ap (is_for d) (there k l) ∙ e)
