-- The unused slots of the mail are empty, where a letter joins and where one leaves.
use mathlib.Core.Path.{◌≡◌, refl, sym, ◌∙◌, ap}
use mathlib.Core.List.{List, ◌∷◌, ◌++◌, append_assoc}
use Prim.Native.Nat.{ℕ, zero, suc, ◌+◌, ◌-◌, ◌<◌, ◌≤◌}
use native.Mathlib.Omega.{arith}
use lib.ListN.{length, get_or, take, drop, length-append, length-take, length-drop}
use lib.Seq.{get_or-append-add, get_or-set_other, get_or-drop}
use Rattle.rules.specs.declared.message.Message.{Message}
use Rattle.rules.specs.declared.message.Slot.{Slot}
use Rattle.rules.specs.declared.message.Network.{Network}
use Rattle.rules.specs.Networks.{slot, no_slot, enqueued, dequeued}
use Rattle.rules_laws.proofs.Messages.{enqueued_size, dequeued_size}

pub record Tidy (n : Network) : Type 0 where
  pub long : length n.slots ≡ 256
  pub unused : (k : ℕ) → n.used ≤ k → k < 256 → get_or n.slots k no_slot ≡ no_slot

pub enqueued_tidy : (n : Network) (m : Message) → Tidy n → Tidy (enqueued n m)
unfolding enqueued
enqueued_tidy n m t =
    record {
      long = enqueued_size n m ∙ t.long;
      unused = λ k l h. get_or-set_other n.slots n.used k (slot m) no_slot (λ (e : k ≡ n.used). omega arith) ∙ t.unused k (omega arith) h;
    }

-- behind the letters that stay
module _ (n : Network) (t : Tidy n) where
  behind : (j : ℕ) → n.used - 1 + j < 256 → 1 ≤ n.used → get_or (no_slot ∷ drop n.used n.slots) j no_slot ≡ no_slot
  behind zero l some = refl
  behind (suc i) l some = get_or-drop n.used n.slots i no_slot ∙ t.unused (n.used + i) (omega arith) (omega arith)

  pub dequeued_tidy : (p : ℕ) → 1 ≤ p → p ≤ n.used → n.used ≤ 256 → Tidy (dequeued n p)
  unfolding dequeued
  dequeued_tidy p some there few =
      let front = take (p - 1) n.slots in
      let after = drop p (take n.used n.slots) in
      let rest : List Slot = no_slot ∷ drop n.used n.slots in
      let s = t.long in
      let f : length (front ++ after) ≡ n.used - 1 =
      omega (arith, length-append front after, length-take (p - 1) n.slots, length-drop p (take n.used n.slots), length-take n.used n.slots) in
      record {
        long = dequeued_size n p some there (omega arith) ∙ t.long;
        unused =
            λ k l h.
            let j = k - (n.used - 1) in
            let e : k ≡ length (front ++ after) + j = omega arith in
            ap (λ (x : List Slot). get_or x k no_slot) (sym (append_assoc front after rest))
            ∙ ap (λ (i : ℕ). get_or ((front ++ after) ++ rest) i no_slot) e
            ∙ get_or-append-add (front ++ after) rest j no_slot
            ∙ behind j (omega arith) (omega arith);
      }
