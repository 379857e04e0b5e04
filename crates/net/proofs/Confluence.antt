-- Where different labels commute, whatever a run reaches goes on to the normal form of any other run from the same state: there is one normal
-- form, and each label is taken as often on every way to it.
use mathlib.Core.Path.{◌≡◌, refl, sym}
use mathlib.Core.Bool.{Bool, true}
use mathlib.Core.List.{List, [], ◌∷◌, Memᴰ}
use mathlib.Core.Logic.{◌≢◌}
use Prim.Native.Nat.{◌+◌}
use native.Mathlib.Omega.{arith}
use Rattle.base.specs.Lists.{count}
use Rattle.base.proofs.Tests.{tests_differ}
use Rattle.net.specs.Machines.{Machine, Run, stop, take, Normal, Commuting}
use Rattle.net.proofs.Runs.{normal_stops}

-- a run by the labels `rest`, where ks and then `rest` are as many of each kind as ls
pub record Rest {S : Type 0} {L : Type 0} (machine : Machine S L) (s : S) (ks ls : List L) (z : S) : Type 0 where
  pub rest : List L
  pub run : Run machine s rest z
  pub counted : (p : L → Bool) → count p ls ≡ count p ks + count p rest

module _ {S : Type 0} {L : Type 0} (machine : Machine S L) (commuting : Commuting machine) where
  -- a label that may be taken may be taken until it is
  pub until_taken : {s z : S} {ls : List L} → Run machine s ls z → (k : L) → ((l : L) → Memᴰ l ls → l ≢ k) → machine.enabled s k ≡ true
      → machine.enabled z k ≡ true
  until_taken stop k other h = h
  until_taken (take {s = s} l e r) k other h =
      until_taken r k (λ x m. other x (Memᴰ.tail m)) (commuting.stays s l k (other l (Memᴰ.head refl)) e h)

  -- a label that may be taken can be taken first, of all the labels of any run to a normal form
  advance : {s z : S} {ls : List L} → Run machine s ls z → Normal machine z → (k : L) → machine.enabled s k ≡ true
      → Rest machine (machine.effect s k) (k ∷ []) ls z
  unfolding count
  advance stop n k h = absurd (tests_differ h (n k))
  advance {z = z} (take {s = s} {ls = ls} l e r) n k h = first (commuting.same k l) (advance r n k)
    where
      first : Dec (k ≡ l) → (machine.enabled (machine.effect s l) k ≡ true → Rest machine (machine.effect (machine.effect s l) k) (k ∷ []) ls z)
          → Rest machine (machine.effect s k) (k ∷ []) (l ∷ ls) z
      first (yes q) later = rw q record { rest = ls; run = r; counted = λ p. omega arith }
      first (no q) later =
          let r : l ≢ k = λ x. q (sym x) in
          let after = later (commuting.stays s l k r e h) in
          record {
            rest = l ∷ after.rest;
            run = take l (commuting.stays s k l q h e) (rw (commuting.commute s l k r e h) at after.run);
            counted = λ p. omega (arith, after.counted p);
          }

  -- what a run has reached goes on to any other run's normal form, by as many of each label as are left
  pub onward : {s a z : S} {ks ls : List L} → Run machine s ks a → Run machine s ls z → Normal machine z → Rest machine a ks ls z
  unfolding count
  onward {ls = ls} stop q n = record { rest = ls; run = q; counted = λ p. omega arith }
  onward (take k h r) q n =
      let after = advance q n k h in
      let end = onward r after.run n in
      record { rest = end.rest; run = end.run; counted = λ p. omega (arith, after.counted p, end.counted p) }

  -- two normal forms are one, and each kind of label was taken as often on the way to it
  pub one_normal_form : {s a z : S} {ks ls : List L} → Run machine s ks a → Normal machine a → Run machine s ls z → Normal machine z
      → (a ≡ z) × ((p : L → Bool) → count p ks ≡ count p ls)
  unfolding count
  one_normal_form p na q nz =
      let end = onward p q nz in
      let (same, none) = normal_stops machine end.run na in
      (same, λ t. let e : count t end.rest ≡ 0 = rw none refl in omega (arith, end.counted t))
