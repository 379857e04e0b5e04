-- Laws of sets in the bits of a number: a number that was put in is a member, one that was taken out is none, the others stay as they were,
-- and a set of numbers up to m stays below 2 ^ m.
use mathlib.Core.Path.{◌≡◌, refl, sym, ◌∙◌, ap}
use mathlib.Core.Bool.{Bool, true, false}
use mathlib.Core.Logic.{◌≢◌, by_cases}
use Prim.Native.Nat.{ℕ, zero, suc, ◌+◌, ◌-◌, ◌*◌, ◌/◌, ◌%◌, ◌^◌, ◌<◌, ◌≤◌}
use native.Mathlib.Nat.{add-div_right, add-mul-div_right, zero-div, div-lt_iff_lt-mul, div-eq_of_lt}
use native.Mathlib.Omega.{arith}
use native.Mathlib.Decide.{ℕ_discrete, dec_lt}
use lib.Pow.{pow-add, pow_pos, shr-shr}
use lib.Dec.{eqb}
use borrow.Author.Tests.{eqb-true, eqb-false, eq-eqb, ne_eqb}
use Rattle.base.specs.Sets.{member, inserted, removed, removed_all}
use Rattle.base.proofs.Tests.{tests_differ}
use Rattle.base.proofs.Choices.{pick_cases}

-- bit k of s
abbrev bit : ℕ → ℕ → ℕ
bit k s = s / 2 ^ k % 2

module _ (s : ℕ) where
  -- a power of two added: its own place, and a place i + 1 below and above
  quotient : (k : ℕ) → (s + 2 ^ k) / 2 ^ k ≡ s / 2 ^ k + 1
  quotient k = add-div_right s (pow_pos k)

  bit_below : (i j : ℕ) → bit j (s + 2 ^ (suc i + j)) ≡ bit j s
  bit_below i j =
      let e : (s + 2 ^ suc i * 2 ^ j) / 2 ^ j ≡ s / 2 ^ j + 2 ^ suc i = add-mul-div_right s (2 ^ suc i) (pow_pos j) in
      rw (pow-add 2 (suc i) j, e) (omega arith)

  half : (k : ℕ) → bit k s ≡ 0 → (s + 2 ^ k) / 2 ^ (k + 1) ≡ s / 2 ^ (k + 1)
  half k h =
      let e : (s / 2 ^ k + 1) / 2 ≡ s / 2 ^ k / 2 = omega arith in
      sym (shr-shr (s + 2 ^ k) k 1) ∙ rw (quotient k) e ∙ shr-shr s k 1

  bit_above : (k i : ℕ) → bit k s ≡ 0 → bit (k + 1 + i) (s + 2 ^ k) ≡ bit (k + 1 + i) s
  bit_above k i h = rw (← shr-shr (s + 2 ^ k) (k + 1) i, ← shr-shr s (k + 1) i, half k h) refl

  bit_same : (k : ℕ) → bit k s ≡ 0 → bit k (s + 2 ^ k) ≡ 1
  bit_same k h = rw (quotient k) (omega arith)

  bit_other : (k j : ℕ) → bit k s ≡ 0 → j ≢ k → bit j (s + 2 ^ k) ≡ bit j s
  bit_other k j h ne =
      by_cases
      (dec_lt j k)
      (λ l. let e : suc (k - suc j) + j ≡ k = omega arith in rw e at (bit_below (k - suc j) j))
      (λ l. let e : k + 1 + (j - suc k) ≡ j = omega arith in rw e at (bit_above k (j - suc k) h))

  bit_room : (i k : ℕ) → bit k s ≡ 0 → s < 2 ^ (suc i + k) → s + 2 ^ k < 2 ^ (suc i + k)
  bit_room i k h l =
      let p = pow-add 2 (suc i) k in
      let a : s / 2 ^ k < 2 ^ suc i = (div-lt_iff_lt-mul (pow_pos k)).1 (rw p at l) in
      let b : (s + 2 ^ k) / 2 ^ k < 2 ^ suc i = rw (quotient k) (omega arith) in
      rw p ((div-lt_iff_lt-mul (pow_pos k)).0 b)

  -- a power of two that is there: the rest lacks it
  bit_low : (k : ℕ) → bit k s ≡ 1 → 2 ^ k ≤ s
  bit_low k h = by_cases (dec_lt s (2 ^ k)) (λ l. absurd (omega (arith, div-eq_of_lt l))) (λ l. omega arith)

-- a member by its bit, and the other way round
zero_bit : (t s : ℕ) → member t s ≡ false → bit (t - 1) s ≡ 0
unfolding member
zero_bit t s h = omega (arith, eqb-false (bit (t - 1) s) 1 h)

one_bit : (t s : ℕ) → member t s ≡ true → bit (t - 1) s ≡ 1
unfolding member
one_bit t s h = eqb-true (bit (t - 1) s) 1 h

is_member : (t s : ℕ) → bit (t - 1) s ≡ 1 → member t s ≡ true
unfolding member
is_member t s h = eq-eqb (bit (t - 1) s) 1 h

not_member : (t s : ℕ) → bit (t - 1) s ≡ 0 → member t s ≡ false
unfolding member
not_member t s h = ne_eqb (bit (t - 1) s) 1 (λ z. omega arith)

same_bit : (t s x : ℕ) → bit (t - 1) s ≡ bit (t - 1) x → member t s ≡ member t x
unfolding member
same_bit t s x e = ap (λ (b : ℕ). eqb b 1) e

-- what is left, and the number taken out
module _ (t s : ℕ) (h : member t s ≡ true) where
  whole : (s - 2 ^ (t - 1)) + 2 ^ (t - 1) ≡ s
  whole = omega (arith, bit_low s (t - 1) (one_bit t s h))

  rest_bit : bit (t - 1) (s - 2 ^ (t - 1)) ≡ 0
  rest_bit =
      let q = quotient (s - 2 ^ (t - 1)) (t - 1) in
      let e : s / 2 ^ (t - 1) ≡ (s - 2 ^ (t - 1)) / 2 ^ (t - 1) + 1 = rw whole at q in
      omega (arith, one_bit t s h)

module _ (t s : ℕ) where
  pub member_inserted : member t (inserted t s) ≡ true
  unfolding inserted
  member_inserted =
      pick_cases (λ x. member t x ≡ true) (member t s) s (s + 2 ^ (t - 1)) (λ e. e)
      (λ e. is_member t (s + 2 ^ (t - 1)) (bit_same s (t - 1) (zero_bit t s e)))

  pub member_removed : member t (removed t s) ≡ false
  unfolding removed
  member_removed =
      pick_cases (λ x. member t x ≡ false) (member t s) (s - 2 ^ (t - 1)) s
      (λ e. not_member t (s - 2 ^ (t - 1)) (rest_bit t s e))
      (λ e. e)

  module _ (u : ℕ) (some : 1 ≤ t) (other : 1 ≤ u) (ne : t ≢ u) where
    pub other_inserted : member u (inserted t s) ≡ member u s
    unfolding inserted
    other_inserted =
        pick_cases (λ x. member u x ≡ member u s) (member t s) s (s + 2 ^ (t - 1)) (λ e. refl)
        (λ e. same_bit u (s + 2 ^ (t - 1)) s (bit_other s (t - 1) (u - 1) (zero_bit t s e) (λ z. ne (omega arith))))

    pub other_removed : member u (removed t s) ≡ member u s
    unfolding removed
    other_removed =
        pick_cases (λ x. member u x ≡ member u s) (member t s) (s - 2 ^ (t - 1)) s
        (λ e.
        let b = bit_other (s - 2 ^ (t - 1)) (t - 1) (u - 1) (rest_bit t s e) (λ z. ne (omega arith)) in
        same_bit u (s - 2 ^ (t - 1)) s (sym (rw (whole t s e) at b)))
        (λ e. refl)

  pub inserted_below : (m : ℕ) → 1 ≤ t → t ≤ m → s < 2 ^ m → inserted t s < 2 ^ m
  unfolding inserted
  inserted_below m some few l =
      let n : suc (m - t) + (t - 1) ≡ m = omega arith in
      pick_cases (λ x. x < 2 ^ m) (member t s) s (s + 2 ^ (t - 1)) (λ e. l) (λ e. rw n at (bit_room s (m - t) (t - 1) (zero_bit t s e) (rw n l)))

  pub removed_at_most : removed t s ≤ s
  unfolding removed
  removed_at_most = pick_cases (λ x. x ≤ s) (member t s) (s - 2 ^ (t - 1)) s (λ e. omega arith) (λ e. omega arith)

-- a set without those of 1 .. n that are in the set h
pub removed_all_at_most : (n h s : ℕ) → removed_all n h s ≤ s
unfolding removed_all
removed_all_at_most zero h s = omega arith
removed_all_at_most (suc n) h s =
    let q : ℕ = removed_all n h s in
    let l = removed_all_at_most n h s in
    pick_cases (λ x. x ≤ s) (member (suc n) h) (removed (suc n) q) q (λ e. omega (arith, removed_at_most (suc n) q)) (λ e. l)

-- what is in it then was in it before
pub removed_inside : (t s u : ℕ) → 1 ≤ t → 1 ≤ u → member u (removed t s) ≡ true → member u s ≡ true
removed_inside t s u some other e =
    by_cases
    (ℕ_discrete t u)
    (λ (z : t ≡ u). absurd (tests_differ e (rw z (member_removed u s))))
    (λ ne. sym (other_removed t s u some other ne) ∙ e)

pub removed_all_inside : (n h s u : ℕ) → 1 ≤ u → member u (removed_all n h s) ≡ true → member u s ≡ true
unfolding removed_all
removed_all_inside zero h s u some e = e
removed_all_inside (suc n) h s u some f =
    let q : ℕ = removed_all n h s in
    pick_cases (λ x. member u x ≡ true → member u s ≡ true) (member (suc n) h) (removed (suc n) q) q
    (λ i e. removed_all_inside n h s u some (removed_inside (suc n) q u (omega arith) some e))
    (λ i e. removed_all_inside n h s u some e)
    f

-- a number that is not in h stays as it was
pub removed_all_other : (n h s t : ℕ) → 1 ≤ t → member t h ≡ false → member t (removed_all n h s) ≡ member t s
unfolding removed_all
removed_all_other zero h s t some out = refl
removed_all_other (suc n) h s t some out =
    let q : ℕ = removed_all n h s in
    pick_cases (λ x. member t x ≡ member t s) (member (suc n) h) (removed (suc n) q) q
    (λ (e : member (suc n) h ≡ true).
    other_removed (suc n) q t (omega arith) some (λ (z : suc n ≡ t). tests_differ e (rw (← z) at out)) ∙ removed_all_other n h s t some out)
    (λ e. removed_all_other n h s t some out)

-- one that is in h is out
pub removed_all_out : (n h s t : ℕ) → 1 ≤ t → t ≤ n → member t h ≡ true → member t (removed_all n h s) ≡ false
unfolding removed_all
removed_all_out zero h s t some few in-h = absurd (omega arith)
removed_all_out (suc n) h s t some few in-h =
    let q : ℕ = removed_all n h s in
    by_cases
    (ℕ_discrete t (suc n))
    (λ (z : t ≡ suc n). let i : member (suc n) h ≡ true = rw z at in-h in rw (z, i) (member_removed (suc n) q))
    (λ ne.
    let out = removed_all_out n h s t some (omega arith) in-h in
    pick_cases (λ x. member t x ≡ false) (member (suc n) h) (removed (suc n) q) q
    (λ e. other_removed (suc n) q t (omega arith) some (λ z. ne (sym z)) ∙ out)
    (λ e. out))

-- the empty set
pub none_member : (t : ℕ) → member t 0 ≡ false
unfolding member
none_member t = rw (zero-div (2 ^ (t - 1))) refl

-- a set of 1 .. m + 1 that lacks the last is one of 1 .. m
lacks_last : (m s : ℕ) → s < 2 ^ suc m → member (suc m) s ≡ false → s < 2 ^ m
lacks_last m s l out =
    let e : suc m - 1 ≡ m = omega arith in
    let b : bit m s ≡ 0 = rw e at (zero_bit (suc m) s out) in
    let q : s / 2 ^ m < 2 = (div-lt_iff_lt-mul (pow_pos m)).1 (omega arith) in
    let z : s < 1 * 2 ^ m = (div-lt_iff_lt-mul (pow_pos m)).0 (omega arith) in
    omega arith

pub no_member : (m s : ℕ) → s < 2 ^ m → ((t : ℕ) → 1 ≤ t → t ≤ m → member t s ≡ false) → s ≡ 0
no_member zero s l h = omega arith
no_member (suc m) s l h = no_member m s (lacks_last m s l (h (suc m) (omega arith) (omega arith))) (λ t p r. h t p (omega arith))

-- two sets with the same rest without t, and t in both or in none
same_rest : (t s x : ℕ) → removed t s ≡ removed t x → member t s ≡ member t x → s ≡ x
unfolding removed
same_rest t s x e f = go (member t s) refl (member t x) refl
  where
    go : (b : Bool) → member t s ≡ b → (c : Bool) → member t x ≡ c → s ≡ x
    go true p true q = let d : s - 2 ^ (t - 1) ≡ x - 2 ^ (t - 1) = rw (p, q) at e in sym (whole t s p) ∙ rw d (whole t x q)
    go true p false q = absurd (tests_differ p (f ∙ q))
    go false p true q = absurd (tests_differ (f ∙ q) p)
    go false p false q = rw (p, q) at e

-- two sets of 1 .. m with the same members
pub same_members : (m s x : ℕ) → s < 2 ^ m → x < 2 ^ m → ((t : ℕ) → 1 ≤ t → t ≤ m → member t s ≡ member t x) → s ≡ x
same_members zero s x l k h = omega arith
same_members (suc m) s x l k h =
    let rest : (y : ℕ) → y < 2 ^ suc m → removed (suc m) y < 2 ^ m =
    λ y f. lacks_last m (removed (suc m) y) (omega (arith, removed_at_most (suc m) y)) (member_removed (suc m) y) in
    let other : (y t : ℕ) → 1 ≤ t → t ≤ m → member t (removed (suc m) y) ≡ member t y =
    λ y t p q. other_removed (suc m) y t (omega arith) p (λ z. omega arith) in
    same_rest (suc m) s x
    (same_members m (removed (suc m) s) (removed (suc m) x) (rest s l) (rest x k)
    (λ t p q. other s t p q ∙ h t p (omega arith) ∙ sym (other x t p q)))
    (h (suc m) (omega arith) (omega arith))
