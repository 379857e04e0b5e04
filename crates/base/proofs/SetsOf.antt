-- Laws of the set of those numbers that a test holds of: its members, and how it changes where the test changes at one number.
use mathlib.Core.Path.{◌≡◌, refl, sym, ◌∙◌}
use mathlib.Core.Bool.{Bool, true, false}
use mathlib.Core.Logic.{◌≢◌, by_cases}
use Prim.Native.Nat.{ℕ, zero, suc, ◌-◌, ◌^◌, ◌<◌, ◌≤◌}
use native.Mathlib.Nat.{div-eq_of_lt}
use native.Mathlib.Omega.{arith}
use native.Mathlib.Decide.{ℕ_discrete}
use lib.Pow.{pow_mono}
use Rattle.base.specs.Sets.{member, inserted, removed, set_of}
use Rattle.base.proofs.Choices.{pick_cases}
use Rattle.base.proofs.Sets.{member_inserted, member_removed, other_inserted, other_removed, inserted_below, removed_at_most, same_members}

-- a set of 1 .. n has no member above
pub above_member : (n t s : ℕ) → s < 2 ^ n → n < t → member t s ≡ false
unfolding member
above_member n t s l h =
    let k : 2 ^ n ≤ 2 ^ (t - 1) = pow_mono (omega arith) in
    let small : s < 2 ^ (t - 1) = omega arith in
    rw (div-eq_of_lt small) refl

pub set_below : (p : ℕ → Bool) (n : ℕ) → set_of n p < 2 ^ n
unfolding set_of
set_below p zero = omega arith
set_below p (suc n) =
    let k : 2 ^ n ≤ 2 ^ suc n = pow_mono (omega arith) in
    let l : set_of n p < 2 ^ suc n = omega (arith, set_below p n) in
    pick_cases (λ s. s < 2 ^ suc n) (p (suc n)) (inserted (suc n) (set_of n p)) (set_of n p)
    (λ e. inserted_below (suc n) (set_of n p) (suc n) (omega arith) (omega arith) l)
    (λ e. l)

-- t is in the set of those of 1 .. n where the test holds of it
pub member_set : (p : ℕ → Bool) (n t : ℕ) → 1 ≤ t → t ≤ n → member t (set_of n p) ≡ p t
unfolding set_of
member_set p zero t some few = absurd (omega arith)
member_set p (suc n) t some few =
    let s : ℕ = set_of n p in
    by_cases
    (ℕ_discrete t (suc n))
    (λ (z : t ≡ suc n).
    rw z
    (pick_cases (λ x. member (suc n) x ≡ p (suc n)) (p (suc n)) (inserted (suc n) s) s
    (λ e. member_inserted (suc n) s ∙ sym e)
    (λ e. above_member n (suc n) s (set_below p n) (omega arith) ∙ sym e)))
    (λ ne.
    let old = member_set p n t some (omega arith) in
    pick_cases (λ x. member t x ≡ p t) (p (suc n)) (inserted (suc n) s) s
    (λ e. other_inserted (suc n) s t (omega arith) some (λ z. ne (sym z)) ∙ old)
    (λ e. old))

-- a set of 1 .. n with the members that a test gives is its set
pub set_is : (p : ℕ → Bool) (n s : ℕ) → s < 2 ^ n → ((t : ℕ) → 1 ≤ t → t ≤ n → member t s ≡ p t) → s ≡ set_of n p
set_is p n s l h = same_members n s (set_of n p) l (set_below p n) (λ t some few. h t some few ∙ sym (member_set p n t some few))

-- two tests that agree
pub set_same : (p q : ℕ → Bool) (n : ℕ) → ((t : ℕ) → 1 ≤ t → t ≤ n → p t ≡ q t) → set_of n p ≡ set_of n q
set_same p q n h = set_is q n (set_of n p) (set_below p n) (λ t some few. member_set p n t some few ∙ h t some few)

-- two tests that agree but at t, where the second holds, or fails
module _ (p q : ℕ → Bool) (n t : ℕ) (some : 1 ≤ t) (few : t ≤ n) (same : (u : ℕ) → t ≢ u → p u ≡ q u) where
  module _ (f : ℕ → ℕ) (small : f (set_of n p) < 2 ^ n) (own : member t (f (set_of n p)) ≡ q t)
      (others : (u : ℕ) → 1 ≤ u → t ≢ u → member u (f (set_of n p)) ≡ member u (set_of n p)) where
    set_changed : f (set_of n p) ≡ set_of n q
    set_changed =
        set_is q n (f (set_of n p)) small
        (λ u low high.
        by_cases
        (ℕ_discrete t u)
        (λ (z : t ≡ u). rw (← z) own)
        (λ ne. others u low ne ∙ member_set p n u low high ∙ same u ne))

  pub set_inserted : q t ≡ true → inserted t (set_of n p) ≡ set_of n q
  set_inserted e =
      set_changed (inserted t) (inserted_below t (set_of n p) n some few (set_below p n)) (member_inserted t (set_of n p) ∙ sym e)
      (λ u low ne. other_inserted t (set_of n p) u some low ne)

  pub set_removed : q t ≡ false → removed t (set_of n p) ≡ set_of n q
  set_removed e =
      set_changed (removed t) (omega (arith, removed_at_most t (set_of n p), set_below p n)) (member_removed t (set_of n p) ∙ sym e)
      (λ u low ne. other_removed t (set_of n p) u some low ne)
