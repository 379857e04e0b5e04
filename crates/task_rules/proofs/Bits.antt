-- A set in the 64 bits of one number: what `|`, `&` and `!` make of it.
use mathlib.Core.Path.{◌≡◌, refl, sym, ◌∙◌}
use mathlib.Core.Bool.{Bool, true, false}
use mathlib.Core.Logic.{by_cases}
use Prim.Native.Nat.{ℕ, ◌-◌, ◌*◌, ◌%◌, ◌^◌, ◌<◌, ◌≤◌, min}
use native.Mathlib.Nat.{mod-lt}
use native.Mathlib.Omega.{arith}
use native.Mathlib.Decide.{ℕ_discrete}
use lib.Bits.{bit_and}
use borrow.Author.Tests.{eqb-true, eqb-false}
use mir.Syntax.{w64}
use Rattle.std.specs.Int.{bit_at}
use Rattle.std.specs.Int.RustNames.{bit_or}
use Rattle.std.proofs.lemmas.Nat.{or_lt}
use Rattle.std.proofs.lemmas.Nat.Bits.{bit_at-lt, bit_at_and, bit_at_not, bit_at_set_same, bit_at_set_other, bit_at_clear_same, bit_at_clear_other}
use Rattle.base.specs.Sets.{member, inserted, removed, removed_all}
use Rattle.base.proofs.Sets.{member_inserted, member_removed, other_inserted, other_removed, inserted_below, removed_at_most, removed_all_at_most, removed_all_out, removed_all_other, same_members}

-- a member is a bit that is one
is_one : (u x : ℕ) → bit_at x (u - 1) ≡ 1 → member u x ≡ true
unfolding member
is_one u x e = rw e refl

is_zero : (u x : ℕ) → bit_at x (u - 1) ≡ 0 → member u x ≡ false
unfolding member
is_zero u x e = rw e refl

same_bit : (u x y : ℕ) → bit_at x (u - 1) ≡ bit_at y (u - 1) → member u x ≡ member u y
unfolding member
same_bit u x y e = rw e refl

one_of : (u x : ℕ) → member u x ≡ true → bit_at x (u - 1) ≡ 1
unfolding member
one_of u x e = eqb-true (bit_at x (u - 1)) 1 e

zero_of : (u x : ℕ) → member u x ≡ false → bit_at x (u - 1) ≡ 0
unfolding member
zero_of u x e =
    let ne = eqb-false (bit_at x (u - 1)) 1 e in
    let l = bit_at-lt x (u - 1) in
    omega arith

module _ (t s : ℕ) (some : 1 ≤ t) (few : t ≤ 64) (l : s < 18446744073709551616) where
  abbrev one : ℕ
  one = 1 * 2 ^ (t - 1) % 18446744073709551616

  place : t - 1 < 64
  place = omega arith

  pub with_bit : bit_or s one ≡ inserted t s
  with_bit =
      let fits : one < 18446744073709551616 = mod-lt (1 * 2 ^ (t - 1)) (omega arith) in
      same_members 64 (bit_or s one) (inserted t s) (or_lt 64 s one l fits) (inserted_below t s 64 some few l)
      (λ u p q.
      by_cases
      (ℕ_discrete u t)
      (λ (e : u ≡ t). rw e (is_one t (bit_or s one) (bit_at_set_same w64 s (t - 1) place) ∙ sym (member_inserted t s)))
      (λ ne. same_bit u (bit_or s one) s (bit_at_set_other w64 s (t - 1) place (u - 1) (λ z. ne (omega arith))) ∙ sym (other_inserted t s u some p (λ z. ne (sym z)))))

  pub without_bit : bit_and s (18446744073709551615 - one) < 18446744073709551616 → bit_and s (18446744073709551615 - one) ≡ removed t s
  without_bit r =
      same_members 64 (bit_and s (18446744073709551615 - one)) (removed t s) r (omega (arith, removed_at_most t s))
      (λ u p q.
      by_cases
      (ℕ_discrete u t)
      (λ (e : u ≡ t). rw e (is_zero t (bit_and s (18446744073709551615 - one)) (bit_at_clear_same w64 s (t - 1) place) ∙ sym (member_removed t s)))
      (λ ne. same_bit u (bit_and s (18446744073709551615 - one)) s (bit_at_clear_other w64 s (t - 1) place (u - 1) (omega arith) (λ z. ne (omega arith))) ∙ sym (other_removed t s u some p (λ z. ne (sym z)))))

module _ (h s : ℕ) (k : h < 18446744073709551616) (l : s < 18446744073709551616) where
  abbrev rest : ℕ
  rest = bit_and s (18446744073709551615 - h)

  -- one bit of what is left
  bit_left : (u : ℕ) → 1 ≤ u → u ≤ 64 → bit_at rest (u - 1) ≡ min (bit_at s (u - 1)) (1 - bit_at h (u - 1))
  bit_left u p q =
      let e : bit_at (18446744073709551615 - h) (u - 1) ≡ 1 - bit_at h (u - 1) = bit_at_not w64 h (u - 1) k (omega arith) in
      bit_at_and s (18446744073709551615 - h) (u - 1) ∙ rw e refl

  one_left : (u : ℕ) → 1 ≤ u → u ≤ 64 → (b : Bool) → member u h ≡ b → member u rest ≡ member u (removed_all 64 h s)
  one_left u p q true e =
      let z : bit_at rest (u - 1) ≡ 0 = omega (arith, bit_left u p q, one_of u h e) in
      is_zero u rest z ∙ sym (removed_all_out 64 h s u p q e)
  one_left u p q false e =
      let z : bit_at rest (u - 1) ≡ bit_at s (u - 1) = omega (arith, bit_left u p q, zero_of u h e, bit_at-lt s (u - 1)) in
      same_bit u rest s z ∙ sym (removed_all_other 64 h s u p e)

  pub without_all : rest < 18446744073709551616 → rest ≡ removed_all 64 h s
  without_all r = same_members 64 rest (removed_all 64 h s) r (omega (arith, removed_all_at_most 64 h s)) (λ u p q. one_left u p q (member u h) refl)
