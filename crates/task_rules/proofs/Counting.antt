-- A count of ones is how many are in the set, and 0 for the empty set alone.
use mathlib.Core.Path.{◌≡◌, refl, sym, ◌∙◌, ap}
use mathlib.Core.Bool.{true}
use mathlib.Core.Logic.{by_cases}
use Prim.Native.Nat.{ℕ, zero, suc, ◌+◌, ◌*◌, ◌-◌, ◌/◌, ◌%◌, ◌^◌, ◌<◌, ◌≤◌}
use native.Mathlib.Nat.{mod-eq_of_lt, mod-lt, pow-suc, mul_comm}
use native.Mathlib.Omega.{arith}
use native.Mathlib.Decide.{ℕ_discrete}
use lib.Arith.{mod-mul}
use lib.Count.{ones, ones_cat}
use lib.Dec.{eqb}
use lib.Pow.{pow_pos}
use borrow.Author.Tests.{eq-eqb, ne_eqb}
use Rattle.base.specs.Choice.{pick}
use Rattle.base.specs.Sets.{member, size}
use Rattle.base.proofs.Sets.{none_member, no_member}
use Rattle.base.proofs.Tests.{is_false}

-- the ones of one digit
digit : (b : ℕ) → b < 2 → ones b ≡ pick (eqb b 1) 1 0
unfolding ones
digit zero l = refl
digit (suc zero) l = refl
digit (suc (suc b)) l = absurd (omega arith)

-- one digit more
longer : (n s : ℕ) → s % 2 ^ suc n ≡ (s / 2 ^ n % 2) * 2 ^ n + s % 2 ^ n
longer n s = rw (pow-suc 2 n, mul_comm (2 ^ n) 2) (mod-mul s (omega arith) (pow_pos n))

size_ones : (n s : ℕ) → size n s ≡ ones (s % 2 ^ n)
unfolding size member ones
size_ones zero s = let e : s % 1 ≡ 0 = omega arith in rw e refl
size_ones (suc n) s =
    let b : ℕ = s / 2 ^ n % 2 in
    let e : suc n - 1 ≡ n = omega arith in
    let c = ones_cat n b (s % 2 ^ n) (mod-lt s (pow_pos n)) in
    rw (e, longer n s, c, digit b (mod-lt (s / 2 ^ n) (omega arith)), size_ones n s) (omega arith)

-- the empty set has none
size_none : (n : ℕ) → size n 0 ≡ 0
unfolding size
size_none zero = refl
size_none (suc n) = rw (size_none n, none_member (suc n)) refl

-- a set with a member has a size
sized : (n s t : ℕ) → 1 ≤ t → t ≤ n → member t s ≡ true → 1 ≤ size n s
unfolding size
sized zero s t some few h = absurd (omega arith)
sized (suc n) s t some few h =
    by_cases
    (ℕ_discrete t (suc n))
    (λ (e : t ≡ suc n). let m : member (suc n) s ≡ true = rw e at h in rw m (omega arith))
    (λ ne. let l = sized n s t some (omega arith) h in omega arith)

module _ (s : ℕ) (l : s < 18446744073709551616) where
  pub counted : ones s ≡ size 64 s
  counted = sym (size_ones 64 s ∙ ap ones (mod-eq_of_lt l))

  empty : size 64 s ≡ 0 → s ≡ 0
  empty h = no_member 64 s l (λ t some few. is_false (member t s) (λ m. let p = sized 64 s t some few m in omega arith))

  pub none_counted : eqb (ones s) 0 ≡ eqb s 0
  none_counted =
      by_cases
      (ℕ_discrete s 0)
      (λ (e : s ≡ 0). let z : ones s ≡ 0 = counted ∙ rw e (size_none 64) in eq-eqb (ones s) 0 z ∙ sym (eq-eqb s 0 e))
      (λ ne. ne_eqb (ones s) 0 (λ z. ne (empty (sym counted ∙ z))) ∙ sym (ne_eqb s 0 ne))
