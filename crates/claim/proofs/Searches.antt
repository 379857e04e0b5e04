-- The search of a dispatcher brings each member of the set nearer: the choice is this member, or one after which it stands nearer.
use mathlib.Core.Path.{◌≡◌, refl}
use mathlib.Core.Bool.{true}
use mathlib.Core.Logic.{◌⊎◌, inl, inr, by_cases}
use Prim.Native.Nat.{ℕ, suc, ◌+◌, ◌-◌, ◌<◌, ◌≤◌}
use native.Mathlib.Omega.{arith}
use native.Mathlib.Decide.{ℕ_discrete, dec_lt}
use borrow.Author.Tests.{eq-eqb, ne_eqb, lt-ltb, le-ltb}
use Rattle.base.specs.Sets.{member}
use Rattle.base.proofs.Tests.{tests_differ}
use Rattle.rules.specs.Dispatch.{first_from, next_ready}
use Rattle.rules_laws.proofs.Dispatch.{First, NoFirst, first_from_lem}
use Rattle.claim.specs.Turns.{place_after}

place_above : (m last t : ℕ) → last < t → place_after m last t ≡ t - last
place_above m last t l = rw (lt-ltb last t l) refl

place_round : (m last t : ℕ) → t ≤ last → place_after m last t ≡ m + t - last
place_round m last t l = rw (le-ltb last t l) refl

-- u is chosen after `last`, and t stands nearer after it
pub record Nearer (m last t u : ℕ) : Type 0 where
  pub low : 1 ≤ u
  pub few : u ≤ m
  pub near : place_after m u t < place_after m last t

-- a task of the rig stands at one of m places
module _ (m last t : ℕ) (few : last ≤ m) (some : 1 ≤ t) (high : t ≤ m) where
  pub place_some : 1 ≤ place_after m last t
  place_some =
      by_cases
      (dec_lt last t)
      (λ l. omega (arith, place_above m last t l))
      (λ l. omega (arith, place_round m last t (omega arith)))

  pub place_few : place_after m last t ≤ m
  place_few =
      by_cases
      (dec_lt last t)
      (λ l. omega (arith, place_above m last t l))
      (λ l. omega (arith, place_round m last t (omega arith)))

  module _ (s : ℕ) (here : member t s ≡ true) where
    -- a search from a on that passes t finds it, or one before
    not_before : {n a u : ℕ} → First n a s u → a ≤ t → u ≤ t
    not_before f l = by_cases (dec_lt t _) (λ k. absurd (tests_differ here (f.before t l k))) (λ k. omega arith)

    above : {u : ℕ} → First (m - last) (suc last) s u → (u ≡ t) ⊎ Nearer m last t u
    above {u} f =
        by_cases
        (dec_lt last t)
        (λ l.
        by_cases
        (ℕ_discrete u t)
        (λ e. inl e)
        (λ ne.
        let less : u < t = omega (arith, not_before f l, ne) in
        let far = place_above m last t l in
        let near = place_above m u t less in
        inr (record { low = omega (arith, f.low); few = omega (arith, f.high); near = omega (arith, far, near, f.low) })))
        (λ l.
        let far = place_round m last t (omega arith) in
        let near = place_round m u t (omega (arith, f.low)) in
        inr (record { low = omega (arith, f.low); few = omega (arith, f.high); near = omega (arith, far, near, f.low, f.high) }))

    round : {u : ℕ} → t ≤ last → First last 1 s u → (u ≡ t) ⊎ Nearer m last t u
    round {u} l f =
        by_cases
        (ℕ_discrete u t)
        (λ e. inl e)
        (λ ne.
        let less : u < t = omega (arith, not_before f some, ne) in
        let far = place_round m last t l in
        let near = place_above m u t less in
        inr (record { low = f.low; few = omega arith; near = omega (arith, far, near, f.low) }))

    pub next_nearer : (next_ready m last s ≡ t) ⊎ Nearer m last t (next_ready m last s)
    unfolding next_ready
    next_nearer = go (first_from_lem (m - last) (suc last) s) (first_from_lem last 1 s)
      where
        go : First (m - last) (suc last) s (first_from (m - last) (suc last) s) ⊎ NoFirst (m - last) (suc last) s (first_from (m - last) (suc last) s)
            → First last 1 s (first_from last 1 s) ⊎ NoFirst last 1 s (first_from last 1 s) → (next_ready m last s ≡ t) ⊎ Nearer m last t (next_ready m last s)
        go (inl f) g = rw (ne_eqb (first_from (m - last) (suc last) s) 0 (λ e. omega (arith, f.low))) (above f)
        go (inr f) (inl g) =
            let l : t ≤ last = by_cases (dec_lt last t) (λ k. absurd (tests_differ here (f.none t k (omega arith)))) (λ k. omega arith) in
            rw (eq-eqb (first_from (m - last) (suc last) s) 0 f.zero) (round l g)
        go (inr f) (inr g) =
            let l : t ≤ last = by_cases (dec_lt last t) (λ k. absurd (tests_differ here (f.none t k (omega arith)))) (λ k. omega arith) in
            absurd (tests_differ here (g.none t some (omega arith)))
