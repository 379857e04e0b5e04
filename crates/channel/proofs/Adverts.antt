-- Laws of the adverts of a desk to every other one: which letters they are, and their sums.
use mathlib.Core.Path.{◌≡◌, refl, ◌∙◌, ap}
use mathlib.Core.Logic.{◌≢◌, by_cases, ⊎_elim}
use mathlib.Core.List.Memᴰ
use mathlib.Core.List.{List, [], ◌++◌}
use Prim.Native.Nat.{ℕ, zero, suc, ◌+◌, ◌≤◌}
use native.Mathlib.Omega.{arith}
use native.Mathlib.Decide.{ℕ_discrete}
use lib.Dec.{eqb}
use borrow.Author.Tests.{eqb-false, ne_eqb}
use Rattle.base.specs.Choice.{pick}
use Rattle.base.specs.Range.{fold}
use Rattle.base.proofs.Choices.{pick_cases}
use Rattle.channel.specs.Bags.{In, one, total}
use Rattle.channel.specs.Messages.{ChannelMessage, advert, kind, adverts}
use Rattle.channel.proofs.Bags.{total_append, in_new, in_front}

-- one of the adverts of desk d to n desks
pub record AdvertFrom (d n : ℕ) (m : ChannelMessage) : Type 0 where
  pub to : ℕ
  pub is : m ≡ advert to d
  pub other : to ≢ d
  pub low : 1 ≤ to
  pub high : to ≤ n

-- the advert to the desk after the n-th, if there is one
abbrev last : ℕ → ℕ → List ChannelMessage
last d n = pick (eqb (suc n) d) [] (one (advert (suc n) d))

more : (d n : ℕ) → adverts d (suc n) ≡ adverts d n ++ last d n
unfolding adverts fold
more d n = refl

none : (d : ℕ) → adverts d 0 ≡ []
unfolding adverts fold
none d = refl

module _ (d : ℕ) where
  -- each is an advert to another desk, and there is one to each
  pub adverts_in : (n : ℕ) {m : ChannelMessage} → In m (adverts d n) → AdvertFrom d n m
  adverts_in zero h = absurd (Memᴰ.not-nil (rw (none d) at h))
  adverts_in (suc n) {m} h =
      ⊎_elim (λ k. let a = adverts_in n k in record { to = a.to; is = a.is; other = a.other; low = a.low; high = omega arith }) is_last
      (Memᴰ.append_cases (adverts d n) (rw (more d n) at h))
    where
      is_last : In m (last d n) → AdvertFrom d (suc n) m
      is_last =
          pick_cases (λ l. In m l → AdvertFrom d (suc n) m) (eqb (suc n) d) [] (one (advert (suc n) d))
          (λ e k. absurd (Memᴰ.not-nil k))
          (λ e k. record { to = suc n; is = Memᴰ.eq_of_singleton k; other = eqb-false (suc n) d e; low = omega arith; high = omega arith })

  pub in_adverts : (n x : ℕ) → 1 ≤ x → x ≤ n → x ≢ d → In (advert x d) (adverts d n)
  in_adverts zero x l u ne = absurd (omega arith)
  in_adverts (suc n) x l u ne =
      by_cases
      (ℕ_discrete x (suc n))
      (λ (e : x ≡ suc n).
      let o : suc n ≢ d = λ q. ne (e ∙ q) in
      rw (e, more d n, ne_eqb (suc n) d o) (in_new (adverts d n) (advert (suc n) d)))
      (λ nx. rw (more d n) (in_front (last d n) (in_adverts n x l (omega arith) ne)))

-- a letter of another kind was there before them
pub post_adverts : (xs : List ChannelMessage) (d n : ℕ) {m : ChannelMessage} → kind m ≢ 1 → In m (xs ++ adverts d n) → In m xs
unfolding kind
post_adverts xs d n ne h = ⊎_elim (λ k. k) (λ k. absurd (ne (ap kind (adverts_in d n k).is))) (Memᴰ.append_cases xs h)

module _ (f : ChannelMessage → ℕ) (d : ℕ) where
  -- their sum: each adds at most 1, or each adds nothing
  total_more : (n : ℕ) → total f (adverts d (suc n)) ≤ total f (adverts d n) + f (advert (suc n) d)
  unfolding total
  total_more n =
      rw (more d n, total_append f (adverts d n) (last d n))
      (pick_cases (λ l. total f (adverts d n) + total f l ≤ total f (adverts d n) + f (advert (suc n) d)) (eqb (suc n) d) [] (one (advert (suc n) d))
      (λ e. omega arith) (λ e. omega arith))

  pub total_adverts : ((x : ℕ) → f (advert x d) ≤ 1) → (n : ℕ) → total f (adverts d n) ≤ n
  unfolding total
  total_adverts h zero = rw (none d) (omega arith)
  total_adverts h (suc n) = omega (arith, h (suc n), total_more n, total_adverts h n)

  pub total_adverts_zero : ((x : ℕ) → f (advert x d) ≡ 0) → (n : ℕ) → total f (adverts d n) ≡ 0
  unfolding total
  total_adverts_zero h zero = rw (none d) refl
  total_adverts_zero h (suc n) = omega (arith, h (suc n), total_more n, total_adverts_zero h n)
