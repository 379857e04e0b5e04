-- Following the links of a task: each channel that is reached has it, and comes after the one before.
use mathlib.Core.Path.{◌≡◌, refl, sym, ◌∙◌, ap}
use mathlib.Core.List.{List}
use mathlib.Core.Logic.{◌≢◌}
use Prim.Native.Nat.{ℕ, zero, suc, ◌+◌, ◌-◌, ◌≤◌, ◌<◌}
use native.Mathlib.Omega.{arith}
use lib.Dec.{eqb}
use lib.ListN.{get_or}
use borrow.Author.Tests.{eqb-true, eqb-false}
use Rattle.base.proofs.Choices.{pick_cases}
use Rattle.plan_index.specs.user_table.Links.{next_in, Linked}
use Rattle.plan_index.proofs.user_table.Linking.{next_none}

-- how many channels lie before channel c; all before 0, which ends the links
unfoldable pub reached : ℕ → ℕ
reached zero = 128
reached (suc k) = k

pub reached_end : {c : ℕ} → c ≡ 0 → reached c ≡ 128
unfolding reached
reached_end e = rw e refl

pub reached_before : (c : ℕ) → 1 ≤ c → reached c + 1 ≡ c
unfolding reached
reached_before zero h = absurd (omega arith)
reached_before (suc k) h = omega arith

-- channel c, or 0, is reached by the links of task t
pub record Follows (ends : List ℕ) (t c : ℕ) : Type 0 where
  pub most : c ≤ 128
  pub has : 1 ≤ c → get_or ends c 0 ≡ t

module _ (ends : List ℕ) (t : ℕ) where
  -- the next of the last j + 1: the first of them where it has the task, else the next of the last j
  next_cases : (P : ℕ → Type 0) (j : ℕ) → (get_or ends (128 - j) 0 ≡ t → P (128 - j)) → (get_or ends (128 - j) 0 ≢ t → P (next_in ends t j)) → P (next_in ends t (suc j))
  unfolding next_in
  next_cases P j here past =
      pick_cases P (eqb (get_or ends (128 - j) 0) t) (128 - j) (next_in ends t j) (λ e. here (eqb-true (get_or ends (128 - j) 0) t e)) (λ e. past (eqb-false (get_or ends (128 - j) 0) t e))

  pub next_follows : (j : ℕ) → Follows ends t (next_in ends t j)
  next_follows zero = rw (next_none ends t) (record { most = omega arith; has = λ h. absurd (omega arith) })
  next_follows (suc j) = next_cases (Follows ends t) j (λ e. record { most = omega arith; has = λ h. e }) (λ e. next_follows j)

  -- it is none of the channels before the last j
  pub next_later : (j : ℕ) → j ≤ 128 → 128 - j ≤ reached (next_in ends t j)
  next_later zero h = rw (next_none ends t, reached_end refl) (omega arith)
  next_later (suc j) h =
      next_cases (λ c. 128 - suc j ≤ reached c) j (λ e. omega (arith, reached_before (128 - j) (omega arith))) (λ e. omega (arith, next_later j (omega arith)))

  -- what a channel without the task leaves as it is, stays so up to the next with it
  pub next_skips : {A : Type 0} (f : ℕ → A) → ((k : ℕ) → get_or ends (k + 1) 0 ≢ t → f (k + 1) ≡ f k) → (j : ℕ) → j ≤ 128 → f (reached (next_in ends t j)) ≡ f (128 - j)
  next_skips f same zero h = rw (next_none ends t, reached_end refl) refl
  next_skips f same (suc j) h =
      let more : 128 - suc j + 1 ≡ 128 - j = omega arith in
      next_cases (λ c. f (reached c) ≡ f (128 - suc j)) j
      (λ e. let b : reached (128 - j) ≡ 128 - suc j = omega (arith, reached_before (128 - j) (omega arith)) in rw b refl)
      (λ e. next_skips f same j (omega arith) ∙ ap f (sym more) ∙ same (128 - suc j) (λ p. e (ap (λ k. get_or ends k 0) (sym more) ∙ p)))

module _ {ends firsts nexts : List ℕ} (links : Linked ends firsts nexts) where
  module _ (c : ℕ) (h : 1 ≤ c) (m : c ≤ 128) where
    -- the next channel is a later one
    pub after_later : reached c < reached (get_or nexts c 0)
    after_later = rw (links.next c h m) (omega (arith, reached_before c h, next_later ends (get_or ends c 0) (128 - c) (omega arith)))

    pub after_most : get_or nexts c 0 ≤ 128
    after_most = rw (links.next c h m) (next_follows ends (get_or ends c 0) (128 - c)).most

  module _ (t : ℕ) where
    pub first_follows : t ≤ 64 → Follows ends t (get_or firsts t 0)
    first_follows h = rw (links.first t h) (next_follows ends t 128)

    next_of_lem : (c : ℕ) → 1 ≤ c → Follows ends t c → get_or nexts c 0 ≡ next_in ends t (128 - c)
    next_of_lem c h f = links.next c h f.most ∙ ap (λ u. next_in ends u (128 - c)) (f.has h)

    pub after_follows : (c : ℕ) → 1 ≤ c → Follows ends t c → Follows ends t (get_or nexts c 0)
    after_follows c h f = rw (next_of_lem c h f) (next_follows ends t (128 - c))

    -- the first and the next channel with the task, of what a channel without it leaves as it is
    module _ {A : Type 0} (f : ℕ → A) (same : (k : ℕ) → get_or ends (k + 1) 0 ≢ t → f (k + 1) ≡ f k) where
      pub first_skips : t ≤ 64 → f (reached (get_or firsts t 0)) ≡ f 0
      first_skips h = rw (links.first t h) (next_skips ends t f same 128 (omega arith))

      pub after_skips : (c : ℕ) → 1 ≤ c → Follows ends t c → f (reached (get_or nexts c 0)) ≡ f c
      after_skips c h w =
          let most = w.most in
          let e : 128 - (128 - c) ≡ c = omega arith in
          rw (next_of_lem c h w) (next_skips ends t f same (128 - c) (omega arith) ∙ ap f e)
