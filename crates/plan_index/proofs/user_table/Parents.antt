-- The parents of the tasks below n are stored, and nothing else is.
use mathlib.Core.Path.{◌≡◌, refl, ◌∙◌}
use mathlib.Core.List.{List}
use mathlib.Core.Logic.{◌≢◌, by_cases}
use Prim.Native.Nat.{ℕ, zero, suc, ◌+◌, ◌*◌, ◌≤◌, ◌<◌}
use native.Mathlib.Numerals.{add-one}
use native.Mathlib.Omega.{arith}
use native.Mathlib.Decide.{ℕ_discrete}
use lib.ListN.{get_or, set, length, length-set}
use lib.Seq.{get_or-set_same, get_or-set_other}
use Rattle.plan_index.specs.user_table.Built.{with_parents}

module _ (parents users : List ℕ) where
  pub parents_none : users ≡ with_parents parents 0 users
  unfolding with_parents
  parents_none = refl

  pub parents_more : (n : ℕ) → set (with_parents parents n users) (640 + 4 * n) (get_or parents n 0) ≡ with_parents parents (n + 1) users
  unfolding with_parents
  parents_more n = rw (add-one n) refl

  pub parents_long : (n : ℕ) → length (with_parents parents n users) ≡ length users
  unfolding with_parents
  parents_long zero = refl
  parents_long (suc n) = length-set (with_parents parents n users) (640 + 4 * n) (get_or parents n 0) ∙ parents_long n

  pub parents_other : (n j : ℕ) → ((t : ℕ) → t < n → j ≢ 640 + 4 * t) → get_or (with_parents parents n users) j 0 ≡ get_or users j 0
  unfolding with_parents
  parents_other zero j other = refl
  parents_other (suc n) j other =
      get_or-set_other (with_parents parents n users) (640 + 4 * n) j (get_or parents n 0) 0 (other n (omega arith)) ∙ parents_other n j (λ t h. other t (omega arith))

  pub parents_at : length users ≡ 1024 → (n t : ℕ) → n ≤ 65 → t < n → get_or (with_parents parents n users) (640 + 4 * t) 0 ≡ get_or parents t 0
  unfolding with_parents
  parents_at long zero t m h = absurd (omega arith)
  parents_at long (suc n) t m h =
      let before = with_parents parents n users in
      by_cases
      (ℕ_discrete t n)
      (λ (e : t ≡ n). rw e (get_or-set_same before (640 + 4 * n) (get_or parents n 0) 0 (omega (arith, parents_long n))))
      (λ e. get_or-set_other before (640 + 4 * n) (640 + 4 * t) (get_or parents n 0) 0 (omega arith) ∙ parents_at long n t (omega arith) (omega arith))
