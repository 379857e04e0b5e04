-- The links of one channel more, from the last down.
use mathlib.Core.Path.{◌≡◌, refl, ◌∙◌}
use mathlib.Core.List.{List}
use mathlib.Core.Logic.{◌≢◌}
use Prim.Native.Nat.{ℕ, suc, ◌-◌, ◌≤◌}
use native.Mathlib.Omega.{arith}
use lib.Dec.{eqb}
use lib.ListN.{get_or}
use borrow.Author.Tests.{eq-eqb, ne_eqb}
use Rattle.base.specs.Choice.{pick}
use Rattle.plan_index.specs.user_table.Links.{next_in}

module _ (ends : List ℕ) where
  pub next_none : (t : ℕ) → next_in ends t 0 ≡ 0
  unfolding next_in
  next_none t = refl

  -- channel c goes before those after it
  next_more : (t c : ℕ) → 1 ≤ c → c ≤ 128 → next_in ends t (128 - (c - 1)) ≡ pick (eqb (get_or ends c 0) t) c (next_in ends t (128 - c))
  unfolding next_in
  next_more t c l h =
      let e : 128 - (c - 1) ≡ suc (128 - c) = omega arith in
      let b : 128 - (128 - c) ≡ c = omega arith in
      rw (e, b) refl

  -- a channel that has the task, and one that has another
  pub next_here : (t c : ℕ) → 1 ≤ c → c ≤ 128 → get_or ends c 0 ≡ t → next_in ends t (128 - (c - 1)) ≡ c
  next_here t c l h e = next_more t c l h ∙ rw (eq-eqb (get_or ends c 0) t e) refl

  pub next_past : (t c : ℕ) → 1 ≤ c → c ≤ 128 → get_or ends c 0 ≢ t → next_in ends t (128 - (c - 1)) ≡ next_in ends t (128 - c)
  next_past t c l h e = next_more t c l h ∙ rw (ne_eqb (get_or ends c 0) t e) refl
