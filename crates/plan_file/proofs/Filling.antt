-- A table that is filled from the front, entry by entry.
use mathlib.Core.Path.{◌≡◌, sym, ◌∙◌, ap}
use mathlib.Core.Logic.{by_cases}
use Prim.Native.Nat.{ℕ, ◌+◌, ◌<◌, ◌≤◌}
use native.Mathlib.Omega.{arith}
use native.Mathlib.Decide.{dec_lt}
use lib.ListN.{set, replicate}
use lib.Dec.{ltb}
use borrow.Author.Tests.{lt-ltb, le-ltb}
use Rattle.base.specs.Choice.{pick}
use Rattle.base.specs.Lists.{table}
use Rattle.base.proofs.Tables.{all_same, table_same, set_table}

module _ {A : Type 0} where
  -- the first s of f, and d behind them
  abbrev filled : (ℕ → A) → A → ℕ → ℕ → A
  filled f d s j = pick (ltb j s) (f j) d

  pub fill_none : (n : ℕ) (f : ℕ → A) (d : A) → replicate n d ≡ table n (filled f d 0)
  fill_none n f d = all_same n (filled f d 0) d (λ i q. simp (le-ltb i 0 (omega arith)))

  pub fill_more : (n : ℕ) (f : ℕ → A) (d : A) (s : ℕ) → s < n → set (table n (filled f d s)) s (f s) ≡ table n (filled f d (s + 1))
  fill_more n f d s h =
      let here : filled f d (s + 1) s ≡ f s = simp (lt-ltb s (s + 1) (omega arith)) in
      ap (set (table n (filled f d s)) s) (sym here) ∙ set_table n (filled f d s) (filled f d (s + 1)) s d h (λ j b e. same j e)
    where
      same : (j : ℕ) → (j ≡ s → ⊥) → filled f d s j ≡ filled f d (s + 1) j
      same j e =
          by_cases
          (dec_lt j s)
          (λ l. simp (lt-ltb j s l, lt-ltb j (s + 1) (omega arith)))
          (λ l. simp (le-ltb j s (omega arith), le-ltb j (s + 1) (omega arith)))

  -- d from s up to r
  pub fill_skip : (n : ℕ) (f : ℕ → A) (d : A) (s r : ℕ) → s ≤ r → ((i : ℕ) → s ≤ i → i < r → f i ≡ d)
      → table n (filled f d s) ≡ table n (filled f d r)
  fill_skip n f d s r h none = table_same n (filled f d s) (filled f d r) (λ j q. same j)
    where
      same : (j : ℕ) → filled f d s j ≡ filled f d r j
      same j =
          by_cases
          (dec_lt j s)
          (λ l. simp (lt-ltb j s l, lt-ltb j r (omega arith)))
          (λ l.
          by_cases
          (dec_lt j r)
          (λ m. simp (le-ltb j s (omega arith), lt-ltb j r m) (sym (none j (omega arith) m)))
          (λ m. simp (le-ltb j s (omega arith), le-ltb j r (omega arith))))
