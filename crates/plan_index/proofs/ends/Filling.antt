-- A table that a loop fills: f at the places that are done, what was there before at the others.
use mathlib.Core.Path.{◌≡◌, sym, ◌∙◌, ap}
use mathlib.Core.Bool.{Bool, true}
use mathlib.Core.Logic.{◌≢◌, by_cases}
use Prim.Native.Nat.{ℕ, ◌+◌, ◌<◌}
use native.Mathlib.Omega.{arith}
use native.Mathlib.Decide.{dec_lt}
use lib.ListN.{set}
use lib.Dec.{ltb}
use borrow.Author.Tests.{lt-ltb, le-ltb}
use Rattle.base.specs.Choice.{pick}
use Rattle.base.specs.Lists.{table}
use Rattle.base.proofs.Tables.{set_table}

-- one place more is below the bound
pub ltb_other : (j s : ℕ) → j ≢ s → ltb j s ≡ ltb j (s + 1)
ltb_other j s e =
    by_cases (dec_lt j s) (λ l. simp (lt-ltb j s l, lt-ltb j (s + 1) (omega arith))) (λ l. simp (le-ltb j s (omega arith), le-ltb j (s + 1) (omega arith)))

module _ {A : Type 0} where
  -- one place more is done
  pub fill_more : (n : ℕ) (f old : ℕ → A) (done then : ℕ → Bool) (i : ℕ) → i < n → then i ≡ true → ((j : ℕ) → j ≢ i → done j ≡ then j)
      → set (table n (λ j. pick (done j) (f j) (old j))) i (f i) ≡ table n (λ j. pick (then j) (f j) (old j))
  fill_more n f old done then i h e same =
      let g : ℕ → A = λ j. pick (then j) (f j) (old j) in
      ap (set (table n (λ j. pick (done j) (f j) (old j))) i) (sym (ap (λ (b : Bool). pick b (f i) (old i)) e))
      ∙ set_table n (λ j. pick (done j) (f j) (old j)) g i (f i) h (λ j b ne. ap (λ (b : Bool). pick b (f j) (old j)) (same j ne))
