-- A list that is filled entry by entry with the entries of a table, and the table at the end.
use mathlib.Core.Path.{◌≡◌, sym, ◌∙◌}
use mathlib.Core.List.{List}
use mathlib.Core.Logic.{by_cases}
use Prim.Native.Nat.{ℕ, ◌+◌, ◌<◌, ◌≤◌}
use native.Mathlib.Omega.{arith}
use native.Mathlib.Decide.{ℕ_discrete}
use lib.ListN.{length, get_or, set, length-set}
use lib.Seq.{ext_get_or, get_or-set_same, get_or-set_other}
use Rattle.base.specs.Lists.{table}
use Rattle.base.proofs.Tables.{length_table, get_d_table}

-- xs has n entries, and its first k are those of f
pub record Filled {A : Type 0} (d : A) (n k : ℕ) (f : ℕ → A) (xs : List A) : Type 0 where
  pub long : length xs ≡ n
  pub same : (i : ℕ) → i < k → get_or xs i d ≡ f i

module _ {A : Type 0} {d : A} {n : ℕ} {f : ℕ → A} {xs : List A} where
  pub filled_none : length xs ≡ n → Filled d n 0 f xs
  filled_none h = record { long = h; same = λ i b. absurd (omega arith) }

  pub filled_more : {k : ℕ} → Filled d n k f xs → k < n → (v : A) → v ≡ f k → Filled d n (k + 1) f (set xs k v)
  filled_more {k} a h v e =
      record {
        long = length-set xs k v ∙ a.long;
        same =
            λ i b.
            by_cases
            (ℕ_discrete i k)
            (λ (q : i ≡ k). rw q (get_or-set_same xs k v d (omega (arith, a.long)) ∙ e))
            (λ q. get_or-set_other xs k i v d q ∙ a.same i (omega (arith, q)));
      }

  pub filled_all : {k : ℕ} → n ≤ k → Filled d n k f xs → xs ≡ table n f
  filled_all h a =
      ext_get_or d xs (table n f) (a.long ∙ sym (length_table n f))
      (λ i b. a.same i (omega (arith, a.long)) ∙ sym (get_d_table n f i d (omega (arith, a.long))))
