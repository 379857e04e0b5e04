-- One entry of the header more.
use mathlib.Core.Path.{◌≡◌, refl, sym, ◌∙◌}
use mathlib.Core.Bool.{true, false}
use mathlib.Core.List.{List}
use Prim.Native.Nat.{ℕ, ◌+◌, ◌*◌, ◌<◌}
use native.Mathlib.Omega.{arith}
use lib.ListN.{set, replicate}
use borrow.Author.Tests.{eq-eqb, ne_eqb}
use Rattle.std.specs.Prelude.{Some, None}
use Rattle.base.specs.Range.{below}
use Rattle.base.proofs.Tests.{below_fails}
use Rattle.base.proofs.Folds.{fold_none, fold_more}
use Rattle.plan.specs.Layout.{offset_due}
use Rattle.plan.specs.Refusals.{size_ok}
use Rattle.plan.specs.Files.{file_count, file_offset}
use Rattle.plan_file.specs.Header.{counts_to, entry_fits, entries_of}
use Rattle.plan_file.proofs.Filling.{fill_none, fill_more}

module _ (b : List ℕ) (n : ℕ) where
  pub no_counts : replicate 64 0 ≡ counts_to b 0
  no_counts = fill_none 64 (file_count b) 0

  pub first_end : 4 + 4 * n ≡ offset_due n (file_count b) 0
  first_end = omega (arith, fold_none ◌+◌ 0 (file_count b))

  module _ (k count : ℕ) (here : count ≡ file_count b k) where
    pub next_counts : (lengths : List ℕ) → k < 64 → lengths ≡ counts_to b k → set lengths k count ≡ counts_to b (k + 1)
    next_counts lengths l e = rw (e, here) (fill_more 64 (file_count b) 0 k l)

    pub next_end_lem : (end : ℕ) → end ≡ offset_due n (file_count b) k → end + 4 * count ≡ offset_due n (file_count b) (k + 1)
    next_end_lem end e = omega (arith, fold_more ◌+◌ 0 k (file_count b))

    -- the entry is in order, or its count is out of range, or its offset is wrong
    pub entry_ok_lem : (end offset : ℕ) → end ≡ offset_due n (file_count b) k → offset ≡ file_offset b k → size_ok count ≡ true → offset ≡ end
        → entry_fits b n k ≡ true
    entry_ok_lem end offset e o s q = rw (← here, s) (eq-eqb (file_offset b k) (offset_due n (file_count b) k) (sym o ∙ q ∙ e))

    pub bad_count : size_ok count ≡ false → entry_fits b n k ≡ false
    bad_count s = rw (← here, s) refl

    pub bad_offset : (end offset : ℕ) → end ≡ offset_due n (file_count b) k → offset ≡ file_offset b k → size_ok count ≡ true → (offset ≡ end → ⊥)
        → entry_fits b n k ≡ false
    bad_offset end offset e o s q =
        rw (← here, s) (ne_eqb (file_offset b k) (offset_due n (file_count b) k) (λ z. q (o ∙ z ∙ sym e)))

  pub bad_entry : (k : ℕ) → k < n → entry_fits b n k ≡ false → None ≡ entries_of b n
  bad_entry k l e = rw (below_fails (entry_fits b n) n k l e) refl

  pub good_entries : (end : ℕ) (lengths : List ℕ) → below n (entry_fits b n) ≡ true → end ≡ offset_due n (file_count b) n → lengths ≡ counts_to b n
      → Some (record { end = end; lengths = lengths }) ≡ entries_of b n
  good_entries end lengths h e q = rw (h, e, q) refl
