-- What each test of the header says of the file's layout.
use mathlib.Core.Path.{◌≡◌, refl, sym, ◌∙◌, ap}
use mathlib.Core.Bool.{Bool, true, false, true≢false}
use mathlib.Core.List.{List}
use Prim.Native.Nat.{ℕ, ◌+◌, ◌*◌, ◌<◌, ◌≤◌}
use native.Mathlib.Omega.{arith}
use lib.ListN.{length}
use borrow.Author.Tests.{eq-eqb, eqb-true}
use Rattle.std.specs.Prelude.{Option, Some, None}
use Rattle.base.specs.Choice.{pick}
use Rattle.base.specs.Range.{below}
use Rattle.base.proofs.Tests.{and_both, and_left, and_right, below_at, below_all}
use Rattle.plan.specs.Layout.{offset_due}
use Rattle.plan.specs.Refusals.{size_ok}
use Rattle.plan.specs.Files.{file_tasks, file_total, file_count, layout_ok}
use Rattle.plan_laws.proofs.Answers.{Laid, laid, laid_ok, in_range, in_range_ok}
use Rattle.plan_file.specs.declared.header.Entries.{Entries}
use Rattle.plan_file.specs.Header.{no_header, counts_to, entry_fits, entries_of, good_header, header_of}

module _ (b : List ℕ) where
  -- a layout that cannot be right is refused
  refused : (Laid b → ⊥) → no_header ≡ header_of b
  unfolding header_of
  refused wrong = go (layout_ok b) refl
    where
      go : (t : Bool) → layout_ok b ≡ t → no_header ≡ pick t (good_header b) no_header
      go true e = absurd (wrong (laid b e))
      go false e = refl

  accepted : (n : ℕ) (lengths : List ℕ) → Laid b → n ≡ file_tasks b → lengths ≡ counts_to b (file_tasks b)
      → record { ok = true; size = 4 + 4 * n; tasks = n; lengths = lengths } ≡ header_of b
  unfolding header_of
  accepted n lengths h t l = rw (laid_ok b h, t, l) refl

  -- under 4 bytes
  pub short_file : length b < 4 → no_header ≡ header_of b
  short_file h = refused (λ l. omega (arith, l.enough))

  -- T out of range
  pub tasks_out : (n : ℕ) → n ≡ file_tasks b → size_ok n ≡ false → no_header ≡ header_of b
  tasks_out n t h = refused (λ l. let q = in_range_ok (file_tasks b) l.tasks in let r = rw t at h in let z : ◌≡◌ {A = ℕ} 0 1 = cc in omega arith)

  -- the entries of n tasks
  module _ (n : ℕ) (t : n ≡ file_tasks b) where
    abbrev fits : ℕ → Bool
    fits = entry_fits b (file_tasks b)

    abbrev entries : Bool → Option Entries
    entries x = pick x (Some (record { end = offset_due n (file_count b) n; lengths = counts_to b n })) None

    entries_fit : Laid b → below (file_tasks b) fits ≡ true
    entries_fit l =
        below_all fits (file_tasks b)
        (λ k q. and_both (size_ok (file_count b k)) _ (in_range_ok (file_count b k) (l.counts k q)) (eq-eqb _ _ (l.offsets k q)))

    -- a wrong entry
    pub entries_out : None ≡ entries_of b n → no_header ≡ header_of b
    entries_out h = refused (λ l. go (below n (entry_fits b n)) h (ap (λ (k : ℕ). below k (entry_fits b k)) t ∙ entries_fit l))
      where
        go : (x : Bool) → None ≡ entries x → x ≡ true → ⊥
        go true q e = cc
        go false q e = absurd (true≢false (sym e))

    -- they are in order
    module _ (e : Entries) (read : Some e ≡ entries_of b n) (total : ℕ) (s : total ≡ file_total b) where
      all_fit : below n (entry_fits b n) ≡ true
      all_fit = go (below n (entry_fits b n)) read
        where
          go : (x : Bool) → Some e ≡ entries x → x ≡ true
          go true q = refl
          go false q = cc

      all_read : e ≡ record { end = offset_due n (file_count b) n; lengths = counts_to b n }
      all_read = let z = rw all_fit at read in cc

      end_read : e.end ≡ offset_due (file_tasks b) (file_count b) (file_tasks b)
      end_read = ap (λ (x : Entries). x.end) all_read ∙ ap (λ (k : ℕ). offset_due k (file_count b) k) t

      fits_at : (k : ℕ) → k < file_tasks b → fits k ≡ true
      fits_at k q = below_at fits (file_tasks b) k q (ap (λ (k : ℕ). below k (entry_fits b k)) (sym t) ∙ all_fit)

      -- N is not the counts' sum
      pub total_wrong : (e.end ≡ 4 + 4 * n + 4 * total → ⊥) → no_header ≡ header_of b
      total_wrong h = refused (λ l. h (omega (arith, end_read, l.total)))

      -- a wrong length
      pub size_wrong : e.end ≡ 4 + 4 * n + 4 * total → (length b ≡ e.end → ⊥) → no_header ≡ header_of b
      size_wrong d h = refused (λ l. h (omega (arith, l.size)))

      -- none of these
      pub in_order : 4 ≤ length b → size_ok n ≡ true → e.end ≡ 4 + 4 * n + 4 * total → length b ≡ e.end
          → record { ok = true; size = 4 + 4 * n; tasks = n; lengths = e.lengths } ≡ header_of b
      in_order l z d q =
          accepted n e.lengths
          (record {
            enough = l;
            tasks = in_range (file_tasks b) (rw t at z);
            counts = λ k r. in_range (file_count b k) (and_left (size_ok (file_count b k)) _ (fits_at k r));
            offsets = λ k r. eqb-true _ _ (and_right (size_ok (file_count b k)) _ (fits_at k r));
            total = omega (arith, end_read);
            size = omega arith;
          })
          t
          (ap (λ (x : Entries). x.lengths) all_read ∙ ap (counts_to b) t)
