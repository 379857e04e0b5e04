-- The programs behind a header: their parts, where their instructions stand, and the slots that they are read into, one by one.
use mathlib.Core.Path.{◌≡◌, refl, sym, ap}
use mathlib.Core.List.{List, []}
use mathlib.Core.Logic.{by_cases}
use Prim.Native.Nat.{ℕ, ◌+◌, ◌*◌, ◌/◌, ◌%◌, ◌<◌, ◌≤◌}
use native.Mathlib.Decide.{dec_lt}
use native.Mathlib.Omega.{arith}
use lib.ListN.{length, get_or, set, replicate, get_or-eq_default}
use borrow.Author.Tests.{lt-ltb, le-ltb}
use Rattle.base.proofs.Folds.{fold_none, fold_more}
use Rattle.base.proofs.Joins.{part_of_sum}
use Rattle.base.proofs.Slots.{row_of, place_of}
use Rattle.base.proofs.Tables.{table_same}
use Rattle.plan.specs.declared.Instruction.{Instruction}
use Rattle.plan.specs.Kinds.{no_instruction}
use Rattle.plan.specs.Programs.{Programs, program_at, instruction_at, code_of, in_slot, canonical}
use Rattle.plan.specs.Layout.{count_of}
use Rattle.plan.specs.Refusals.{sizes_ok}
use Rattle.plan.specs.Files.{file_instruction}
use Rattle.plan.proofs.Parts.{ruled_tasks, ruled_count, ruled_instruction}
use Rattle.plan_value.specs.Sizes.{sizes_in}
use Rattle.plan_value.proofs.Sized.{sizes_ruled}
use Rattle.plan_file.specs.Code.{code_place, programs_in, codes_to}
use Rattle.plan_file.proofs.Filling.{fill_none, fill_more, fill_skip}

-- of n tasks with these counts
module _ (b : List ℕ) (n : ℕ) (lengths : List ℕ) where
  abbrev count : ℕ → ℕ
  count k = get_or lengths k 0

  abbrev at : ℕ → ℕ → Instruction
  at k i = file_instruction b (code_place lengths k i)

  pub code_tasks : length (programs_in b n lengths) ≡ n
  unfolding programs_in
  code_tasks = ruled_tasks n count at

  pub code_count : (k : ℕ) → k < n → count_of (programs_in b n lengths) k ≡ get_or lengths k 0
  unfolding programs_in
  code_count = ruled_count n count at

  pub code_instruction : (k i : ℕ) → k < n → i < get_or lengths k 0
      → instruction_at (program_at (programs_in b n lengths) k) i ≡ file_instruction b (code_place lengths k i)
  unfolding programs_in
  code_instruction = ruled_instruction n count at

  pub code_sizes : sizes_ok (programs_in b n lengths) ≡ sizes_in n lengths
  unfolding programs_in
  code_sizes = sizes_ruled n lengths at

-- where they stand: the first, the next task's first; all of them before the last one's end
module _ (lengths : List ℕ) where
  pub place_first : 0 ≡ code_place lengths 0 0
  place_first = omega (arith, fold_none ◌+◌ 0 (λ j. get_or lengths j 0))

  pub place_row : (k : ℕ) → code_place lengths k (get_or lengths k 0) ≡ code_place lengths (k + 1) 0
  place_row k = omega (arith, fold_more ◌+◌ 0 k (λ j. get_or lengths j 0))

  pub place_below : (n k : ℕ) → k < n → code_place lengths k 0 + 4 * get_or lengths k 0 ≤ code_place lengths n 0
  place_below n k h = omega (arith, part_of_sum n (λ j. get_or lengths j 0) k h)

  pub place_inside : (n k i : ℕ) → k < n → i < get_or lengths k 0 → code_place lengths k i + 4 ≤ code_place lengths n 0
  place_inside n k i h q = omega (arith, part_of_sum n (λ j. get_or lengths j 0) k h)

-- the slots of m: none, one more, the unused rest of a task's, and all
module _ (m : Programs) where
  pub no_codes : replicate 4096 0 ≡ codes_to m 0
  no_codes = fill_none 4096 (λ j. code_of (in_slot m j)) 0

  pub next_code : (k i : ℕ) (l : List ℕ) {c : ℕ} → k < 64 → i < 64 → c ≡ code_of (instruction_at (program_at m k) i) → l ≡ codes_to m (64 * k + i)
      → set l (64 * k + i) c ≡ codes_to m (64 * k + (i + 1))
  next_code k i l few short is e =
      let s = 64 * k + i in
      let next : 64 * k + (i + 1) ≡ s + 1 = omega arith in
      let here : code_of (instruction_at (program_at m k) i) ≡ code_of (in_slot m s) = rw (row_of k i short, place_of k i short) refl in
      rw (next, e, is, here) (fill_more 4096 (λ j. code_of (in_slot m j)) 0 s (omega arith))

  unused : (s : ℕ) → count_of m (s / 64) ≤ s % 64 → code_of (in_slot m s) ≡ 0
  unused s h = ap code_of (get_or-eq_default (program_at m (s / 64)) no_instruction h)

  pub rest_codes : (k : ℕ) → count_of m k ≤ 64 → codes_to m (64 * k + count_of m k) ≡ codes_to m (64 * (k + 1))
  rest_codes k few =
      fill_skip 4096 (λ j. code_of (in_slot m j)) 0 (64 * k + count_of m k) (64 * (k + 1)) (omega arith)
      (λ s p q.
      let row : s / 64 ≡ k = omega arith in
      unused s (rw row (omega arith)))

  pub all_codes : length m ≤ 64 → codes_to m (64 * length m) ≡ (canonical m).codes
  unfolding canonical
  all_codes few =
      table_same 4096 _ (λ j. code_of (in_slot m j))
      (λ j q.
      by_cases
      (dec_lt j (64 * length m))
      (λ l. simp (lt-ltb j (64 * length m) l))
      (λ l.
      let none : count_of m (j / 64) ≡ 0 = ap length (get_or-eq_default m [] (omega arith)) in
      simp (le-ltb j (64 * length m) (omega arith)) (sym (unused j (rw none (omega arith))))))
