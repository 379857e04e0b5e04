-- A file that is accepted is the layout of the programs that it holds, and they are an accepted plan.
use mathlib.Core.Path.{◌≡◌, refl, ◌∙◌, ap}
use mathlib.Core.List.{List, [], ◌++◌}
use Prim.Native.Nat.{ℕ, ◌+◌, ◌*◌, ◌/◌, ◌%◌, ◌<◌, ◌≤◌}
use native.Mathlib.Omega.{arith}
use lib.ListN.{length, take, drop}
use Rattle.std.specs.Prelude.{Ok}
use Rattle.base.specs.Range.{joined, sum_below}
use Rattle.base.proofs.Folds.{fold_same}
use Rattle.base.proofs.Joins.{part_of_sum}
use Rattle.plan.specs.Programs.{program_at, instruction_at}
use Rattle.plan.specs.Layout.{bytes16, count_of, total_of, head_bytes, instruction_bytes, code_bytes, layout}
use Rattle.plan.specs.Refusals.{plan_answer}
use Rattle.plan.specs.Files.{byte_at, word16, file_tasks, file_total, file_offset, file_count, file_instruction, place_of, file_programs, file_answer}
use Rattle.plan.proofs.Parts.{tasks_in, count_in, instruction_in_lem}
use Rattle.plan_laws.specs.Bytes.{Bytes}
use Rattle.base.proofs.Sums.{sum_const, sum_scaled}
use Rattle.plan_laws.proofs.Pieces.{joined_pieces, three_pieces, four}
use Rattle.plan_laws.proofs.Answers.{InRange, Sized, Laid, file_passed, laid, sized_ok, plan_accepted}

-- the counts of a file's programs, added up
module _ (b : List ℕ) where
  counts : (k : ℕ) → k ≤ file_tasks b → sum_below k (count_of (file_programs b)) ≡ sum_below k (file_count b)
  counts k l = fold_same ◌+◌ 0 k (count_of (file_programs b)) (file_count b) (λ i q. count_in b i (omega arith))

-- four bytes read and written
module _ (b : List ℕ) (bytes : Bytes b) where
  low : (at : ℕ) → word16 b at % 256 ≡ byte_at b at
  low at = omega (arith, bytes at)

  high : (at : ℕ) → word16 b at / 256 ≡ byte_at b (at + 1)
  high at = omega (arith, bytes at)

  -- two fields, and an instruction
  words : (at : ℕ) → at + 4 ≤ length b → bytes16 (word16 b at) ++ bytes16 (word16 b (at + 2)) ≡ take 4 (drop at b)
  words at h =
      let e : at + 2 + 1 ≡ at + 3 = omega arith in
      rw (low at, high at, low (at + 2), high (at + 2), four b at 0 h, e) refl

  code : (at : ℕ) → at + 4 ≤ length b → instruction_bytes (file_instruction b at) ≡ take 4 (drop at b)
  code at h =
      let e : at + 2 + 1 ≡ at + 3 = omega arith in
      rw (low (at + 2), high (at + 2), four b at 0 h, e) refl

-- the file's three parts
module _ (b : List ℕ) (bytes : Bytes b) (laid : Laid b) where
  start : bytes16 (length (file_programs b)) ++ bytes16 (total_of (file_programs b)) ≡ take 4 b
  start = rw (tasks_in b, counts b (file_tasks b) (omega arith), ← laid.total) (words b bytes 0 laid.enough)

  head : (k : ℕ) → k < file_tasks b → head_bytes (file_programs b) k ≡ take 4 (drop (4 + 4 * k) b)
  head k l =
      let e : 6 + 4 * k ≡ 4 + 4 * k + 2 = omega arith in
      let f : file_count b k ≡ word16 b (4 + 4 * k + 2) = ap (word16 b) e in
      let fits : 4 + 4 * k + 4 ≤ length b = omega (arith, laid.size) in
      rw (tasks_in b, counts b k (omega arith), ← laid.offsets k l, count_in b k l, f) (words b bytes (4 + 4 * k) fits)

  heads : joined (file_tasks b) (head_bytes (file_programs b)) ≡ take (4 * file_tasks b) (drop 4 b)
  heads =
      fold_same ◌++◌ [] (file_tasks b) (head_bytes (file_programs b)) (λ k. take 4 (drop (4 + sum_below k (λ i. 4)) b))
      (λ k l. rw (sum_const 4 k) (head k l))
      ∙ joined_pieces b 4 (λ i. 4) (file_tasks b)
      ∙ ap (λ (n : ℕ). take n (drop 4 b)) (sum_const 4 (file_tasks b))

  inside : (k i : ℕ) → k < file_tasks b → i < file_count b k → place_of b k i + 4 ≤ length b
  inside k i l q = omega (arith, part_of_sum (file_tasks b) (file_count b) k l, laid.offsets k l, laid.total, laid.size)

  codes : (k : ℕ) → k < file_tasks b → code_bytes (program_at (file_programs b) k) ≡ take (4 * file_count b k) (drop (file_offset b k) b)
  codes k l =
      rw (count_in b k l)
      (fold_same ◌++◌ [] (file_count b k) (λ i. instruction_bytes (instruction_at (program_at (file_programs b) k) i))
      (λ i. take 4 (drop (file_offset b k + sum_below i (λ i. 4)) b))
      (λ i q. rw (sum_const 4 i) (ap instruction_bytes (instruction_in_lem b k i l q) ∙ code b bytes (place_of b k i) (inside k i l q)))
      ∙ joined_pieces b (file_offset b k) (λ i. 4) (file_count b k)
      ∙ ap (λ (n : ℕ). take n (drop (file_offset b k) b)) (sum_const 4 (file_count b k)))

  body : joined (file_tasks b) (λ k. code_bytes (program_at (file_programs b) k)) ≡ take (4 * file_total b) (drop (4 + 4 * file_tasks b) b)
  body =
      fold_same ◌++◌ [] (file_tasks b) (λ k. code_bytes (program_at (file_programs b) k))
      (λ k. take (4 * file_count b k) (drop (4 + 4 * file_tasks b + sum_below k (λ i. 4 * file_count b i)) b))
      (λ k l. rw (sum_scaled 4 k (file_count b), ← laid.offsets k l) (codes k l))
      ∙ joined_pieces b (4 + 4 * file_tasks b) (λ i. 4 * file_count b i) (file_tasks b)
      ∙ rw (sum_scaled 4 (file_tasks b) (file_count b), ← laid.total) refl

  whole_file : layout (file_programs b) ≡ b
  unfolding layout
  whole_file =
      let m = file_programs b in
      let h : joined (length m) (head_bytes m) ≡ take (4 * file_tasks b) (drop 4 b) = ap (λ (n : ℕ). joined n (head_bytes m)) (tasks_in b) ∙ heads in
      let c : joined (length m) (λ k. code_bytes (program_at m k)) ≡ take (4 * file_total b) (drop (4 + 4 * file_tasks b) b) =
      ap (λ (n : ℕ). joined n (λ k. code_bytes (program_at m k))) (tasks_in b) ∙ body in
      let parts : layout m ≡ take 4 b ++ (take (4 * file_tasks b) (drop 4 b) ++ take (4 * file_total b) (drop (4 + 4 * file_tasks b) b)) =
      λ i. start i ++ (h i ++ c i) in
      parts ∙ three_pieces b 4 (4 * file_tasks b) (4 * file_total b) laid.size

pub file_plan_lem : (b : List ℕ) → file_answer b ≡ Ok tt → plan_answer (file_programs b) ≡ Ok tt
file_plan_lem b h =
    let p = file_passed b h in
    let l = laid b p.layout in
    let counts : (k : ℕ) → k < file_tasks b → InRange (count_of (file_programs b) k) = λ k q. rw (count_in b k q) (l.counts k q) in
    let s : Sized (file_programs b) = record { tasks = rw (tasks_in b) l.tasks; counts = λ k q. counts k (rw (tasks_in b) at q) } in
    plan_accepted (file_programs b) (record { sizes = sized_ok (file_programs b) s; instructions = p.instructions; structure = p.structure })

pub layout_read : (b : List ℕ) → Bytes b → file_answer b ≡ Ok tt → (layout (file_programs b) ≡ b) × (plan_answer (file_programs b) ≡ Ok tt)
layout_read b bytes h = let p = file_passed b h in (whole_file b bytes (laid b p.layout), file_plan_lem b h)
