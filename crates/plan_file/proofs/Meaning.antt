-- What reading computes of a file is what the paper says of it: its programs, their plan value, and its answer.
use mathlib.Core.Path.{◌≡◌, refl, sym, ◌∙◌, ap}
use mathlib.Core.Bool.{Bool, true, false, true≢false}
use mathlib.Core.List.{List}
use mathlib.Core.Logic.{by_cases}
use Prim.Native.Nat.{ℕ, ◌+◌, ◌*◌, ◌<◌, ◌≤◌}
use native.Mathlib.Omega.{arith}
use native.Mathlib.Decide.{dec_lt}
use lib.ListN.{get_or, drop, length-drop}
use lib.Dec.{ltb}
use borrow.Author.Tests.{lt-ltb, le-ltb}
use Rattle.std.specs.Prelude.{Ok, Err}
use Rattle.base.specs.Choice.{pick, unless}
use Rattle.base.specs.Range.{sum_below}
use Rattle.base.proofs.Folds.{fold_same}
use Rattle.base.proofs.Tables.{get_d_table, table_same}
use Rattle.plan.specs.Answers.{PlanAnswer}
use Rattle.plan.specs.declared.Refusal.{Refusal}
use Rattle.plan.specs.declared.Refusal.TheVariants.{BadLayout}
use Rattle.plan.specs.Programs.{Programs, canonical}
use Rattle.plan.specs.Layout.{count_of}
use Rattle.plan.specs.Refusals.{sizes_ok, plan_answer}
use Rattle.plan.specs.Files.{file_tasks, file_count, file_instruction, place_of, layout_ok, file_programs, file_answer}
use Rattle.plan.specs.Outcomes.{plan_read}
use Rattle.plan.proofs.Parts.{tasks_in, no_program_in, count_in}
use Rattle.plan_laws.proofs.Answers.{laid, sized_ok}
use Rattle.plan_file.specs.Header.{no_header, good_header, counts_to, header_of}
use Rattle.plan_file.specs.Code.{code_place, programs_in}
use Rattle.plan_file.specs.scan.Code.{Whole}
use Rattle.plan_file.specs.Stages.{read_refused, answered, of_programs, plan_of, Fits}
use Rattle.plan_file.proofs.Instructions.{code_sizes}
use Rattle.plan_file.proofs.Rest.{instruction_rest}

-- a count as it is read
count_read : (b : List ℕ) (k : ℕ) → pick (ltb k (file_tasks b)) (file_count b k) 0 ≡ count_of (file_programs b) k
count_read b k =
    by_cases
    (dec_lt k (file_tasks b))
    (λ l. simp (lt-ltb k (file_tasks b) l) (sym (count_in b k l)))
    (λ l. simp (le-ltb k (file_tasks b) (omega arith), no_program_in b k (omega arith)))

-- a file whose layout is right
module _ (b : List ℕ) (h : layout_ok b ≡ true) where
  -- what stands behind the header, and the counts that it says
  abbrev rest : List ℕ
  rest = drop (4 + 4 * file_tasks b) b

  abbrev counts : List ℕ
  counts = counts_to b (file_tasks b)

  count_at : (k : ℕ) → k < file_tasks b → get_or counts k 0 ≡ file_count b k
  count_at k l =
      let few = (laid b h).tasks.few in
      get_d_table 64 (λ k. pick (ltb k (file_tasks b)) (file_count b k) 0) k 0 (omega arith) ∙ count_read b k ∙ count_in b k l

  counts_before : (k : ℕ) → k ≤ file_tasks b → sum_below k (λ j. get_or counts j 0) ≡ sum_below k (file_count b)
  counts_before k l = fold_same ◌+◌ 0 k (λ j. get_or counts j 0) (file_count b) (λ j q. count_at j (omega arith))

  counts_read : counts ≡ (canonical (file_programs b)).lengths
  unfolding canonical
  counts_read = table_same 64 _ (count_of (file_programs b)) (λ k l. count_read b k)

  -- the instructions stand where the offsets say
  instruction_read : (k i : ℕ) → k < file_tasks b → file_instruction rest (code_place counts k i) ≡ file_instruction b (place_of b k i)
  instruction_read k i l =
      let place : 4 + 4 * file_tasks b + code_place counts k i ≡ place_of b k i = omega (arith, counts_before k (omega arith), (laid b h).offsets k l) in
      instruction_rest (4 + 4 * file_tasks b) b (code_place counts k i) ∙ ap (file_instruction b) place

  programs_read : programs_in rest (file_tasks b) counts ≡ file_programs b
  unfolding programs_in file_programs
  programs_read =
      table_same (file_tasks b) _ _
      (λ k l. rw (count_at k l) (table_same (file_count b k) _ (λ i. file_instruction b (place_of b k i)) (λ i q. instruction_read k i l)))

  sizes : sizes_ok (file_programs b) ≡ true
  sizes =
      let p = laid b h in
      sized_ok (file_programs b) (record { tasks = rw (tasks_in b) p.tasks; counts = λ k l. let q = rw (tasks_in b) at l in rw (count_in b k q) (p.counts k q) })

  -- the header and what stands behind it are as the pass over the instructions asks
  whole : Whole (drop (4 + 4 * file_tasks b) b) (file_tasks b) (counts_to b (file_tasks b))
  whole =
      let p = laid b h in
      record {
        sizes = sym (code_sizes rest (file_tasks b) counts) ∙ ap sizes_ok programs_read ∙ sizes;
        counts = counts_read ∙ ap (λ (m : Programs). (canonical m).lengths) (sym programs_read);
        bytes = omega (arith, counts_before (file_tasks b) (omega arith), p.total, p.size, length-drop (4 + 4 * file_tasks b) b);
      }

  file_answer_lem : file_answer b ≡ plan_answer (file_programs b)
  unfolding file_answer plan_answer
  file_answer_lem = rw (h, sizes) refl

-- what reading gives
read_answer : (b : List ℕ) (r : Refusal) → file_answer b ≡ Err r → read_refused r ≡ plan_read b
unfolding plan_read
read_answer b r e = rw e refl

bad_layout : (b : List ℕ) → layout_ok b ≡ false → read_refused BadLayout ≡ plan_read b
unfolding file_answer
bad_layout b h = read_answer b BadLayout (rw h refl)

code_read : (b : List ℕ) (h : layout_ok b ≡ true) → of_programs (programs_in (rest b h) (file_tasks b) (counts b h)) ≡ plan_read b
unfolding plan_read
code_read b h = rw (programs_read b h) (go (plan_answer (file_programs b)) refl)
  where
    go : (a : PlanAnswer) → plan_answer (file_programs b) ≡ a → answered (file_programs b) a ≡ plan_read b
    go (Ok tt) e = rw (file_answer_lem b h ∙ e) refl
    go (Err r) e = read_answer b r (file_answer_lem b h ∙ e)

-- the stages together: the header, and then what stands behind it
pub stages_read : (b : List ℕ) → plan_of (header_of b) (drop (header_of b).size b) ≡ plan_read b
unfolding header_of plan_of
stages_read b = go (layout_ok b) refl
  where
    go : (t : Bool) → layout_ok b ≡ t
        → unless (pick t (good_header b) no_header).ok (read_refused BadLayout)
        (of_programs (programs_in (drop (pick t (good_header b) no_header).size b) (pick t (good_header b) no_header).tasks (pick t (good_header b) no_header).lengths))
        ≡ plan_read b
    go true e = code_read b e
    go false e = bad_layout b e

-- a header that was read is followed by its instructions, and takes few bytes
pub header_fits : (b : List ℕ) → Fits (header_of b) (drop (header_of b).size b)
unfolding header_of
header_fits b = go (layout_ok b) refl
  where
    go : (t : Bool) → layout_ok b ≡ t → Fits (pick t (good_header b) no_header) (drop (pick t (good_header b) no_header).size b)
    go true e ok = whole b e
    go false e ok = absurd (true≢false (sym ok))

-- what they are, and whether the header is in order
pub header_ok : (b : List ℕ) → (header_of b).ok ≡ layout_ok b
unfolding header_of
header_ok b = go (layout_ok b)
  where
    go : (t : Bool) → (pick t (good_header b) no_header).ok ≡ t
    go true = refl
    go false = refl

pub header_programs : (b : List ℕ) → layout_ok b ≡ true
    → programs_in (drop (header_of b).size b) (header_of b).tasks (header_of b).lengths ≡ file_programs b
unfolding header_of
header_programs b e = rw e (programs_read b e)

pub header_size : (b : List ℕ) → (header_of b).size ≤ 260
unfolding header_of
header_size b = go (layout_ok b) refl
  where
    go : (t : Bool) → layout_ok b ≡ t → (pick t (good_header b) no_header).size ≤ 260
    go true e = omega (arith, (laid b e).tasks.few)
    go false e = omega arith
