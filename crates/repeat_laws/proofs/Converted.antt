-- What is answered about the written-out plan of a file that has passed 2, 3, 21 and 23, and that what the converter writes is accepted.
use mathlib.Core.Path.{◌≡◌, refl, sym, ap, ◌∙◌}
use mathlib.Core.Bool.{Bool, true, false, true≢false}
use mathlib.Core.Logic.{◌≢◌}
use mathlib.Core.List.{List, [], ◌∷◌, map}
use Prim.Native.Nat.{ℕ, suc, ◌≤◌}
use native.Mathlib.Omega.{arith}
use lib.Dec.{eqb, leb}
use lib.ListN.{length, take, length-map}
use lib.Seq.{take-append_seam}
use borrow.Author.Tests.{eqb-false, leb-true, le-leb}
use Rattle.std.specs.Prelude.{Ok, Err}
use Rattle.base.specs.Choice.{unless}
use Rattle.base.specs.Lists.{every}
use Rattle.base.proofs.Answers.{err_not_ok, ok_not_err}
use Rattle.base.proofs.Sums.{sum_at_most}
use Rattle.base.proofs.Tests.{and_left, and_right, and_both, and_false, second_fails, is_true, within_both}
use Rattle.plan.specs.Answers.{PlanAnswer, refusal_number, answer_number}
use Rattle.plan.specs.declared.Refusal.{Refusal}
use Rattle.plan.specs.declared.Refusal.TheVariants.{BadLayout, BadInstruction, BadFinish, BadCreate, BadChannel, BadRepeat, RepeatedCreate, TooLong, OutputShort}
use Rattle.plan.specs.Programs.{Programs}
use Rattle.plan.specs.Layout.{layout}
use Rattle.plan.specs.Refusals.{size_ok, sizes_ok, finish_ok, finishes_ok, creates_ok, channels_ok, structure_answer, plan_answer}
use Rattle.plan.specs.Files.{file_tasks, file_count, layout_ok, file_programs, file_answer}
use Rattle.plan.specs.Outcomes.{write_answer_after}
use Rattle.plan.specs.Repeats.{written_out, written_out_plan}
use Rattle.plan.specs.RepeatRefusals.{new_instructions_ok, paired_ok, repeated_ok, lengths_ok, repeats_answer}
use Rattle.plan.specs.Conversions.{converted_file, convert_answer, convert_output}
use Rattle.plan.proofs.Parts.{tasks_in}
use Rattle.plan_laws.proofs.Answers.{unless_accepted, file_passed, laid, in_range_ok}
use Rattle.plan_laws.proofs.ReadLayout.{read_layout}
use Rattle.repeat_laws.specs.Passed.{none_empty, RepeatsPassed}
use Rattle.repeat_laws.proofs.Written.{written_instructions}

-- an empty task has no finish at its end
empty_finish : (m : Programs) → none_empty m ≡ false → every finish_ok m ≡ false
unfolding none_empty every finish_ok
empty_finish [] h = absurd (true≢false h)
empty_finish ([] ∷ m) h = refl
empty_finish ((i ∷ g) ∷ m) h = rw (empty_finish m (second_fails _ _ h (le-leb 1 (suc (length g)) (omega arith)))) (and_false (finish_ok (i ∷ g)))

-- counts in range
counts_fit : (m : Programs) → none_empty (map written_out m) ≡ true → every (λ g. leb (length (written_out g)) 64) m ≡ true
    → every (λ g. size_ok (length g)) (map written_out m) ≡ true
unfolding none_empty every
counts_fit [] h l = refl
counts_fit (g ∷ m) h l =
    and_both _ _
    (within_both 1 64 (length (written_out g)) (leb-true 1 _ (and_left (leb 1 (length (written_out g))) _ h)) (leb-true _ 64 (and_left (leb (length (written_out g)) 64) _ l)))
    (counts_fit m (and_right (leb 1 (length (written_out g))) _ h) (and_right (leb (length (written_out g)) 64) _ l))

module _ (m : Programs) (tasks : size_ok (length m) ≡ true) (fine : new_instructions_ok m ≡ true) (paired : paired_ok m ≡ true) (short : lengths_ok m ≡ true) where
  written_sizes : none_empty (written_out_plan m) ≡ true → sizes_ok (written_out_plan m) ≡ true
  unfolding sizes_ok lengths_ok
  written_sizes some = rw (length-map m written_out, tasks) (counts_fit m some short)

  -- where no task is empty, plan check says the same of the written-out plan
  pub written_answer : none_empty (written_out_plan m) ≡ true → plan_answer (written_out_plan m) ≡ structure_answer (written_out_plan m)
  unfolding plan_answer
  written_answer some = rw (written_sizes some, written_instructions m fine paired) refl

-- "a task left empty is refused by 4"
pub empty_answer : (m : Programs) → none_empty m ≡ false → structure_answer m ≡ Err BadFinish
unfolding structure_answer finishes_ok
empty_answer m h = rw (empty_finish m h) refl

pub structure_none_empty : (m : Programs) → structure_answer m ≡ Ok tt → none_empty m ≡ true
structure_none_empty m a = is_true (none_empty m) (λ e. err_not_ok BadFinish tt (sym (empty_answer m e) ∙ a))

-- an accepted file
module _ (b : List ℕ) where
  pub repeats_passed : repeats_answer b ≡ Ok tt → RepeatsPassed b
  unfolding repeats_answer
  repeats_passed h =
      let m = file_programs b in
      let (layout, x) = unless_accepted (layout_ok b) BadLayout _ h in
      let (instructions, y) = unless_accepted (new_instructions_ok m) BadInstruction _ x in
      let (paired, z) = unless_accepted (paired_ok m) BadRepeat _ y in
      let (creates, w) = unless_accepted (repeated_ok m) RepeatedCreate _ z in
      let (lengths, structure) = unless_accepted (lengths_ok m) TooLong _ w in
      record { layout = layout; instructions = instructions; paired = paired; creates = creates; lengths = lengths; structure = structure }

  pub file_size : layout_ok b ≡ true → size_ok (length (file_programs b)) ≡ true
  file_size h = rw (tasks_in b) (in_range_ok _ (laid b h).tasks)

  pub written_accepted : repeats_answer b ≡ Ok tt → plan_answer (written_out_plan (file_programs b)) ≡ Ok tt
  written_accepted h =
      let p = repeats_passed h in
      let m = file_programs b in
      written_answer m (file_size p.layout) p.instructions p.paired p.lengths (structure_none_empty (written_out_plan m) p.structure) ∙ p.structure

  -- the written-out plan is a plan file, and has as many bytes as one at most
  pub converted_size : repeats_answer b ≡ Ok tt → length (converted_file b) ≤ 16644
  converted_size a =
      let file = converted_file b in
      let l = laid file (file_passed file (read_layout (written_out_plan (file_programs b)) (written_accepted a)).0).layout in
      let total = sum_at_most 64 (file_tasks file) (file_count file) (λ k q. (l.counts k q).few) in
      omega (arith, l.size, l.tasks.few, l.total, total)

-- what was written
module _ (b out : List ℕ) where
  by_answer : (a : PlanAnswer) (n : ℕ) → write_answer_after a (length (converted_file b)) (length out) ≡ Ok n → (a ≡ Ok tt) × (n ≡ length (converted_file b))
  by_answer (Ok tt) n h = go (leb (length (converted_file b)) (length out)) h
    where
      go : (fits : Bool) → unless fits (Err OutputShort) (Ok (length (converted_file b))) ≡ Ok n
          → (◌≡◌ {A = PlanAnswer} (Ok tt) (Ok tt)) × (n ≡ length (converted_file b))
      go true e = (refl, cc)
      go false e = absurd (err_not_ok OutputShort n e)
  by_answer (Err r) n h = absurd (err_not_ok r n h)

  pub converted_accepted : (n : ℕ) → convert_answer b out ≡ Ok n → file_answer (take n (convert_output b out)) ≡ Ok tt
  unfolding convert_answer convert_output
  converted_accepted n h =
      let (a, e) = by_answer (repeats_answer b) n h in
      rw (h, e, take-append_seam) (read_layout (written_out_plan (file_programs b)) (written_accepted b a)).0

  -- as many bytes are written as a plan file has at most
  pub converted_few : (n : ℕ) → convert_answer b out ≡ Ok n → n ≤ 16644
  unfolding convert_answer
  converted_few n h =
      let (a, e) = by_answer (repeats_answer b) n h in
      omega (arith, e, converted_size b a)

-- 20 is no answer about a file
past : (ok : Bool) (r : Refusal) (rest : PlanAnswer) → eqb (refusal_number r) 20 ≡ false → rest ≢ Err OutputShort
    → unless ok (Err r) rest ≢ Err OutputShort
past true r rest p q = q
past false r rest p q = λ e. eqb-false (refusal_number r) 20 p (ap answer_number e)

not_short : (b : List ℕ) → repeats_answer b ≢ Err OutputShort
unfolding repeats_answer structure_answer
not_short b =
    let m = file_programs b in
    past (layout_ok b) BadLayout _ refl
    (past (new_instructions_ok m) BadInstruction _ refl
    (past (paired_ok m) BadRepeat _ refl
    (past (repeated_ok m) RepeatedCreate _ refl
    (past (lengths_ok m) TooLong _ refl
    (past (finishes_ok (written_out_plan m)) BadFinish _ refl
    (past (creates_ok (written_out_plan m)) BadCreate _ refl
    (past (channels_ok (written_out_plan m)) BadChannel _ refl
    (ok_not_err OutputShort tt))))))))

-- an output of as many bytes as a plan file has at most is never refused by 20
pub never_short : (b out : List ℕ) → 16644 ≤ length out → convert_answer b out ≢ Err OutputShort
unfolding convert_answer
never_short b out l = go (repeats_answer b) refl
  where
    go : (a : PlanAnswer) → repeats_answer b ≡ a → write_answer_after a (length (converted_file b)) (length out) ≢ Err OutputShort
    go (Ok tt) e h =
        let fits = le-leb (length (converted_file b)) (length out) (omega (arith, converted_size b e, l)) in
        ok_not_err OutputShort (length (converted_file b)) (simp fits at h)
    go (Err r) e h = let q : Err r ≡ Err OutputShort = cc in not_short b (e ∙ q)
