-- What the converter answers about the instructions behind a header, stage by stage, and what this is of the whole file.
use mathlib.Core.Path.{◌≡◌, refl, sym, ap, subst, ◌∙◌}
use mathlib.Core.Bool.{true, false, ◌&&◌}
use mathlib.Core.List.{List, []}
use mathlib.Core.Logic.{by_cases}
use Prim.Native.Nat.{ℕ, ◌≤◌, ◌<◌, ◌/◌, ◌%◌}
use native.Mathlib.Decide.{dec_lt}
use native.Mathlib.Omega.{arith}
use lib.Dec.{leb}
use lib.ListN.{length, get_or, drop, length-map, get_or-eq_default}
use Rattle.std.specs.Prelude.{Err}
use Rattle.base.specs.Range.{below}
use Rattle.base.specs.Lists.{every}
use Rattle.base.proofs.Folds.{fold_same}
use Rattle.base.proofs.Tables.{get_d_table}
use Rattle.base.proofs.Tests.{every_at}
use Rattle.plan.specs.declared.Refusal.{Refusal}
use Rattle.plan.specs.declared.Refusal.TheVariants.{BadLayout, BadInstruction, BadFinish, BadRepeat, RepeatedCreate, TooLong}
use Rattle.plan.specs.Answers.{WriteAnswer}
use Rattle.plan.specs.Kinds.{no_instruction}
use Rattle.plan.specs.Programs.{Programs, program_at, instruction_at, programs, canonical}
use Rattle.plan.specs.Layout.{count_of}
use Rattle.plan.specs.Refusals.{size_ok, instruction_ok, instructions_ok, structure_answer, plan_answer}
use Rattle.plan.specs.Files.{layout_ok, file_programs}
use Rattle.plan.specs.Outcomes.{write_answer, write_output, WritePlan}
use Rattle.plan.specs.Repeats.{written_out, written_out_plan}
use Rattle.plan.specs.RepeatRefusals.{new_instructions_ok, paired_ok, repeated_ok, lengths_ok, repeats_answer}
use Rattle.plan.specs.Conversions.{convert_answer, convert_output, Converted}
use Rattle.plan_laws.proofs.Codes.{Small, none_small, instruction_small}
use Rattle.plan_laws.proofs.Canonical.{Fits, fits_meaning}
use Rattle.plan_value.proofs.Changes.{every_below}
use Rattle.plan_file.specs.declared.header.Header.{Header}
use Rattle.plan_file.specs.Code.{programs_in}
use Rattle.plan_file.specs.Header.{header_of}
use Rattle.plan_file.specs.scan.Code.{Whole}
use Rattle.plan_file.proofs.Meaning.{header_ok, header_fits, header_programs}
use Rattle.repeat_laws.specs.Passed.{none_empty}
use Rattle.repeat_laws.proofs.Written.{written_instructions}
use Rattle.repeat_laws.proofs.Converted.{written_answer, empty_answer, converted_accepted}
use Rattle.convert.specs.Stages.{code_answer, code_written, CodeConverted, Filled}
use Rattle.convert.specs.Tasks.{AllFine}
use Rattle.convert.proofs.Slots.{task_fine, written_at}

-- a refusal leaves the output as it was
pub code_refused : (m : Programs) (out : List ℕ) (r : Refusal) → code_answer m ≡ Err r → CodeConverted m out (Err r) out
unfolding code_written
code_refused m out r e = record { answer = rw e refl; bytes = rw e refl }

-- the stages
module _ (m : Programs) where
  pub bad_instruction : new_instructions_ok m ≡ false → code_answer m ≡ Err BadInstruction
  unfolding code_answer
  bad_instruction e = rw e refl

  module _ (a : new_instructions_ok m ≡ true) where
    pub bad_repeat : paired_ok m ≡ false → code_answer m ≡ Err BadRepeat
    unfolding code_answer
    bad_repeat e = rw (a, e) refl

    module _ (b : paired_ok m ≡ true) where
      pub repeated_create : repeated_ok m ≡ false → code_answer m ≡ Err RepeatedCreate
      unfolding code_answer
      repeated_create e = rw (a, b, e) refl

      module _ (c : repeated_ok m ≡ true) where
        pub too_long : lengths_ok m ≡ false → code_answer m ≡ Err TooLong
        unfolding code_answer
        too_long e = rw (a, b, c, e) refl

        pub then_structure : lengths_ok m ≡ true → code_answer m ≡ structure_answer (written_out_plan m)
        unfolding code_answer
        then_structure e = rw (a, b, c, e) refl

-- a plan that has passed, written out
module _ (m : Programs) (tasks : size_ok (length m) ≡ true) (few : length m ≤ 64) (f : AllFine m) where
  abbrev out_plan : Programs
  out_plan = written_out_plan m

  none_at : (k : ℕ) → length m ≤ k → count_of (written_out_plan m) k ≡ 0
  none_at k l = ap length (get_or-eq_default (written_out_plan m) [] {n = k} (rw (length-map m written_out) l))

  short_at : (k : ℕ) → count_of (written_out_plan m) k ≤ 64
  short_at k =
      by_cases (dec_lt k (length m)) (λ l. rw (written_at m k) (task_fine m f k l).short) (λ e. omega (arith, none_at k (omega arith)))

  small_at : instructions_ok (written_out_plan m) ≡ true → (k i : ℕ) → i < count_of (written_out_plan m) k → Small (instruction_at (program_at (written_out_plan m) k) i)
  unfolding instructions_ok
  small_at fine k i l =
      by_cases (dec_lt k (length m))
      (λ q.
      instruction_small (length (written_out_plan m)) (rw (length-map m written_out) few) _
      (every_at (instruction_ok (length (written_out_plan m))) (program_at (written_out_plan m) k) i no_instruction l
      (every_at (every (instruction_ok (length (written_out_plan m)))) (written_out_plan m) k [] (rw (length-map m written_out) q) fine)))
      (λ e. absurd (omega (arith, none_at k (omega arith))))

  -- it fits a plan value
  fitting : Fits (written_out_plan m)
  fitting =
      let size = length-map m written_out in
      let fine : instructions_ok (written_out_plan m) ≡ true = written_instructions m f.instructions f.paired in
      record {
        few = rw size few;
        short = short_at;
        small = λ j. by_cases (dec_lt (j % 64) (count_of (written_out_plan m) (j / 64))) (small_at fine (j / 64) (j % 64))
            (λ e. let past : count_of (written_out_plan m) (j / 64) ≤ j % 64 = omega arith in rw (get_or-eq_default (program_at (written_out_plan m) (j / 64)) no_instruction past) none_small);
      }

  pub whole_answer : code_answer m ≡ structure_answer (written_out_plan m)
  whole_answer = then_structure m f.instructions f.paired f.creates f.short

  module _ {x y : List ℕ} (filled : Filled (written_out_plan m) x y) {n : ℕ} (size : n ≡ length m) where
    means : programs (record { tasks = n; lengths = x; codes = y }) ≡ written_out_plan m
    unfolding canonical
    means =
        let value : record { tasks = n; lengths = x; codes = y } ≡ canonical (written_out_plan m) = rw (size, filled.counts, filled.codes, length-map m written_out) refl in
        ap programs value ∙ fits_meaning (written_out_plan m) fitting

    some_left : below n (λ k. leb 1 (get_or x k 0)) ≡ none_empty (written_out_plan m)
    unfolding canonical none_empty
    some_left =
        rw (size, filled.counts)
        (fold_same ◌&&◌ true (length m) _ (λ k. leb 1 (length (program_at (written_out_plan m) k)))
        (λ k l. ap (leb 1) (get_d_table 64 (λ k. length (program_at (written_out_plan m) k)) k 0 (omega arith)))
        ∙ ap (λ (j : ℕ). below j (λ k. leb 1 (length (program_at (written_out_plan m) k)))) (sym (length-map m written_out))
        ∙ sym (every_below (λ g. leb 1 (length g)) (written_out_plan m) []))

    pub left_empty : (out : List ℕ) → below n (λ k. leb 1 (get_or x k 0)) ≡ false → CodeConverted m out (Err BadFinish) out
    left_empty out e = code_refused m out BadFinish (whole_answer ∙ empty_answer (written_out_plan m) (sym some_left ∙ e))

    pub all_converted : {out after : List ℕ} {r : WriteAnswer} → below n (λ k. leb 1 (get_or x k 0)) ≡ true
        → WritePlan (programs (record { tasks = n; lengths = x; codes = y })) out r after → CodeConverted m out r after
    unfolding code_written write_answer write_output
    all_converted {out} {after} {r} e w =
        let same : code_answer m ≡ plan_answer (written_out_plan m) =
        whole_answer ∙ sym (written_answer m tasks f.instructions f.paired f.short (sym some_left ∙ e)) in
        let v = subst (λ (z : Programs). WritePlan z out r after) means w in
        record { answer = v.answer ∙ rw same refl; bytes = v.bytes ∙ rw same refl }

-- the whole file: its header is not in order, or what stands behind it
module _ (b out : List ℕ) where
  pub bad_file : layout_ok b ≡ false → Converted b out (Err BadLayout) out
  unfolding repeats_answer convert_answer convert_output
  bad_file e =
      record { answer = rw e refl; bytes = rw e refl; accepted = λ n h. let z : ◌≡◌ {A = ℕ} 0 1 = cc in absurd (omega arith) }

  pub good_file : layout_ok b ≡ true → {m : Programs} → m ≡ file_programs b → {r : WriteAnswer} {after : List ℕ} → CodeConverted m out r after → Converted b out r after
  unfolding repeats_answer code_answer code_written convert_answer convert_output
  good_file e {m} is {r} {after} c =
      let d = subst (λ (z : Programs). CodeConverted z out r after) is c in
      let a : r ≡ convert_answer b out = d.answer ∙ rw e refl in
      let o : after ≡ convert_output b out = d.bytes ∙ rw e refl in
      record { answer = a; bytes = o; accepted = λ n h. rw o (converted_accepted b out n (sym a ∙ h)) }

-- what stands behind a header that was read
module _ (b : List ℕ) {h : Header} (is : h ≡ header_of b) (ok : h.ok ≡ true) {rest : List ℕ} (behind : rest ≡ drop h.size b) where
  pub file_whole : Whole rest h.tasks h.lengths
  file_whole = rw (behind, is) (header_fits b (rw (← is) ok))

  pub file_programs_lem : programs_in rest h.tasks h.lengths ≡ file_programs b
  file_programs_lem = rw (behind, is) (header_programs b (sym (header_ok b) ∙ ap (λ (x : Header). x.ok) (sym is) ∙ ok))
