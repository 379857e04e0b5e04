-- What the parts of a plan value are in its meaning, counts, total and code; hence its file is the four parts that are put, as the paper asks.
use mathlib.Core.Path.{◌≡◌, refl, sym, ◌∙◌, ap}
use mathlib.Core.List.{List, [], ◌++◌, append_assoc}
use Prim.Native.Nat.{ℕ, ◌+◌, ◌*◌, ◌≤◌, ◌<◌}
use native.Mathlib.Omega.{arith}
use lib.ListN.{length, get_or, length-append}
use borrow.Author.Tests.{le-leb, lt-leb}
use Rattle.std.specs.Prelude.{Ok, Err}
use Rattle.base.specs.Range.{joined, sum_below}
use Rattle.base.specs.Lists.{table}
use Rattle.base.proofs.Folds.{fold_same}
use Rattle.base.proofs.Joins.{length_joined}
use Rattle.base.proofs.Slots.{joined_slots}
use Rattle.base.proofs.Tables.{length_table, get_d_table}
use Rattle.plan.specs.declared.Instruction.{Instruction}
use Rattle.plan.specs.declared.Plan.{Plan}
use Rattle.plan.specs.declared.Refusal.{Refusal}
use Rattle.plan.specs.declared.Refusal.TheVariants.{OutputShort}
use Rattle.plan.specs.Kinds.{no_instruction}
use Rattle.plan.specs.Programs.{Programs, program_at, instruction_at, slot_of, programs}
use Rattle.plan.specs.Layout.{bytes16, count_of, total_of, head_bytes, instruction_bytes, code_bytes, layout}
use Rattle.plan.specs.Refusals.{plan_answer}
use Rattle.plan.specs.Outcomes.{WritePlan, write_answer, write_output}
use Rattle.plan.proofs.Parts.{tasks_of_lem, program_of_lem, count_of_lem}
use Rattle.plan_laws.proofs.Answers.{plan_passed, sized}
use Rattle.base.proofs.Sums.{sum_const, sum_scaled, sum_at_most}
use Rattle.plan_write.specs.output.Output.{overlay, slots_bytes, Put}
use Rattle.plan_write.proofs.output.Overlay.{overlay_front, put_more}
use Rattle.plan_write.specs.Header.{total_in, entry_bytes, entries_bytes}
use Rattle.plan_write.proofs.Entries.{length_entries}

module _ (p : Plan) where
  sum_of : (n : ℕ) → n ≤ p.tasks → sum_below n (count_of (programs p)) ≡ total_in p.lengths n
  sum_of n h = fold_same ◌+◌ 0 n (count_of (programs p)) (λ k. get_or p.lengths k 0) (λ k l. count_of_lem p k (omega arith))

  total_of_plan : total_of (programs p) ≡ total_in p.lengths p.tasks
  total_of_plan = rw (tasks_of_lem p) (sum_of p.tasks (omega arith))

  heads_of : joined (length (programs p)) (head_bytes (programs p)) ≡ entries_bytes p.lengths p.tasks
  heads_of =
      rw (tasks_of_lem p)
      (fold_same ◌++◌ [] p.tasks (head_bytes (programs p)) (entry_bytes p.lengths p.tasks)
      (λ k l. rw (tasks_of_lem p, sum_of k (omega arith), count_of_lem p k l) refl))

  -- the bytes of one task's instructions
  code_of : (k : ℕ) → k < p.tasks
      → code_bytes (program_at (programs p) k) ≡ joined (get_or p.lengths k 0) (λ i. instruction_bytes (slot_of p (64 * k + i)))
  code_of k h =
      let n = get_or p.lengths k 0 in
      let g : ℕ → Instruction = λ i. slot_of p (64 * k + i) in
      rw (program_of_lem p k h, length_table n g)
      (fold_same ◌++◌ [] n (λ i. instruction_bytes (instruction_at (table n g) i)) (λ i. instruction_bytes (g i))
      (λ i l. rw (get_d_table n g i no_instruction l) refl))

  module _ (few : (k : ℕ) → k < p.tasks → get_or p.lengths k 0 ≤ 64) where
    -- slot by slot or task by task
    slots_of : slots_bytes p.lengths p.codes (64 * p.tasks)
        ≡ joined p.tasks (λ k. joined (get_or p.lengths k 0) (λ i. instruction_bytes (slot_of p (64 * k + i))))
    slots_of = joined_slots p.tasks (λ k. get_or p.lengths k 0) (λ j count i. instruction_bytes (slot_of p j)) few

    codes_of : joined (length (programs p)) (λ k. code_bytes (program_at (programs p) k))
        ≡ slots_bytes p.lengths p.codes (64 * p.tasks)
    codes_of = rw (tasks_of_lem p) (fold_same ◌++◌ [] p.tasks (λ k. code_bytes (program_at (programs p) k)) _ code_of ∙ sym slots_of)

    length_codes : length (slots_bytes p.lengths p.codes (64 * p.tasks)) ≡ 4 * total_in p.lengths p.tasks
    length_codes =
        let count : ℕ → ℕ = λ k. get_or p.lengths k 0 in
        let row : ℕ → List ℕ = λ k. joined (count k) (λ i. instruction_bytes (slot_of p (64 * k + i))) in
        let each : (k : ℕ) → length (row k) ≡ 4 * count k =
        λ k. length_joined (count k) (λ i. instruction_bytes (slot_of p (64 * k + i))) ∙ sum_const 4 (count k) in
        ap length slots_of
        ∙ length_joined p.tasks row
        ∙ fold_same ◌+◌ 0 p.tasks (λ k. length (row k)) (λ k. 4 * count k) (λ k l. each k)
        ∙ sum_scaled 4 p.tasks count

few_of : (p : Plan) → plan_answer (programs p) ≡ Ok tt → (k : ℕ) → k < p.tasks → get_or p.lengths k 0 ≤ 64
few_of p h k l =
    let s = sized (programs p) (plan_passed (programs p) h).sizes in
    rw (← count_of_lem p k l) (s.counts k (rw (tasks_of_lem p) l)).few

-- the sizes of an accepted plan of n tasks
pub record Sizes (p : Plan) (n : ℕ) : Type 0 where
  pub tasks : n ≤ 64
  pub total : total_in p.lengths n ≤ 4096
  pub code : length (slots_bytes p.lengths p.codes (64 * p.tasks)) ≡ 4 * total_in p.lengths n

pub sizes_of : (p : Plan) (n : ℕ) → plan_answer (programs p) ≡ Ok tt → n ≡ p.tasks → Sizes p n
sizes_of p n h e =
    let s = sized (programs p) (plan_passed (programs p) h).sizes in
    let t : p.tasks ≤ 64 = rw (← tasks_of_lem p) s.tasks.few in
    rw e
    record {
      tasks = t;
      total = omega (arith, sum_at_most 64 p.tasks (λ k. get_or p.lengths k 0) (few_of p h));
      code = length_codes p (few_of p h);
    }

-- a refused plan leaves the output as it was
pub unwritten : (m : Programs) (out : List ℕ) (r : Refusal) → plan_answer m ≡ Err r → WritePlan m out (Err r) out
unfolding write_answer write_output
unwritten m out r h = record { answer = rw h refl; bytes = rw h refl }

-- an accepted plan of n tasks with `total` instructions
module _ (p : Plan) (n total : ℕ) (h : plan_answer (programs p) ≡ Ok tt) (en : n ≡ p.tasks) (et : total ≡ total_in p.lengths n) where
  layout_of : layout (programs p)
      ≡ (bytes16 n ++ bytes16 total) ++ (entries_bytes p.lengths n ++ slots_bytes p.lengths p.codes (64 * p.tasks))
  unfolding layout
  layout_of = rw (et, en, heads_of p, codes_of p (few_of p h), total_of_plan p, tasks_of_lem p) refl

  layout_length : length (layout (programs p)) ≡ 4 + 4 * n + 4 * total
  layout_length =
      let heads = entries_bytes p.lengths n in
      let codes = slots_bytes p.lengths p.codes (64 * p.tasks) in
      rw layout_of (omega (arith, et, length-append heads codes, length_entries p.lengths n n, (sizes_of p n h en).code))

  -- a short output stays as it was
  pub short : (out : List ℕ) → length out < 4 + 4 * n + 4 * total → WritePlan (programs p) out (Err OutputShort) out
  unfolding write_answer write_output
  short out l =
      let e = lt-leb (length (layout (programs p))) (length out) (rw layout_length l) in
      record { answer = rw (h, e) refl; bytes = rw (h, e) refl }

  -- the four parts put one behind another
  pub written : (out a b c d : List ℕ) → 4 + 4 * n + 4 * total ≤ length out
      → a ≡ overlay out 0 (bytes16 n)
      → b ≡ overlay a 2 (bytes16 total)
      → c ≡ overlay b 4 (entries_bytes p.lengths n)
      → d ≡ overlay c (4 + 4 * n) (slots_bytes p.lengths p.codes (64 * p.tasks))
      → WritePlan (programs p) out (Ok (4 + 4 * n + 4 * total)) d
  unfolding write_answer write_output
  written out a b c d r ea eb ec ed =
      let heads = entries_bytes p.lengths n in
      let codes = slots_bytes p.lengths p.codes (64 * p.tasks) in
      let pa : Put out 0 (bytes16 n) 2 a = record { next = refl; bytes = ea } in
      let pb : Put a 2 (bytes16 total) 4 b = record { next = refl; bytes = eb } in
      let pc : Put b 4 heads (4 + 4 * n) c = record { next = omega (arith, length_entries p.lengths n n); bytes = ec } in
      let pd : Put c (4 + 4 * n) codes (4 + 4 * n + length codes) d = record { next = refl; bytes = ed } in
      let front = bytes16 n ++ bytes16 total in
      let pab = put_more out 0 (bytes16 n) (bytes16 total) a 2 4 b (omega arith) pa pb in
      let pabc = put_more out 0 front heads b 4 _ c (omega arith) pab pc in
      let whole = put_more out 0 (front ++ heads) codes c _ _ d (omega arith) pabc pd in
      let file : d ≡ overlay out 0 (layout (programs p)) = whole.bytes ∙ ap (overlay out 0) (append_assoc front heads codes ∙ sym layout_of) in
      let e = le-leb (length (layout (programs p))) (length out) (rw layout_length r) in
      record { answer = rw (h, e, layout_length) refl; bytes = rw (h, e) (file ∙ overlay_front out (layout (programs p))) }
