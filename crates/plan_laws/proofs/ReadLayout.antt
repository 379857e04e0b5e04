-- The layout of a plan that is accepted is a file that is accepted, and holds that plan's programs.
use mathlib.Core.Path.{◌≡◌, sym, ◌∙◌}
use mathlib.Core.List.{List, [], ◌++◌}
use Prim.Native.Nat.{ℕ, ◌+◌, ◌*◌, ◌<◌, ◌≤◌}
use native.Mathlib.Omega.{arith}
use lib.ListN.{length, length-append}
use Rattle.std.specs.Prelude.{Ok}
use Rattle.base.specs.Range.{joined, sum_below}
use Rattle.base.proofs.Folds.{fold_same}
use Rattle.base.proofs.Joins.{length_joined}
use Rattle.plan.specs.Kinds.{no_instruction}
use Rattle.plan.specs.Programs.{Program, Programs, program_at, instruction_at}
use Rattle.plan.specs.Layout.{bytes16, offset_due, count_of, total_of, head_bytes, instruction_bytes, code_bytes, layout}
use Rattle.plan.specs.Refusals.{plan_answer}
use Rattle.plan.specs.Files.{file_tasks, file_total, file_offset, file_count, file_instruction, place_of, file_program, file_programs, file_answer}
use Rattle.base.proofs.Sums.{sum_const, sum_scaled}
use Rattle.plan_laws.proofs.Pieces.{whole}
use Rattle.plan_laws.proofs.Held.{Held, held_all, held_left, held_right, held_joined, held_word, held_instruction}
use Rattle.plan_laws.proofs.Answers.{Sized, Laid, plan_passed, sized, laid_ok, file_accepted}

-- the layout's parts
abbrev pub start : Programs → List ℕ
start m = bytes16 (length m) ++ bytes16 (total_of m)

abbrev pub heads : Programs → List ℕ
heads m = joined (length m) (head_bytes m)

abbrev pub codes : Programs → List ℕ
codes m = joined (length m) (λ k. code_bytes (program_at m k))

-- and their lengths
length_code : (g : Program) → length (code_bytes g) ≡ 4 * length g
length_code g = length_joined (length g) (λ i. instruction_bytes (instruction_at g i)) ∙ sum_const 4 (length g)

module _ (m : Programs) where
  length_heads : length (heads m) ≡ 4 * length m
  length_heads = length_joined (length m) (head_bytes m) ∙ sum_const 4 (length m)

  length_codes : (n : ℕ) → sum_below n (λ k. length (code_bytes (program_at m k))) ≡ 4 * sum_below n (count_of m)
  length_codes n =
      fold_same ◌+◌ 0 n (λ k. length (code_bytes (program_at m k))) (λ k. 4 * count_of m k) (λ k l. length_code (program_at m k)) ∙ sum_scaled 4 n (count_of m)

  length_layout : length (layout m) ≡ 4 + 4 * length m + 4 * total_of m
  unfolding layout
  length_layout =
      let c : length (codes m) ≡ 4 * total_of m =
      length_joined (length m) (λ k. code_bytes (program_at m k)) ∙ length_codes (length m) in
      omega (arith, length-append (heads m) (codes m), length_heads)

  -- its fields, read
  start_held : Held (layout m) 0 (start m)
  unfolding layout
  start_held = held_left (layout m) 0 (start m) (heads m ++ codes m) (held_all (layout m))

  rest_held : Held (layout m) 4 (heads m ++ codes m)
  unfolding layout
  rest_held = held_right (layout m) 0 (start m) (heads m ++ codes m) (held_all (layout m))

  tasks_read : file_tasks (layout m) ≡ length m
  tasks_read = held_word (layout m) 0 (length m) (held_left (layout m) 0 (bytes16 (length m)) (bytes16 (total_of m)) start_held)

  total_read : file_total (layout m) ≡ total_of m
  total_read = held_word (layout m) 2 (total_of m) (held_right (layout m) 0 (bytes16 (length m)) (bytes16 (total_of m)) start_held)

  module _ (k : ℕ) (l : k < length m) where
    head_held : Held (layout m) (4 + 4 * k) (head_bytes m k)
    head_held =
        rw (sum_const 4 k)
        at (held_joined (layout m) 4 (length m) (head_bytes m) k l
        (held_left (layout m) 4 (heads m) (codes m) rest_held))

    offset_read : file_offset (layout m) k ≡ offset_due (length m) (count_of m) k
    offset_read =
        held_word (layout m) (4 + 4 * k) (offset_due (length m) (count_of m) k)
        (held_left (layout m) (4 + 4 * k) (bytes16 (offset_due (length m) (count_of m) k)) (bytes16 (count_of m k)) head_held)

    count_read : file_count (layout m) k ≡ count_of m k
    count_read =
        let e : 4 + 4 * k + 2 ≡ 6 + 4 * k = omega arith in
        rw e
        at (held_word (layout m) (4 + 4 * k + 2) (count_of m k)
        (held_right (layout m) (4 + 4 * k) (bytes16 (offset_due (length m) (count_of m) k)) (bytes16 (count_of m k)) head_held))

    code_held : Held (layout m) (offset_due (length m) (count_of m) k) (code_bytes (program_at m k))
    code_held =
        rw (length_heads, length_codes k)
        at (held_joined (layout m) (4 + length (heads m)) (length m) (λ k. code_bytes (program_at m k)) k l
        (held_right (layout m) 4 (heads m) (codes m) rest_held))

    instruction_held : (i : ℕ) → i < count_of m k → Held (layout m) (place_of (layout m) k i) (instruction_bytes (instruction_at (program_at m k) i))
    instruction_held i q =
        rw offset_read
        (rw (sum_const 4 i)
        at (held_joined (layout m) (offset_due (length m) (count_of m) k) (count_of m k) (λ i. instruction_bytes (instruction_at (program_at m k) i)) i q code_held))

    program_read : file_program (layout m) k ≡ program_at m k
    program_read =
        whole (program_at m k) no_instruction (file_count (layout m) k) (sym count_read) (λ i. file_instruction (layout m) (place_of (layout m) k i))
        (λ i q. held_instruction (layout m) (place_of (layout m) k i) (instruction_at (program_at m k) i) (instruction_held i (rw count_read at q)))

  programs_read : file_programs (layout m) ≡ m
  unfolding file_programs
  programs_read =
      whole m [] (file_tasks (layout m)) (sym tasks_read) (file_program (layout m)) (λ k l. program_read k (rw tasks_read at l))

  counts_read : (k : ℕ) → k ≤ length m → sum_below k (file_count (layout m)) ≡ sum_below k (count_of m)
  counts_read k l = fold_same ◌+◌ 0 k (file_count (layout m)) (count_of m) (λ i q. count_read i (omega arith))

  layout_laid : Sized m → Laid (layout m)
  layout_laid s =
      record {
        enough = rw length_layout (omega arith);
        tasks = rw tasks_read s.tasks;
        counts = λ k q. let l : k < length m = rw tasks_read at q in rw (count_read k l) (s.counts k l);
        offsets = λ k q. let l : k < length m = rw tasks_read at q in rw (tasks_read, counts_read k (omega arith)) (offset_read k l);
        total = rw (tasks_read, counts_read (length m) (omega arith)) total_read;
        size = rw (tasks_read, total_read) length_layout;
      }

pub read_layout : (m : Programs) → plan_answer m ≡ Ok tt → (file_answer (layout m) ≡ Ok tt) × (file_programs (layout m) ≡ m)
read_layout m h =
    let p = plan_passed m h in (
      file_accepted (layout m)
          (record {
            layout = laid_ok (layout m) (layout_laid m (sized m p.sizes));
            instructions = rw (programs_read m) p.instructions;
            structure = rw (programs_read m) p.structure;
          }),
      programs_read m,
    )
