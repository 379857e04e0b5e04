-- The slots of a plan value, filled task by task.
use mathlib.Core.Path.{◌≡◌, sym, ap, ◌∙◌}
use mathlib.Core.Bool.{false}
use mathlib.Core.List.{List, [], map}
use mathlib.Core.Logic.{by_cases}
use Prim.Native.Nat.{ℕ, zero, suc, ◌+◌, ◌*◌, ◌≤◌, ◌<◌}
use native.Mathlib.Decide.{dec_lt}
use native.Mathlib.Numerals.{add-one}
use native.Mathlib.Omega.{arith}
use lib.Dec.{ltb, leb}
use lib.ListN.{length, get_or, set, replicate, length-map, get_or-map, get_or-eq_default}
use lib.Seq.{paste, paste-zero, paste-suc}
use borrow.Author.Tests.{lt-ltb, le-ltb, leb-true}
use Rattle.base.specs.Choice.{pick}
use Rattle.base.specs.Lists.{every, table}
use Rattle.base.proofs.Tables.{length_table, get_d_table, table_same}
use Rattle.base.proofs.Tests.{every_at}
use Rattle.plan.specs.Kinds.{no_instruction}
use Rattle.plan.specs.Programs.{Program, Programs, program_at, code_of, canonical}
use Rattle.plan.specs.Layout.{count_of}
use Rattle.plan.specs.Files.{file_instruction}
use Rattle.plan.specs.Repeats.{written_from, written_out, written_out_plan}
use Rattle.plan.specs.RepeatRefusals.{new_instruction_ok, new_instructions_ok, paired_from, creates_from, paired_ok, repeated_ok, lengths_ok}
use Rattle.plan_file.specs.Code.{code_place, programs_in, codes_to}
use Rattle.plan_file.proofs.Filling.{fill_none, fill_more}
use Rattle.plan_file.proofs.Instructions.{next_code, rest_codes, all_codes}
use Rattle.convert.specs.Stages.{Filled}
use Rattle.convert.specs.Tasks.{task_in, Fine, AllFine}

-- a task's slots
module _ (m : Programs) (k : ℕ) (few : k < 64) (short : count_of m k ≤ 64) where
  abbrev g : Program
  g = program_at m k

  slots_to : (j : ℕ) → j ≤ length g → paste (codes_to m (64 * k)) (64 * k) (map code_of g) j ≡ codes_to m (64 * k + j)
  slots_to zero h = sym (paste-zero (codes_to m (64 * k)) (64 * k) (map code_of g)) ∙ ap (codes_to m) (omega arith)
  slots_to (suc j) h =
      sym (paste-suc (codes_to m (64 * k)) (64 * k) (map code_of g) j 0 (rw (length_table 4096 _) (omega arith)) (rw (length-map g code_of) h))
      ∙ rw (add-one j) at (next_code m k j _ few (omega arith) (get_or-map code_of g j no_instruction) (slots_to j (omega arith)))

  pub task_slots : paste (codes_to m (64 * k)) (64 * k) (map code_of g) (length g) ≡ codes_to m (64 * (k + 1))
  task_slots = slots_to (length g) (omega arith) ∙ rest_codes m k short

-- how many instructions the first k tasks have, and nothing behind them
abbrev pub counts_to : Programs → ℕ → List ℕ
counts_to m k = table 64 (λ j. pick (ltb j k) (count_of m j) 0)

pub counts_none : (m : Programs) → replicate 64 0 ≡ counts_to m 0
counts_none m = fill_none 64 (count_of m) 0

pub counts_more : (m : Programs) (k : ℕ) {l : List ℕ} {c : ℕ} → k < 64 → l ≡ counts_to m k → c ≡ count_of m k → set l k c ≡ counts_to m (k + 1)
counts_more m k few e is = rw (e, is) (fill_more 64 (count_of m) 0 k few)

-- the slots and the counts of all tasks
pub all_filled : (m : Programs) → length m ≤ 64 → {x y : List ℕ} → x ≡ counts_to m (length m) → y ≡ codes_to m (64 * length m) → Filled m x y
unfolding canonical
all_filled m few {x} {y} a b =
    record {
      counts =
          a
          ∙ table_same 64 _ (count_of m)
          (λ j q.
          by_cases
          (dec_lt j (length m))
          (λ l. simp (lt-ltb j (length m) l))
          (λ l. simp (le-ltb j (length m) (omega arith)) (sym (ap length (get_or-eq_default m [] {n = j} (omega arith))))));
      codes = b ∙ all_codes m few;
    }

-- a task's instructions stand one behind the other
pub task_is : (b : List ℕ) (n : ℕ) (lengths : List ℕ) (k : ℕ) → k < n → {at count : ℕ} → at ≡ code_place lengths k 0 → count ≡ get_or lengths k 0
    → task_in b at count ≡ program_at (programs_in b n lengths) k
unfolding task_in programs_in
task_is b n lengths k h {at} {count} e f =
    rw (e, f)
    (table_same (get_or lengths k 0) _ _ (λ i q. ap (file_instruction b) (omega arith))
    ∙ sym (get_d_table n (λ k. table (get_or lengths k 0) (λ i. file_instruction b (code_place lengths k i))) k [] h))

-- the program of a task that has passed
pub task_fine : (m : Programs) → AllFine m → (k : ℕ) → k < length m → Fine (program_at m k)
unfolding new_instructions_ok paired_ok repeated_ok lengths_ok
task_fine m a k h =
    record {
      tasks = length m;
      instructions = every_at (every (new_instruction_ok (length m))) m k [] h a.instructions;
      paired = every_at (paired_from false) m k [] h a.paired;
      creates = every_at (creates_from false) m k [] h a.creates;
      short = leb-true _ 64 (every_at (λ g. leb (length (written_out g)) 64) m k [] h a.short);
    }

-- the written-out plan, task by task
pub written_at : (m : Programs) (k : ℕ) → program_at (written_out_plan m) k ≡ written_out (program_at m k)
unfolding written_from
written_at m k = get_or-map written_out m k []
