-- The instructions of a task, looked at one after the other.
use mathlib.Core.Path.{◌≡◌, refl, sym, ◌∙◌}
use mathlib.Core.Bool.{Bool, true, false, not, ◌&&◌}
use mathlib.Core.List.{List, [], ◌∷◌}
use Prim.Native.Nat.{ℕ, suc, ◌+◌, ◌*◌, ◌≤◌, ◌<◌}
use native.Mathlib.Numerals.{add-one}
use native.Mathlib.Omega.{arith}
use lib.ListN.{length, drop, drop_of_length-le}
use lib.Seq.{drop-cons}
use lib.Dec.{leb}
use Rattle.base.proofs.Choices.{pick_either}
use Rattle.base.proofs.Folds.{fold_more}
use Rattle.base.proofs.Tables.{length_table, get_d_table}
use Rattle.base.proofs.Tests.{and_left, and_right, below_none}
use Rattle.plan.specs.declared.Instruction.{Instruction}
use Rattle.plan.specs.Kinds.{no_instruction}
use Rattle.plan.specs.Programs.{Program, Programs, program_at, instruction_at}
use Rattle.plan.specs.Files.{file_instruction}
use Rattle.plan.specs.Repeats.{is_repeat, is_repeat_end, written_out}
use Rattle.plan.specs.RepeatRefusals.{paired_from, creates_from, paired_ok, repeated_ok, lengths_ok}
use Rattle.plan_value.proofs.Changes.{every_below}
use Rattle.convert.specs.declared.marks.Marks.{Marks}
use Rattle.convert.specs.declared.find.Found.{Found}
use Rattle.convert.specs.Marks.{start_marks, next_marks, Marked, MarksOf, FoundIn, FoundTo}
use Rattle.convert.specs.Tasks.{task_in}
use Rattle.convert.proofs.Marking.{marked_none, marked_more, marked_all}

pub marks_start : (g : Program) → Marked g (drop 0 g) start_marks
marks_start g = marked_none g

-- numbers stay small
pub marks_bound : (m : Marks) (x : Instruction) (i : ℕ) → m.rounds ≤ 65535 → x.operand ≤ 65535 → m.length ≤ 65535 * i
    → ((next_marks m x).rounds ≤ 65535) × ((next_marks m x).length ≤ 65535 * (i + 1))
unfolding next_marks
marks_bound m x i r o l =
    pick_either (λ (q : Marks). (q.rounds ≤ 65535) × (q.length ≤ 65535 * (i + 1))) (is_repeat x) _ _ (omega arith, omega arith)
    (pick_either (λ (q : Marks). (q.rounds ≤ 65535) × (q.length ≤ 65535 * (i + 1))) (is_repeat_end x) _ _ (omega arith, omega arith) (omega arith, omega arith))

-- of the task that stands from a place on
module _ (b : List ℕ) (at count : ℕ) where
  abbrev g : Program
  g = task_in b at count

  pub task_length : length (task_in b at count) ≡ count
  unfolding task_in
  task_length = length_table count (λ i. file_instruction b (at + 4 * i))

  pub task_instruction : (i : ℕ) → i < count → instruction_at (task_in b at count) i ≡ file_instruction b (at + 4 * i)
  unfolding task_in
  task_instruction i h = get_d_table count (λ i. file_instruction b (at + 4 * i)) i no_instruction h

  pub marks_more : (i : ℕ) (m : Marks) (x : Instruction) → i < count → Marked g (drop i g) m → x ≡ file_instruction b (at + 4 * i)
      → Marked g (drop (i + 1) g) (next_marks m x)
  marks_more i m x h k e =
      let here : drop i g ≡ file_instruction b (at + 4 * i) ∷ drop (suc i) g = drop-cons g i no_instruction (rw task_length h) ∙ rw (task_instruction i h) refl in
      rw (add-one i, e) (marked_more g (drop (suc i) g) (file_instruction b (at + 4 * i)) m (rw here at k))

  pub marks_end : (m : Marks) → Marked g (drop count g) m → MarksOf g m
  marks_end m k =
      let all : length g ≤ count = rw task_length (omega arith) in
      marked_all g m (rw (drop_of_length-le g all) at k)

-- of the tasks of a plan
module _ (m : Programs) where
  pub found_none : FoundTo m 0 true true true
  found_none = record { paired = sym (below_none _); creates = sym (below_none _); short = λ h. sym (below_none _) }

  pub found_more : (k : ℕ) {p c s p' c' s' : Bool} {r : Marks} → FoundTo m k p c s → MarksOf (program_at m k) r → p' ≡ p && (r.paired && not r.inside) → c' ≡ c && r.creates
      → s' ≡ s && leb r.length 64 → FoundTo m (k + 1) p' c' s'
  found_more k {p} {c} {s} {p'} {c'} {s'} {r} f o a b d =
      record {
        paired = a ∙ rw (f.paired, o.paired) (sym (fold_more ◌&&◌ true k (λ j. paired_from false (program_at m j))));
        creates = b ∙ rw (f.creates, o.creates) (sym (fold_more ◌&&◌ true k (λ j. creates_from false (program_at m j))));
        short =
            λ h.
            let both = sym a ∙ h in
            let here = sym o.paired ∙ and_right p (r.paired && not r.inside) both in
            d
            ∙ rw (f.short (and_left p (r.paired && not r.inside) both), o.length here)
            (sym (fold_more ◌&&◌ true k (λ j. leb (length (written_out (program_at m j))) 64)));
      }

  pub found_all : {r : Found} → FoundTo m (length m) r.paired r.creates r.short → FoundIn m r
  unfolding paired_ok repeated_ok lengths_ok
  found_all f =
      record {
        paired = f.paired ∙ sym (every_below (paired_from false) m []);
        creates = f.creates ∙ sym (every_below (creates_from false) m []);
        short = λ h. f.short h ∙ sym (every_below (λ g. leb (length (written_out g)) 64) m []);
      }
