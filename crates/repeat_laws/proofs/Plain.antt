-- A file without a repeat is answered as by plan check, and is written as it is.
use mathlib.Core.Path.{◌≡◌, refl, sym}
use mathlib.Core.Bool.{Bool, true, false, not, ◌||◌, true≢false}
use mathlib.Core.List.{List, [], ◌∷◌, ◌++◌}
use Prim.Native.Nat.{ℕ, ◌<◌, ◌≤◌}
use lib.Dec.{leb}
use lib.ListN.{length, drop}
use borrow.Author.Tests.{eqb-true, le-leb}
use Rattle.std.specs.Prelude.{Ok, Err}
use Rattle.base.specs.Choice.{unless}
use Rattle.base.specs.Lists.{every}
use Rattle.base.proofs.Tests.{and_left, and_right, and_both, within_high}
use Rattle.plan.specs.declared.Instruction.{Instruction}
use Rattle.plan.specs.Answers.{PlanAnswer}
use Rattle.plan.specs.declared.Refusal.TheVariants.{BadLayout}
use Rattle.plan.specs.Programs.{Program, Programs}
use Rattle.plan.specs.Refusals.{level_ok, size_ok, sizes_ok, operand_ok, instruction_ok, instructions_ok}
use Rattle.plan.specs.Files.{file_tasks, layout_ok, file_programs, file_answer}
use Rattle.plan.specs.Repeats.{op_repeat, op_repeat_end, is_repeat, is_repeat_end, written_from, written_out, written_out_plan}
use Rattle.plan.specs.RepeatRefusals.{new_instruction_ok, new_instructions_ok, paired_from, creates_from, paired_ok, repeated_ok, lengths_ok, repeats_answer}
use Rattle.plan.specs.Conversions.{converted_file, convert_answer, convert_output}
use Rattle.plan.proofs.Parts.{tasks_in, count_in}
use Rattle.plan_laws.specs.Bytes.{Bytes}
use Rattle.plan_laws.proofs.Answers.{laid, sized_ok, file_passed}
use Rattle.plan_laws.proofs.LayoutRead.{layout_read}
use Rattle.repeat_laws.specs.Plain.{is_plain, without_repeats}

-- an instruction that is neither a repeat nor its end
neither : (a b : Bool) → not (a || b) ≡ true → (a ≡ false) × (b ≡ false)
neither false false h = (refl, refl)
neither false true h = absurd (true≢false (sym h))
neither true b h = absurd (true≢false (sym h))

-- a program of such
plain_written : (g : Program) → every is_plain g ≡ true → written_out g ≡ g
unfolding every written_from
plain_written [] h = refl
plain_written (i ∷ g) h =
    let (a, b) = neither (is_repeat i) (is_repeat_end i) (and_left (is_plain i) _ h) in
    rw (a, plain_written g (and_right (is_plain i) _ h)) refl

plain_paired : (g : Program) → every is_plain g ≡ true → paired_from false g ≡ true
unfolding every paired_from
plain_paired [] h = refl
plain_paired (i ∷ g) h =
    let (a, b) = neither (is_repeat i) (is_repeat_end i) (and_left (is_plain i) _ h) in
    rw (a, b) (plain_paired g (and_right (is_plain i) _ h))

plain_creates : (g : Program) → every is_plain g ≡ true → creates_from false g ≡ true
unfolding every creates_from
plain_creates [] h = refl
plain_creates (i ∷ g) h =
    let (a, b) = neither (is_repeat i) (is_repeat_end i) (and_left (is_plain i) _ h) in
    rw (a, b) (plain_creates g (and_right (is_plain i) _ h))

plain_allowed : (n : ℕ) (g : Program) → every is_plain g ≡ true → every (new_instruction_ok n) g ≡ every (instruction_ok n) g
unfolding every new_instruction_ok
plain_allowed n [] h = refl
plain_allowed n (i ∷ g) h =
    let (a, b) = neither (is_repeat i) (is_repeat_end i) (and_left (is_plain i) _ h) in
    rw (a, b, plain_allowed n g (and_right (is_plain i) _ h)) refl

-- programs of such
all_of : (p : Program → Bool) → ((g : Program) → every is_plain g ≡ true → p g ≡ true) → (m : Programs) → without_repeats m ≡ true → every p m ≡ true
unfolding every
all_of p f [] h = refl
all_of p f (g ∷ m) h = and_both _ _ (f g (and_left (every is_plain g) _ h)) (all_of p f m (and_right (every is_plain g) _ h))

all_written : (m : Programs) → without_repeats m ≡ true → written_out_plan m ≡ m
unfolding every
all_written [] h = refl
all_written (g ∷ m) h = rw (plain_written g (and_left (every is_plain g) _ h), all_written m (and_right (every is_plain g) _ h)) refl

all_allowed : (n : ℕ) (m : Programs) → without_repeats m ≡ true → every (every (new_instruction_ok n)) m ≡ every (every (instruction_ok n)) m
unfolding every
all_allowed n [] h = refl
all_allowed n (g ∷ m) h = rw (plain_allowed n g (and_left (every is_plain g) _ h), all_allowed n m (and_right (every is_plain g) _ h)) refl

all_short : (m : Programs) → without_repeats m ≡ true → every (λ g. size_ok (length g)) m ≡ true → every (λ g. leb (length (written_out g)) 64) m ≡ true
unfolding every
all_short [] h s = refl
all_short (g ∷ m) h s =
    let few : length (written_out g) ≤ 64 =
    rw (plain_written g (and_left (every is_plain g) _ h)) (within_high 1 64 (length g) (and_left (size_ok (length g)) _ s)) in
    and_both _ _ (le-leb (length (written_out g)) 64 few)
    (all_short m (and_right (every is_plain g) _ h) (and_right (size_ok (length g)) _ s))

-- an instruction of the present edition is neither
present : (n : ℕ) (i : Instruction) → instruction_ok n i ≡ true → is_plain i ≡ true
unfolding operand_ok
present n i h = go (is_repeat i) refl (is_repeat_end i) refl
  where
    fine : operand_ok n i ≡ true
    fine = and_right (level_ok i) _ h

    go : (a : Bool) → is_repeat i ≡ a → (b : Bool) → is_repeat_end i ≡ b → not (a || b) ≡ true
    go false e false f = refl
    go false e true f = absurd (true≢false (sym (rw (eqb-true i.opcode op_repeat_end f) at fine)))
    go true e b f = absurd (true≢false (sym (rw (eqb-true i.opcode op_repeat e) at fine)))

present_program : (n : ℕ) (g : Program) → every (instruction_ok n) g ≡ true → every is_plain g ≡ true
unfolding every
present_program n [] h = refl
present_program n (i ∷ g) h = and_both _ _ (present n i (and_left (instruction_ok n i) _ h)) (present_program n g (and_right (instruction_ok n i) _ h))

present_programs : (n : ℕ) (m : Programs) → every (every (instruction_ok n)) m ≡ true → without_repeats m ≡ true
unfolding every
present_programs n [] h = refl
present_programs n (g ∷ m) h =
    and_both _ _ (present_program n g (and_left (every (instruction_ok n) g) _ h)) (present_programs n m (and_right (every (instruction_ok n) g) _ h))

-- two answers behind one test
behind : (ok : Bool) (r x y : PlanAnswer) → (ok ≡ true → x ≡ y) → unless ok r x ≡ unless ok r y
behind true r x y h = h refl
behind false r x y h = refl

module _ (b : List ℕ) where
  sizes : layout_ok b ≡ true → sizes_ok (file_programs b) ≡ true
  sizes h =
      let l = laid b h in
      sized_ok (file_programs b)
      (record {
        tasks = rw (tasks_in b) l.tasks;
        counts = λ k q. let r : k < file_tasks b = rw (tasks_in b) at q in rw (count_in b k r) (l.counts k r);
      })

  lengths : without_repeats (file_programs b) ≡ true → layout_ok b ≡ true → lengths_ok (file_programs b) ≡ true
  unfolding sizes_ok lengths_ok
  lengths h e = let m = file_programs b in all_short m h (and_right (size_ok (length m)) _ (sizes e))

  -- 2 to 6 alike, and never 21 to 23
  pub plain_answer : without_repeats (file_programs b) ≡ true → repeats_answer b ≡ file_answer b
  unfolding repeats_answer file_answer new_instructions_ok instructions_ok paired_ok repeated_ok
  plain_answer h =
      let m = file_programs b in
      let allowed = all_allowed (length m) m h in
      let paired = all_of (paired_from false) plain_paired m h in
      let creates = all_of (creates_from false) plain_creates m h in
      behind (layout_ok b) (Err BadLayout) _ _ (λ e. rw (allowed, paired, creates, lengths h e, all_written m h) refl)

  pub plain_file_lem : Bytes b → without_repeats (file_programs b) ≡ true → file_answer b ≡ Ok tt → converted_file b ≡ b
  plain_file_lem bytes h a = rw (all_written (file_programs b) h) (layout_read b bytes a).0

  -- a file that plan check accepts has no repeat
  pub present_plain : file_answer b ≡ Ok tt → without_repeats (file_programs b) ≡ true
  unfolding instructions_ok
  present_plain a = present_programs (length (file_programs b)) (file_programs b) (file_passed b a).instructions

  -- and is written as it is
  pub present_output : (out : List ℕ) → Bytes b → file_answer b ≡ Ok tt → length b ≤ length out → convert_output b out ≡ b ++ drop (length b) out
  unfolding convert_answer convert_output
  present_output out bytes a l =
      let h = present_plain a in
      rw (plain_answer h, a, plain_file_lem bytes h a, le-leb (length b) (length out) l) refl
