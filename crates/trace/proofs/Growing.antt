-- A step file may grow: its first lines stay. Refused steps may be left out.
use mathlib.Core.Path.{◌≡◌, refl, sym, ap, ◌∙◌}
use mathlib.Core.Bool.{Bool, true, false}
use mathlib.Core.List.{List, [], ◌∷◌, ◌++◌, append_assoc}
use Prim.Native.Nat.{ℕ, suc, ◌+◌, ◌*◌, ◌/◌, ◌%◌, ◌<◌}
use native.Mathlib.Omega.{arith}
use lib.Dec.{eqb, leb}
use lib.ListN.{length, length-append, get_or-append}
use lib.Seq.{get_or-append-add}
use borrow.Author.Tests.{eqb-true}
use Rattle.std.specs.Prelude.{Ok, Err}
use Rattle.base.specs.Lists.{every}
use Rattle.base.proofs.Tables.{length_table, table_split}
use Rattle.base.proofs.Tests.{and_left}
use Rattle.plan.specs.declared.ChannelId.{ChannelId}
use Rattle.plan.specs.Answers.{PlanAnswer}
use Rattle.plan.specs.Files.{start_answer, byte_at}
use Rattle.rules.specs.declared.step.Step.{Step}
use Rattle.rules.specs.declared.step.Stepped.{Stepped}
use Rattle.rules.specs.declared.system.System.{System}
use Rattle.rules.specs.Answers.{is_accepted}
use Rattle.rules.specs.Steps.{step_answer, step, steps_by, steps, word_on, received_on}
use Rattle.rules.specs.Trace.{step_lines, over_lines, end_line}
use Rattle.rules.specs.StepFiles.{step_at, file_steps, start_of, trace_lines, text, steps_ok, answer_after, run_file_answer, run_file_text}
use Rattle.rules_laws.proofs.Steps.{step_refused, step_answer_lem, steps_by_system, steps_by_reports}
use Rattle.trace.specs.Growing.{lines_of, last_text, TraceOfPrefix, FileOfPrefix, LeftOut, RefusedLeftOut, accepted_steps, RefusedOut, AllRefusedLeftOut}
use Rattle.trace.proofs.Texts.{text_append, text_more, step_lines_append, length_lines}

-- a report a step
length_reports : (r : System) (ss : List Step) → length (steps r ss).reports ≡ length ss
unfolding steps_by
length_reports r [] = refl
length_reports r (s ∷ ss) = ap suc (length_reports (step r s).system ss)

module _ (r : System) (ss : List Step) where
  -- a line a step
  lines_number : length (lines_of r ss) ≡ length ss
  lines_number = length_lines 0 (steps r ss).reports ∙ length_reports r ss

  -- the lines with further steps are these lines and more
  abbrev further_lines : List Step → List (List ℕ)
  further_lines more = step_lines (0 + length (steps r ss).reports) (steps (steps r ss).system more).reports

  lines_grow : (more : List Step) → lines_of r (ss ++ more) ≡ lines_of r ss ++ further_lines more
  lines_grow more =
      ap (step_lines 0) (steps_by_reports step r ss more) ∙ step_lines_append 0 (steps r ss).reports (steps (steps r ss).system more).reports

  text_grows : (more : List Step) → text (lines_of r (ss ++ more)) ≡ text (lines_of r ss) ++ text (further_lines more)
  text_grows more = ap text (lines_grow more) ∙ text_append (lines_of r ss) (further_lines more)

pub trace_of_prefix : TraceOfPrefix
trace_of_prefix r ss more =
    record {
      number = lines_number r ss;
      line = λ k l. rw (lines_grow r ss more) (get_or-append (lines_of r ss) (further_lines r ss more) [] k (omega (arith, lines_number r ss)));
      bytes = record { rest = text (further_lines r ss more); whole = text_grows r ss more };
    }

-- the text of a trace: that of the steps, and of the lines behind them
trace_text_lem : (r : System) (ss : List Step) → text (trace_lines r ss) ≡ text (lines_of r ss) ++ last_text (steps r ss).system
unfolding trace_lines
trace_text_lem r ss =
    let q = (steps r ss).system in
    rw (text_append (lines_of r ss) (over_lines q ++ (end_line q ∷ [])), text_more (over_lines q) (end_line q)) refl

-- a run that is answered 0: its steps are in order
traced_steps : (a : PlanAnswer) (ok : Bool) (lines : List (List ℕ)) (room : ℕ) → answer_after a ok lines room ≡ Ok tt → ok ≡ true
traced_steps (Err x) ok lines room e = absurd (let z : ◌≡◌ {A = ℕ} 0 1 = cc in omega arith)
traced_steps (Ok tt) true lines room e = refl
traced_steps (Ok tt) false lines room e = absurd (let z : ◌≡◌ {A = ℕ} 0 1 = cc in omega arith)

module _ (n : ℕ) (p b out : List ℕ) (e : run_file_answer n p b out ≡ Ok tt) where
  whole_steps : length b % 4 ≡ 0
  unfolding run_file_answer steps_ok
  whole_steps =
      let ok = traced_steps (start_answer n p) (steps_ok b) (trace_lines (start_of n p) (file_steps b)) (length out) e in
      eqb-true (length b % 4) 0 (and_left (eqb (length b % 4) 0) (leb (length b / 4) 2000) ok)

  traced_text : run_file_text n p b out ≡ text (lines_of (start_of n p) (file_steps b)) ++ last_text (steps (start_of n p) (file_steps b)).system
  unfolding run_file_text
  traced_text = rw e (trace_text_lem (start_of n p) (file_steps b))

-- the steps of a file with more behind it
module _ (a more : List ℕ) (whole : length a % 4 ≡ 0) where
  -- a byte of the first file, and of the further bytes
  byte_here : (i : ℕ) → i < length a → byte_at (a ++ more) i ≡ byte_at a i
  byte_here i l = get_or-append a more 0 i l

  byte_behind : (i j : ℕ) → j ≡ length a + i → byte_at (a ++ more) j ≡ byte_at more i
  byte_behind i j e = rw e (get_or-append-add a more i 0)

  step_here : (k : ℕ) → k < length a / 4 → step_at (a ++ more) k ≡ step_at a k
  step_here k l =
      rw (byte_here (4 * k) (omega arith), byte_here (4 * k + 1) (omega arith), byte_here (4 * k + 2) (omega arith), byte_here (4 * k + 2 + 1) (omega arith))
      refl

  step_behind : (k : ℕ) → step_at (a ++ more) (length a / 4 + k) ≡ step_at more k
  step_behind k =
      let j = length a / 4 + k in
      rw (
        byte_behind (4 * k) (4 * j) (omega arith),
        byte_behind (4 * k + 1) (4 * j + 1) (omega arith),
        byte_behind (4 * k + 2) (4 * j + 2) (omega arith),
        byte_behind (4 * k + 2 + 1) (4 * j + 2 + 1) (omega arith),
      )
      refl

  steps_grow : file_steps (a ++ more) ≡ file_steps a ++ file_steps more
  unfolding file_steps
  steps_grow =
      let size : length (a ++ more) / 4 ≡ length a / 4 + length more / 4 = omega (arith, length-append a more) in
      rw size (table_split (length a / 4) (length more / 4) (step_at (a ++ more)) (step_at a) (step_at more) step_here (λ k l. step_behind k))

pub file_of_prefix : FileOfPrefix
file_of_prefix n p a more out later e f =
    let r = start_of n p in
    let grow = steps_grow a more (whole_steps n p a out e) in
    let stay = (trace_of_prefix r (file_steps a) (file_steps more)).bytes in
    let last = last_text (steps r (file_steps (a ++ more))).system in
    record {
      number = lines_number r (file_steps a) ∙ steps_number a;
      trace = traced_text n p a out e;
      bytes =
          record {
            rest = stay.rest ++ last;
            whole =
                traced_text n p (a ++ more) later f
                ∙ ap (λ (ss : List Step). text (lines_of r ss) ++ last) grow
                ∙ ap (λ (t : List ℕ). t ++ last) stay.whole
                ∙ append_assoc (text (lines_of r (file_steps a))) stay.rest last;
          };
    }
  where
    steps_number : (b : List ℕ) → length (file_steps b) ≡ length b / 4
    steps_number b = unfold file_steps in length_table (length b / 4) (step_at b)

-- steps with a refused one between them
module _ (r : System) (before : List Step) (s : Step) (behind : List Step) where
  abbrev here : System
  here = (steps r before).system

  refused_left_out : is_accepted (step_answer here s) ≡ false → LeftOut r before s behind
  unfolding steps_by
  refused_left_out e =
      let same = step_refused here s (step_answer here s) refl e in
      let left : (step here s).system ≡ here = ap (λ (o : Stepped). o.system) same in
      record {
        q = (step here s).report;
        later = (steps here behind).reports;
        nothing = ap (λ (o : Stepped). o.report.received) same;
        with =
            steps_by_reports step r before (s ∷ behind)
            ∙ ap (λ (q : System). (steps r before).reports ++ ((step here s).report ∷ (steps q behind).reports)) left;
        without = steps_by_reports step r before behind;
        system =
            steps_by_system step r before behind ∙ ap (λ (q : System). (steps q behind).system) (sym left)
            ∙ sym (steps_by_system step r before (s ∷ behind));
      }

pub refused_steps_left_out : RefusedLeftOut
refused_steps_left_out = refused_left_out

-- all of them: step by step
module _ (r : System) (s : Step) (ss : List Step) (later : RefusedOut (step r s).system ss) where
  abbrev more : List Step
  more = accepted_steps (step r s).system ss

  on_accepted : is_accepted (step_answer r s) ≡ true → RefusedOut r (s ∷ ss)
  unfolding accepted_steps steps_by received_on every
  on_accepted e =
      let first : accepted_steps r (s ∷ ss) ≡ s ∷ more = rw e refl in
      let answer : is_accepted (step r s).report.answer ≡ true = rw (step_answer_lem r s) e in
      record {
        answers = rw (first, answer) later.answers;
        received = λ c. rw first (ap (λ ws. word_on c (step r s).report.received ++ ws) (later.received c));
        system = rw first later.system;
      }

  on_refused : is_accepted (step_answer r s) ≡ false → RefusedOut r (s ∷ ss)
  unfolding accepted_steps steps_by received_on word_on
  on_refused e =
      let same = step_refused r s (step_answer r s) refl e in
      let left : (step r s).system ≡ r = ap (λ (o : Stepped). o.system) same in
      let first : accepted_steps r (s ∷ ss) ≡ more = rw e refl in
      let got : (c : ChannelId) → word_on c (step r s).report.received ≡ [] = λ c. ap (λ (o : Stepped). word_on c o.report.received) same in
      let run : steps r (accepted_steps r (s ∷ ss)) ≡ steps (step r s).system more = rw (first, left) refl in
      record {
        answers = rw run later.answers;
        received = λ c. rw (run, got c) (later.received c);
        system = rw run later.system;
      }

  on_either : (b : Bool) → is_accepted (step_answer r s) ≡ b → RefusedOut r (s ∷ ss)
  on_either true e = on_accepted e
  on_either false e = on_refused e

pub all_refused_left_out : AllRefusedLeftOut
unfolding accepted_steps steps_by every
all_refused_left_out r [] = record { answers = refl; received = λ c. refl; system = refl }
all_refused_left_out r (s ∷ ss) = on_either r s ss (all_refused_left_out (step r s).system ss) (is_accepted (step_answer r s)) refl
