-- The bound of a trace: at most 35 bytes a step, 7 or 8 a marked task and 10 for the last line.
use mathlib.Core.Path.{◌≡◌, refl}
use mathlib.Core.Bool.{Bool, true, false}
use mathlib.Core.List.{List, [], ◌∷◌, ◌++◌}
use Prim.Native.Nat.{ℕ, ◌+◌, ◌-◌, ◌*◌, ◌/◌, ◌%◌, ◌≤◌}
use native.Mathlib.Omega.{arith}
use lib.Dec.{eqb, leb}
use lib.ListN.{length, length-append}
use borrow.Author.Tests.{leb-true}
use Rattle.std.specs.Prelude.{Ok, Err}
use Rattle.base.specs.Choice.{unless, within}
use Rattle.base.proofs.Choices.{pick_either}
use Rattle.base.proofs.Tables.{length_table}
use Rattle.base.proofs.Tests.{and_right, within_low, within_high}
use Rattle.plan.specs.declared.Plan.{Plan}
use Rattle.plan.specs.Answers.{PlanAnswer}
use Rattle.plan.specs.declared.Refusal.TheVariants.{BadProcessors}
use Rattle.plan.specs.Programs.{programs, canonical}
use Rattle.plan.specs.Refusals.{plan_answer}
use Rattle.plan.specs.Files.{file_programs, file_answer, start_answer}
use Rattle.plan_laws.proofs.Answers.{unless_accepted}
use Rattle.plan_laws.proofs.Canonical.{meaning_canonical}
use Rattle.plan_laws.proofs.LayoutRead.{file_plan_lem}
use Rattle.rules.specs.declared.step.Step.{Step}
use Rattle.rules.specs.declared.step.RunRefusal.TheVariants.{OutputShort}
use Rattle.rules.specs.Starts.{started}
use Rattle.rules.specs.Steps.{steps}
use Rattle.rules.specs.Trace.{step_lines, over_lines, end_line}
use Rattle.rules.specs.StepFiles.{file_steps, start_of, trace_lines, text, steps_ok, answer_after, run_file_answer, fitting, written_after, run_file_text}
use Rattle.rules_laws.proofs.Shapes.{started_shaped, steps_shaped}
use Rattle.rules_laws.proofs.Sound.{messages_fit}
use Rattle.rules_sound.proofs.Frames.{tasks_few}
use Rattle.rules_sound.proofs.Sound.{sound}
use Rattle.rules_sound.proofs.Kept.{steps_kept}
use Rattle.rules_sound.proofs.Starts.{started_ok}
use Rattle.rules_sound.proofs.Words.Steps.{words_good}
use Rattle.trace.specs.Bounds.{longest_trace}
use Rattle.trace.proofs.Lengths.{overs_short, end_short}
use Rattle.rules_sound.proofs.Words.Fits.{plan_keeps}
use Rattle.trace.proofs.Steps.{steps_short}
use Rattle.trace.proofs.Texts.{text_append, text_more}

-- the trace of a list of steps from the start of an accepted plan
trace_short : (n : ℕ) (p : Plan) → 1 ≤ n → n ≤ 6 → plan_answer (programs p) ≡ Ok tt → (ss : List Step) → length ss ≤ 2000
    → length (text (trace_lines (started n p) ss)) ≤ length ss * 35 + (9 * 7 + 55 * 8) + 10
unfolding trace_lines
trace_short n p some few a ss l =
    let r = started n p in
    let q = (steps r ss).system in
    let kept = steps_kept r ss (started_shaped n p) (started_ok n p some few a) in
    let lines = step_lines 0 (steps r ss).reports in
    let tasks = tasks_few q.processors q.plan (sound q (steps_shaped r ss (started_shaped n p)) kept).frame in
    rw (text_append lines (over_lines q ++ (end_line q ∷ [])), text_more (over_lines q) (end_line q))
    (omega (
      arith,
      length-append (text lines) (text (over_lines q) ++ end_line q),
      length-append (text (over_lines q)) (end_line q),
      steps_short r 0 ss (words_good n p ss some few a (plan_keeps (programs p) a)).reports (omega arith),
      overs_short q tasks,
      end_short q (messages_fit q kept),
    ))

steps_few : (b : List ℕ) → steps_ok b ≡ true → length (file_steps b) ≤ 2000
unfolding steps_ok file_steps
steps_few b h = rw length_table (leb-true (length b / 4) 2000 (and_right (eqb (length b % 4) 0) (leb (length b / 4) 2000) h))

-- what fits is no longer than all
pub fitting_short : (room : ℕ) (ls : List (List ℕ)) → length (fitting room ls) ≤ length (text ls)
unfolding fitting text
fitting_short room [] = omega arith
fitting_short room (l ∷ ls) =
    let rest = fitting (room - length l) ls in
    pick_either (λ t. length t ≤ length (l ++ text ls)) (leb (length l) room) (l ++ rest) []
    (omega (arith, fitting_short (room - length l) ls, length-append l rest, length-append l (text ls)))
    (omega arith)

-- what is written of lines of at most k bytes, where none is written of a refused file
written_short : (a : PlanAnswer) (ok : Bool) (ls : List (List ℕ)) (room k : ℕ) → (a ≡ Ok tt → ok ≡ true → length (text ls) ≤ k)
    → length (written_after (answer_after a ok ls room) ls room) ≤ k
written_short (Err x) ok ls room k h = omega arith
written_short (Ok tt) false ls room k h = omega arith
written_short (Ok tt) true ls room k h = go (leb (length (text ls)) room)
  where
    go : (b : Bool) → length (written_after (unless b (Err OutputShort) (Ok tt)) ls room) ≤ k
    go true = h refl refl
    go false = omega (arith, fitting_short room ls, h refl refl)

-- the trace of an accepted file on desks of a right number
pub start_short : (n : ℕ) (p b : List ℕ) → start_answer n p ≡ Ok tt → steps_ok b ≡ true → length (text (trace_lines (start_of n p) (file_steps b))) ≤ longest_trace
unfolding start_answer start_of
start_short n p b h s =
    let (d, a) = unless_accepted (within 1 6 n) BadProcessors (file_answer p) h in
    let ok = file_plan_lem p a in
    let means = meaning_canonical (file_programs p) ok in
    let few = steps_few b s in
    omega (
      arith,
      few,
      trace_short n (canonical (file_programs p)) (within_low 1 6 n d) (within_high 1 6 n d) (rw means ok) (file_steps b) few,
    )

-- any number of desks, plan file, step file and output
pub run_text_short : (n : ℕ) (p b out : List ℕ) → length (run_file_text n p b out) ≤ longest_trace
unfolding run_file_text run_file_answer
run_text_short n p b out =
    written_short (start_answer n p) (steps_ok b) (trace_lines (start_of n p) (file_steps b)) (length out) longest_trace (start_short n p b)
