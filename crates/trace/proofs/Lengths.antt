-- How long the trace's lines are.
use mathlib.Core.Path.{◌≡◌, refl}
use mathlib.Core.Bool.{Bool, true, false}
use mathlib.Core.List.{List, [], ◌∷◌, append-nil}
use mathlib.Core.Logic.{by_cases}
use Prim.Native.Nat.{ℕ, zero, suc, ◌+◌, ◌*◌, ◌-◌, ◌≤◌, ◌<◌}
use native.Mathlib.Decide.{dec_lt}
use native.Mathlib.Omega.{arith}
use lib.Dec.{leb}
use lib.ListN.{length, length-append}
use borrow.Author.Tests.{leb-true}
use Rattle.std.specs.Prelude.{None, Some}
use Rattle.std.specs.Prelude.{Ok, Err}
use Rattle.base.specs.Choice.{pick}
use Rattle.base.specs.Range.{fold, joined}
use Rattle.base.proofs.Choices.{pick_either}
use Rattle.base.proofs.Tests.{and_left, and_right}
use Rattle.plan.specs.Words.{word_numbers}
use Rattle.rules.specs.Reports.{Received}
use Rattle.rules.specs.Answers.{StepAnswer}
use Rattle.rules.specs.declared.step.StepRefusal.TheVariants.{BadSystem, NoTask, NotReady, FinishWithChildren, NetworkFull, NoMessage, NoProcessor, AlreadyThere, MoveWithChildren, MovesSpent, BadStep}
use Rattle.rules.specs.declared.step.Report.{Report}
use Rattle.rules.specs.declared.system.System.{System}
use Rattle.rules.specs.Answers.{step_number}
use Rattle.rules.specs.Numbers.{task_id}
use Rattle.rules.specs.Systems.{task_at}
use Rattle.rules.specs.Steps.{quiescent}
use Rattle.rules.specs.Trace.{decimal, fields, received_fields, step_line, over_line, over_lines, end_line}
use Rattle.rules.specs.StepFiles.{text}
use Rattle.rules_sound.specs.Words.{received_good}
use Rattle.trace.proofs.Decimals.{few_digits}
use Rattle.trace.proofs.Lines.{over_length}
use Rattle.rules_sound.proofs.Words.Fits.{word_fits, fits}
use Rattle.trace.proofs.Texts.{text_append}

-- fields behind one of at most d digits
field_more : (n d : ℕ) (ns : List ℕ) → length (decimal n) ≤ d → length (fields (n ∷ ns)) ≤ 1 + d + length (fields ns)
unfolding fields
field_more n d ns h = omega (arith, length-append (decimal n) (fields ns))

last_field : length (fields []) ≡ 1
unfolding fields
last_field = refl

answer_few : (a : StepAnswer) → step_number a < 100
answer_few (Ok tt) = omega arith
answer_few (Err BadSystem) = omega arith
answer_few (Err NoTask) = omega arith
answer_few (Err NotReady) = omega arith
answer_few (Err FinishWithChildren) = omega arith
answer_few (Err NetworkFull) = omega arith
answer_few (Err NoMessage) = omega arith
answer_few (Err NoProcessor) = omega arith
answer_few (Err AlreadyThere) = omega arith
answer_few (Err MoveWithChildren) = omega arith
answer_few (Err MovesSpent) = omega arith
answer_few (Err BadStep) = omega arith

-- what a line says behind its step's number
abbrev pub report_text : Report → List ℕ
report_text q = fields (step_number q.answer ∷ received_fields q.received)

-- no word is received with a refusal
pub refused_short : (a : StepAnswer) → length (report_text (record { answer = a; received = None })) ≤ 4
refused_short a = omega (arith, field_more (step_number a) 2 [] (few_digits 1 (step_number a) (answer_few a)), last_field)

pub accepted_short : (w : Received) → received_good word_fits w ≡ true → length (report_text (record { answer = Ok tt; received = w })) ≤ 31
unfolding received_good
accepted_short None h = omega (arith, refused_short (Ok tt))
accepted_short (Some (c, w)) h =
    let channel : c.0 ≤ 128 = leb-true c.0 128 (and_left (leb c.0 128) (word_fits w) h) in
    let f = fits w (and_right (leb c.0 128) (word_fits w) h) in
    omega (
      arith,
      field_more 0 1 (c.0 ∷ word_numbers w) (few_digits 0 0 (omega arith)),
      field_more c.0 3 (word_numbers w) (few_digits 2 c.0 (omega arith)),
      field_more w.0 5 (w.1 ∷ w.2 ∷ w.3 ∷ []) (few_digits 4 w.0 (omega (arith, f.first))),
      field_more w.1 5 (w.2 ∷ w.3 ∷ []) (few_digits 4 w.1 (omega (arith, f.second))),
      field_more w.2 5 (w.3 ∷ []) (few_digits 4 w.2 (omega (arith, f.third))),
      field_more w.3 5 [] (few_digits 4 w.3 (omega (arith, f.last))),
      last_field,
    )

pub line_short : (k : ℕ) (q : Report) → k < 10000 → length (report_text q) ≤ 31 → length (step_line k q) ≤ 35
unfolding step_line
line_short k q l h = omega (arith, few_digits 3 k l, length-append (decimal k) (report_text q))

-- the line of a marked task with a number of at most d digits, if it has one
over_short : (b : Bool) (t d : ℕ) → length (decimal t) ≤ d → length (text (pick b (over_line t ∷ []) [])) ≤ d + 6
unfolding text
over_short true t d h = rw (append-nil (over_line t)) (omega (arith, over_length t))
over_short false t d h = omega arith

-- of the first n tasks: 9 lines of 7 bytes, the others of 8
overs_few : (f : ℕ → Bool) (n : ℕ) → n ≤ 64 → length (text (joined n (λ k. pick (f k) (over_line (suc k) ∷ []) []))) ≤ 7 * n + (n - 9)
unfolding fold text
overs_few f zero l = omega arith
overs_few f (suc n) l =
    let before = joined n (λ k. pick (f k) (over_line (suc k) ∷ []) []) in
    let line = pick (f n) (over_line (suc n) ∷ []) [] in
    let fewer = overs_few f n (omega arith) in
    rw (text_append before line)
    (by_cases (dec_lt n 9)
    (λ (h : n < 9). omega (arith, fewer, length-append (text before) (text line), over_short (f n) (suc n) 1 (few_digits 0 (suc n) (omega arith))))
    (λ h. omega (arith, fewer, length-append (text before) (text line), over_short (f n) (suc n) 2 (few_digits 1 (suc n) (omega arith)))))

pub overs_short : (r : System) → r.plan.tasks ≤ 64 → length (text (over_lines r)) ≤ 9 * 7 + 55 * 8
unfolding over_lines
overs_short r l = omega (arith, overs_few (λ k. (task_at r (task_id (suc k))).overflow) r.plan.tasks l)

pub end_short : (r : System) → r.network.used ≤ 256 → length (end_line r) ≤ 10
unfolding end_line
end_short r h =
    let n = r.network.used in
    let rest : length (decimal (pick (quiescent r) 1 0)) ≤ 1 =
    pick_either (λ (k : ℕ). length (decimal k) ≤ 1) (quiescent r) 1 0 (few_digits 0 1 (omega arith)) (few_digits 0 0 (omega arith)) in
    omega (
      arith,
      field_more (pick (quiescent r) 1 0) 1 (n ∷ []) rest,
      field_more n 3 [] (few_digits 2 n (omega arith)),
      last_field,
    )
