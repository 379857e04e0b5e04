-- A run over a step file: what is answered, and what the lent output holds then.
use Rattle.std.specs.Prelude.{Bool, ◌&&◌, List, [], ◌∷◌, ◌++◌, ℕ, ◌+◌, ◌-◌, ◌*◌, ◌/◌, ◌%◌, length, drop, eqb, leb, Ok, Err}
use Rattle.base.specs.Choice.{pick, unless}
use Rattle.base.specs.Lists.{table}
use Rattle.plan.specs.Answers.{PlanAnswer}
use Rattle.plan.specs.Programs.{canonical}
use Rattle.plan.specs.Layout.{bytes16}
use Rattle.plan.specs.Files.{byte_at, word16, file_programs, start_answer}
use Rattle.rules.specs.declared.step.Step.{Step}
use Rattle.rules.specs.Answers.{RunAnswer}
use Rattle.rules.specs.declared.step.RunRefusal.TheVariants.{Unstarted, BadSteps, OutputShort}
use Rattle.rules.specs.declared.system.System.{System}
use Rattle.rules.specs.Answers.{run_number}
use Rattle.rules.specs.Starts.{started}
use Rattle.rules.specs.Steps.{steps}
use Rattle.rules.specs.Trace.{step_lines, over_lines, end_line, refused_line}

-- "A step is 4 bytes: kind .., task, 16-bit number.": the bytes of a step, and the step after the first k
abbrev pub step_bytes : Step → List ℕ
step_bytes s = s.kind ∷ s.task ∷ bytes16 s.number

abbrev pub step_at : List ℕ → ℕ → Step
step_at b k = record { kind = byte_at b (4 * k); task = byte_at b (4 * k + 1); number = word16 b (4 * k + 2) }

unfoldable pub file_steps : List ℕ → List Step
file_steps b = table (length b / 4) (step_at b)

-- the rig at the start of a plan file
unfoldable pub start_of : ℕ → List ℕ → System
start_of n p = started n (canonical (file_programs p))

-- the lines of the trace: those of the steps, of the marked tasks, and the last
unfoldable pub trace_lines : System → List Step → List (List ℕ)
trace_lines r ss =
    let h = steps r ss in
    step_lines 0 h.reports ++ (over_lines h.system ++ (end_line h.system ∷ []))

-- lines one after the other
unfoldable pub text : List (List ℕ) → List ℕ
text [] = []
text (l ∷ ls) = l ++ text ls

-- "8, length no multiple of 4 or over 2,000 steps"
unfoldable pub steps_ok : List ℕ → Bool
steps_ok b = eqb (length b % 4) 0 && leb (length b / 4) 2000

-- in the order 1 to 6, 8, 20: of lines in an output of `room` bytes
abbrev pub answer_after : PlanAnswer → Bool → List (List ℕ) → ℕ → RunAnswer
answer_after (Err a) ok lines room = Err (Unstarted a)
answer_after (Ok tt) ok lines room = unless ok (Err BadSteps) (unless (leb (length (text lines)) room) (Err OutputShort) (Ok tt))

unfoldable pub run_file_answer : ℕ → List ℕ → List ℕ → List ℕ → RunAnswer
run_file_answer n p b out = answer_after (start_answer n p) (steps_ok b) (trace_lines (start_of n p) (file_steps b)) (length out)

-- "it holds the longest beginning of whole lines that fits" in `room` bytes
unfoldable pub fitting : ℕ → List (List ℕ) → List ℕ
fitting room [] = []
fitting room (l ∷ ls) = pick (leb (length l) room) (l ++ fitting (room - length l) ls) []

-- what is written: at 1 to 8 "the output is untouched"; else what fits
abbrev pub written_after : RunAnswer → List (List ℕ) → ℕ → List ℕ
written_after (Ok tt) lines room = text lines
written_after (Err (Unstarted a)) lines room = []
written_after (Err BadSteps) lines room = []
written_after (Err OutputShort) lines room = fitting room lines

unfoldable pub run_file_text : ℕ → List ℕ → List ℕ → List ℕ → List ℕ
run_file_text n p b out = written_after (run_file_answer n p b out) (trace_lines (start_of n p) (file_steps b)) (length out)

-- "Here and after acceptance, bytes behind the last line are unchanged."
unfoldable pub run_file_output : ℕ → List ℕ → List ℕ → List ℕ → List ℕ
run_file_output n p b out =
    let t = run_file_text n p b out in
    t ++ drop (length t) out

-- what the trace program prints: the trace; "For a refused file it prints only `refused` and the number."
abbrev pub printed_after : RunAnswer → List (List ℕ) → List ℕ
printed_after a lines = pick (eqb (run_number a) 0) (text lines) (refused_line (run_number a))

unfoldable pub printed : ℕ → List ℕ → List ℕ → List ℕ
printed n p b =
    let lines = trace_lines (start_of n p) (file_steps b) in
    printed_after (answer_after (start_answer n p) (steps_ok b) lines (length (text lines))) lines
