-- The check of a plan file: its answer, and what the lent output holds then.
use Rattle.std.specs.Prelude.{◌≡◌, Bool, List, ◌++◌, ℕ, ◌+◌, ◌*◌, ◌≤◌, leb, length, drop, Ok, Err}
use Rattle.base.specs.Choice.{pick}
use Rattle.plan.specs.declared.Plan.{Plan}
use Rattle.plan.specs.declared.Refusal.{Refusal}
use Rattle.plan.specs.Files.{file_programs, file_answer}
use Rattle.plan.specs.Programs.{canonical}
use Rattle.rules.specs.declared.step.Step.{Step}
use Rattle.rules.specs.Answers.{RunAnswer}
use Rattle.rules.specs.declared.step.RunRefusal.TheVariants.{Unstarted, OutputShort}
use Rattle.rules.specs.Finish.{finish_lines}
use Rattle.rules.specs.StepFiles.{text, fitting}
use Rattle.rig_parts.specs.Facts.{Facts}
use Rattle.run.specs.all_steps.Writes.{Written}
use Rattle.run.specs.file.Begins.{Begins}
use Rattle.claim.specs.Statement.{ComesToRest, from}
use Rattle.claim.specs.Finish.{RestsOn}
use Rattle.claim.specs.Work.{work_of}
use Rattle.finish.specs.declared.answer.Answered.{Answered}

-- the lines of plan p on n desks after the list ss
abbrev pub lines_after : ℕ → Plan → List Step → List (List ℕ)
lines_after n p ss = finish_lines (from n p ss).system (work_of n p ss)

-- as many bytes hold every answer: a first line of at most 9 (`yes 4096`) and 64 lines of at most 6 (`63 64`)
abbrev pub longest_answer : ℕ
longest_answer = 9 + 64 * 6

-- after some list that brings the one-desk rig to rest, its lines are written as far as they fit
pub record Told (p : Plan) (before : List ℕ) (filled : ℕ) (whole : Bool) (after : List ℕ) : Type 0 where
  pub list : List Step
  pub rests : RestsOn 1 p list
  pub written : Written (lines_after 1 p list) before filled whole after

-- so of whatever plan f is derived of
abbrev pub AnswerOf : Facts → List ℕ → Answered → List ℕ → Type 0
AnswerOf f before d after = (p : Plan) → Begins 1 p f → Told p before d.filled d.whole after

-- the plan of a file
abbrev pub plan_of : List ℕ → Plan
plan_of b = canonical (file_programs b)

-- lines are answered so, and as many bytes of the output are filled with the longest beginning of whole lines that fits
pub record Reported (lines : List (List ℕ)) (before : List ℕ) (answer : RunAnswer) (filled : ℕ) (after : List ℕ) : Type 0 where
  pub answered : answer ≡ pick (leb (length (text lines)) (length before)) (Ok tt) (Err OutputShort)
  pub count : filled ≡ length (fitting (length before) lines)
  pub bytes : after ≡ fitting (length before) lines ++ drop (length (fitting (length before) lines)) before

-- the check of file b: "2 to 6 as at start", and the output is untouched; else the verdict, the number and the list are those of the rig that
-- every list to rest leaves, on one desk and on any; and one desk does come to rest
pub record FinishFile (b before : List ℕ) (answer : RunAnswer) (filled : ℕ) (after : List ℕ) : Type 0 where
  pub refused : (r : Refusal) → file_answer b ≡ Err r → (answer ≡ Err (Unstarted r)) × (filled ≡ 0) × (after ≡ before)
  pub finished : file_answer b ≡ Ok tt → (n : ℕ) (ss : List Step) → 1 ≤ n → n ≤ 6 → RestsOn n (plan_of b) ss
      → Reported (lines_after n (plan_of b) ss) before answer filled after
  pub rests : file_answer b ≡ Ok tt → ComesToRest (plan_of b)
