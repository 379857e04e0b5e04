-- What a driver's author may rely on: a step file may grow, and refused steps may be left out. Said of the definitions of `rules` alone.
use Rattle.std.specs.Prelude.{◌≡◌, true, false, List, [], ◌∷◌, ◌++◌, ℕ, ◌/◌, ◌<◌, length, get_or, None, Ok}
use Rattle.base.specs.Choice.{pick}
use Rattle.base.specs.Lists.{every}
use Rattle.base.specs.Beginnings.{Beginning}
use Rattle.plan.specs.declared.ChannelId.{ChannelId}
use Rattle.rules.specs.declared.step.Step.{Step}
use Rattle.rules.specs.declared.step.Report.{Report}
use Rattle.rules.specs.declared.system.System.{System}
use Rattle.rules.specs.Answers.{is_accepted}
use Rattle.rules.specs.Steps.{step_answer, step, steps, received_on}
use Rattle.rules.specs.Trace.{step_lines, over_lines, end_line}
use Rattle.rules.specs.StepFiles.{file_steps, start_of, text, run_file_answer, run_file_text}

-- the lines of the steps, without those behind them
abbrev pub lines_of : System → List Step → List (List ℕ)
lines_of r ss = step_lines 0 (steps r ss).reports

-- the text of those behind them: the lines of the marked tasks, and the last
abbrev pub last_text : System → List ℕ
last_text r = text (over_lines r) ++ end_line r

-- the lines of the steps ss, and of ss with further steps behind them: there is a line a step, the first lines are the same, and so are their bytes
pub record LinesStay (r : System) (ss more : List Step) : Type 0 where
  pub number : length (lines_of r ss) ≡ length ss
  pub line : (k : ℕ) → k < length ss → get_or (lines_of r (ss ++ more)) k [] ≡ get_or (lines_of r ss) k []
  pub bytes : Beginning (text (lines_of r ss)) (text (lines_of r (ss ++ more)))

-- `trace_of_prefix`: of any rig, and so of the start of every plan on every number of desks
abbrev pub TraceOfPrefix : Type 0
TraceOfPrefix = (r : System) (ss more : List Step) → LinesStay r ss more

-- the run of step file a, and of a with the bytes `more` behind it, into two outputs: the lines of the first file's steps are a beginning of the
-- second trace
pub record FileGrows (n : ℕ) (p a more out later : List ℕ) : Type 0 where
  pub number : length (lines_of (start_of n p) (file_steps a)) ≡ length a / 4
  pub trace : run_file_text n p a out ≡ text (lines_of (start_of n p) (file_steps a)) ++ last_text (steps (start_of n p) (file_steps a)).system
  pub bytes : Beginning (text (lines_of (start_of n p) (file_steps a))) (run_file_text n p (a ++ more) later)

-- `trace_of_prefix` of step files: both runs are answered 0, so that both files are within the limits and hold whole steps
abbrev pub FileOfPrefix : Type 0
FileOfPrefix =
    (n : ℕ) (p a more out later : List ℕ) → run_file_answer n p a out ≡ Ok tt → run_file_answer n p (a ++ more) later ≡ Ok tt
    → FileGrows n p a more out later

-- one step s between others, and the same steps without it: the rig is the same in the end, and so are the other steps' answers and words. `q` is
-- the report of s, `later` those of the steps behind it
pub record LeftOut (r : System) (before : List Step) (s : Step) (behind : List Step) : Type 0 where
  pub q : Report
  pub later : List Report
  pub nothing : q.received ≡ None
  pub with : (steps r (before ++ (s ∷ behind))).reports ≡ (steps r before).reports ++ (q ∷ later)
  pub without : (steps r (before ++ behind)).reports ≡ (steps r before).reports ++ later
  pub system : (steps r (before ++ behind)).system ≡ (steps r (before ++ (s ∷ behind))).system

-- `refused_steps_left_out`: the step is refused where it stands
abbrev pub RefusedLeftOut : Type 0
RefusedLeftOut =
    (r : System) (before : List Step) (s : Step) (behind : List Step) → is_accepted (step_answer (steps r before).system s) ≡ false
    → LeftOut r before s behind

-- the accepted steps of a list, on the rigs of `steps`
unfoldable pub accepted_steps : System → List Step → List Step
accepted_steps r [] = []
accepted_steps r (s ∷ ss) =
    let more = accepted_steps (step r s).system ss in
    pick (is_accepted (step_answer r s)) (s ∷ more) more

-- every refused step left out at once: all that are left are accepted, and rig and received words are the same
pub record RefusedOut (r : System) (ss : List Step) : Type 0 where
  pub answers : every (λ q. is_accepted q.answer) (steps r (accepted_steps r ss)).reports ≡ true
  pub received : (c : ChannelId) → received_on c (steps r (accepted_steps r ss)).reports ≡ received_on c (steps r ss).reports
  pub system : (steps r (accepted_steps r ss)).system ≡ (steps r ss).system

abbrev pub AllRefusedLeftOut : Type 0
AllRefusedLeftOut = (r : System) (ss : List Step) → RefusedOut r ss
