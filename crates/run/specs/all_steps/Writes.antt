-- Lines written into a lent output, as far as they fit, and steps carried out one after the other.
use Rattle.std.specs.Prelude.{◌≡◌, Bool, List, [], ◌∷◌, ◌++◌, ℕ, ◌+◌, ◌≤◌, leb, eqb, length, drop, get_or, set}
use Rattle.base.specs.Choice.{pick}
use Rattle.rules.specs.declared.message.Network.{Network}
use Rattle.rules.specs.declared.step.Step.{Step}
use Rattle.rules.specs.declared.step.Report.{Report}
use Rattle.rules.specs.declared.system.TaskTable.{TaskTable}
use Rattle.rig_parts.specs.declared.kept.Kept.{Kept}
use Rattle.rules.specs.Trace.{step_lines}
use Rattle.rules.specs.StepFiles.{text, fitting, file_steps}
use Rattle.rig_parts.specs.Facts.{Facts}
use Rattle.rig_parts.specs.Turns.{turn_of}
use Rattle.board.specs.Lent.{Lent, Whole, tasks_of, kept_of}

-- as many whole lines as fit: how many bytes are filled, whether all fit, and the output then
pub record Written (lines : List (List ℕ)) (before : List ℕ) (filled : ℕ) (whole : Bool) (after : List ℕ) : Type 0 where
  pub count : filled ≡ length (fitting (length before) lines)
  pub all : whole ≡ leb (length (text lines)) (length before)
  pub bytes : after ≡ fitting (length before) lines ++ drop (length (fitting (length before) lines)) before

-- steps on the parts of a rig: their reports, and the parts then
pub record Turns : Type 0 where
  pub reports : List Report
  pub tasks : TaskTable
  pub network : Network
  pub kept : Kept

unfoldable pub turns_of : Facts → ℕ → TaskTable → Network → Kept → List Step → Turns
turns_of f n ts k s [] = record { reports = []; tasks = ts; network = k; kept = s }
turns_of f n ts k s (x ∷ xs) =
    let t = turn_of f n ts k s x in
    let h = turns_of f n t.tasks t.network t.kept xs in
    record { reports = t.report ∷ h.reports; tasks = h.tasks; network = h.network; kept = h.kept }

-- so many bytes are filled, and whether every line fitted, by a progress
abbrev pub filled_by : List ℕ → ℕ
filled_by progress = get_or progress 0 0

abbrev pub whole_by : List ℕ → Bool
whole_by progress = eqb (get_or progress 1 0) 0

abbrev pub WrittenBy : List (List ℕ) → List ℕ → List ℕ → List ℕ → Type 0
WrittenBy lines before progress after = Written lines before (filled_by progress) (whole_by progress) after

-- the progress after a line of which so many bytes were written, none where it did not fit
abbrev pub noted : List ℕ → ℕ → List ℕ
noted progress written = pick (eqb written 0) (set progress 1 1) (set progress 0 (filled_by progress + written))

-- more lines, behind whatever lines were written before them, as far as they fit
pub record LinesNext (ls : List (List ℕ)) (progress out progress' out' : List ℕ) : Type 0 where
  pub long : length progress' ≡ length progress
  pub kept : length out' ≡ length out
  pub room : filled_by progress ≤ length out → filled_by progress' ≤ length out'
  pub more : (lines : List (List ℕ)) (before : List ℕ) → WrittenBy lines before progress out → WrittenBy (lines ++ ls) before progress' out'

-- one line more
abbrev pub LineNext : List ℕ → List ℕ → List ℕ → List ℕ → List ℕ → Type 0
LineNext line progress out progress' out' = LinesNext (line ∷ []) progress out progress' out'

-- the steps are carried out, and their lines written as far as they fit
pub record RanTo (h : Turns) (before : List ℕ) (ts : TaskTable) (k : Network) (s : Kept) (progress after : List ℕ) : Type 0 where
  pub lines : WrittenBy (step_lines 0 h.reports) before progress after
  pub two : length progress ≡ 2
  pub tasks : ts ≡ h.tasks
  pub network : k ≡ h.network
  pub kept : s ≡ h.kept

-- the same of the steps of a file, with what is lent before and after them; the board has all its numbers
abbrev pub RanOn : Facts → ℕ → Lent → Network → List ℕ → List ℕ → Lent → Network → List ℕ → List ℕ → Type 0
RanOn f n l k steps before l' k' progress after =
    RanTo (turns_of f n (tasks_of l) k (kept_of l) (file_steps steps)) before (tasks_of l') k' (kept_of l') progress after × Whole l'.board
