-- What the calls of a live rig answer, and every byte that they leave.
use Rattle.std.specs.Prelude.{◌≡◌, ◌≢◌, Bool, true, ◌&&◌, List, [], ◌∷◌, ◌++◌, ℕ, ◌+◌, ◌*◌, eqb, leb, length, take, drop, replicate, None, Some, Ok, Err}
use Rattle.base.specs.Choice.{pick, unless}
use Rattle.plan.specs.Outcomes.{plan_read, start_number}
use Rattle.plan.specs.Layout.{bytes16}
use Rattle.rules.specs.Reports.{Received}
use Rattle.rules.specs.declared.dispatch.Dispatched.{Dispatched}
use Rattle.rules.specs.declared.step.Report.{Report}
use Rattle.rules.specs.declared.step.Step.{Step}
use Rattle.rules.specs.declared.step.Stepped.{Stepped}
use Rattle.rules.specs.declared.step.StepRefusal.TheVariants.{BadSystem}
use Rattle.rules.specs.declared.system.System.{System}
use Rattle.rules.specs.declared.view.TabletView.{TabletView}
use Rattle.rules.specs.declared.view.DriverView.{DriverView}
use Rattle.rules.specs.Answers.{TabletAnswer, DriverAnswer, is_accepted, step_number}
use Rattle.rules.specs.Logs.{log_record}
use Rattle.rules.specs.Numbers.{task_id, processor_id}
use Rattle.rules.specs.Starts.{started}
use Rattle.rules.specs.Sound.{system_ok}
use Rattle.rules.specs.Steps.{step, refused, quiescent}
use Rattle.rules.specs.Dispatch.{dispatched, undispatched, step_of, report_of}
use Rattle.rules.specs.Panel.{panel}
use Rattle.rules.specs.Views.{tablet_of, driver_of}
use Rattle.board.specs.packing.Packed.{state_number, bit}
use Rattle.image.specs.Numbers.{number_bytes}
use Rattle.image.specs.Image.{image, rig_of, is_image, rig_size}

-- the rig that is lent is the first bytes; those behind them never change
abbrev pub held : List ℕ → List ℕ
held b = take rig_size b

-- "an image that is not canonical .. is answered 9 by every function below": bytes that hold a rig which 9 does not refuse
abbrev pub passes : List ℕ → Bool
passes b = is_image (held b) && system_ok (rig_of (held b))

-- the rig r is in the bytes then, and can be read from them
pub record Left (before : List ℕ) (r : System) (after : List ℕ) : Type 0 where
  pub bytes : after ≡ image r ++ drop rig_size before
  pub image : is_image (held after) ≡ true
  pub rig : rig_of (held after) ≡ r

-- Start: "1 to 6, 20 for a short rig buffer; the image of the start"
pub record StartMeets (n : ℕ) (plan before : List ℕ) (r : ℕ) (after : List ℕ) : Type 0 where
  pub answer : r ≡ pick (eqb (start_number n plan) 0) (pick (leb rig_size (length before)) 0 20) (start_number n plan)
  pub untouched : r ≢ 0 → after ≡ before
  pub rig : r ≡ 0 → Left before (started n (plan_read plan).plan) after

-- a step of three numbers; where they do not fit its four bytes, the step of zeros, which is refused by 19
abbrev pub step_given : ℕ → ℕ → ℕ → Step
step_given kind task number =
    pick (leb kind 255 && (leb task 255 && leb number 65535)) (record { kind = kind; task = task; number = number })
    (record { kind = 0; task = 0; number = 0 })

-- one step of the rig that is lent
unfoldable pub live_step : List ℕ → Step → Stepped
live_step b s = pick (is_image (held b)) (step (rig_of (held b)) s) (refused (rig_of (held b)) (Err BadSystem))

-- "a received word as channel and four levels, the log's record, else zeros"
abbrev pub word_record : Received → List ℕ
word_record None = replicate 10 0
word_record (Some (c, w)) = log_record (Some (c, w))

-- Step: 20 for a short record; else "the step's answer; on acceptance the image is that of the rig then, on refusal not a byte changes"
pub record StepMeets (before : List ℕ) (s : Step) (word : List ℕ) (r : ℕ) (after word' : List ℕ) : Type 0 where
  pub short : leb 10 (length word) ≢ true → (r ≡ 20) × (after ≡ before) × (word' ≡ word)
  pub answer : leb 10 (length word) ≡ true → r ≡ step_number (live_step before s).report.answer
  pub received : leb 10 (length word) ≡ true → word' ≡ word_record (live_step before s).report.received ++ drop 10 word
  pub refused : leb 10 (length word) ≡ true → is_accepted (live_step before s).report.answer ≢ true → after ≡ before
  pub accepted : leb 10 (length word) ≡ true → is_accepted (live_step before s).report.answer ≡ true → Left before (live_step before s).system after

-- a number that no byte holds stands for none: of a desk, of a task
abbrev pub byte_given : ℕ → ℕ
byte_given n = pick (leb n 255) n 0

-- a call at a desk of the rig that is lent
unfoldable pub live_dispatch : List ℕ → ℕ → Dispatched
live_dispatch b d =
    pick (is_image (held b)) (dispatched (rig_of (held b)) (processor_id (byte_given d))) (undispatched (rig_of (held b)) (Err BadSystem))

-- the four bytes of a step, and of a report its answer and its word record
abbrev pub step_bytes : Step → List ℕ
step_bytes s = s.kind ∷ s.task ∷ bytes16 s.number

abbrev pub report_bytes : Report → List ℕ
report_bytes q = step_number q.answer ∷ word_record q.received

unfoldable pub all_step_bytes : List Step → List ℕ
all_step_bytes [] = []
all_step_bytes (s ∷ ss) = step_bytes s ++ all_step_bytes ss

unfoldable pub all_report_bytes : List Report → List ℕ
all_report_bytes [] = []
all_report_bytes (q ∷ qs) = report_bytes q ++ all_report_bytes qs

-- the delivery and the run that a call made
abbrev pub made_steps : Dispatched → List Step
made_steps q = step_of q.delivery ++ step_of q.run

abbrev pub made_reports : Dispatched → List Report
made_reports q = report_of q.delivery ++ report_of q.run

-- what the caller lends for two steps and two reports is enough
abbrev pub dispatch_room : List ℕ → List ℕ → Bool
dispatch_room steps records = leb 8 (length steps) && leb 22 (length records)

-- Dispatch: 20 for short outputs; else the number of the call's answer, and 256 times the number of bytes that its steps take
pub record DispatchMeets (before : List ℕ) (d : ℕ) (steps records : List ℕ) (r : ℕ) (after steps' records' : List ℕ) : Type 0 where
  pub short : dispatch_room steps records ≢ true → (r ≡ 20) × (after ≡ before) × (steps' ≡ steps) × (records' ≡ records)
  pub answer : dispatch_room steps records ≡ true
      → r ≡ step_number (live_dispatch before d).answer + 256 * length (all_step_bytes (made_steps (live_dispatch before d)))
  pub refused : dispatch_room steps records ≡ true → is_accepted (live_dispatch before d).answer ≢ true
      → (after ≡ before) × (steps' ≡ steps) × (records' ≡ records)
  pub accepted : dispatch_room steps records ≡ true → is_accepted (live_dispatch before d).answer ≡ true → Left before (live_dispatch before d).system after
  pub made_steps_lem : dispatch_room steps records ≡ true
      → steps' ≡ all_step_bytes (made_steps (live_dispatch before d)) ++ drop (length (all_step_bytes (made_steps (live_dispatch before d)))) steps
  pub made_records : dispatch_room steps records ≡ true
      → records' ≡ all_report_bytes (made_reports (live_dispatch before d)) ++ drop (length (all_report_bytes (made_reports (live_dispatch before d)))) records

-- Panel: 20 for fewer than 27 numbers, 9, or the 27 counts
abbrev pub panel_number : List ℕ → List ℕ → ℕ
panel_number b counts = unless (leb 27 (length counts)) 20 (unless (passes b) 9 0)

pub record PanelMeets (b counts : List ℕ) (r : ℕ) (counts' : List ℕ) : Type 0 where
  pub answer : r ≡ panel_number b counts
  pub untouched : r ≢ 0 → counts' ≡ counts
  pub shown : r ≡ 0 → counts' ≡ panel (rig_of (held b)) ++ drop 27 counts

-- a tablet's record as 4 bytes, number, state, desk and place; the driver's has behind them the four levels, the children and how many they are
abbrev pub tablet_bytes : TabletView → List ℕ
tablet_bytes v = v.task.0 ∷ state_number v.state ∷ v.processor.0 ∷ v.pc ∷ []

abbrev pub driver_bytes : DriverView → List ℕ
driver_bytes v =
    tablet_bytes v.tablet
    ++ (bytes16 v.word.0 ++ (bytes16 v.word.1 ++ (bytes16 v.word.2 ++ (bytes16 v.word.3 ++ (number_bytes 8 v.children ++ (v.living ∷ []))))))

-- the answer of a view, and the output then
abbrev pub tablet_number : TabletAnswer → ℕ
tablet_number (Ok v) = 0
tablet_number (Err a) = step_number (Err a)

abbrev pub tablet_output : TabletAnswer → List ℕ → List ℕ
tablet_output (Ok v) out = tablet_bytes v ++ drop 4 out
tablet_output (Err a) out = out

abbrev pub driver_number : DriverAnswer → ℕ
driver_number (Ok v) = 0
driver_number (Err a) = step_number (Err a)

abbrev pub driver_output : DriverAnswer → List ℕ → List ℕ
driver_output (Ok v) out = driver_bytes v ++ drop 21 out
driver_output (Err a) out = out

-- the views of a task of the rig that is lent
unfoldable pub live_tablet : List ℕ → ℕ → TabletAnswer
live_tablet b t = pick (is_image (held b)) (tablet_of (rig_of (held b)) (task_id (byte_given t))) (Err BadSystem)

unfoldable pub live_driver : List ℕ → ℕ → DriverAnswer
live_driver b t = pick (is_image (held b)) (driver_of (rig_of (held b)) (task_id (byte_given t))) (Err BadSystem)

-- Views: 20 for a short output; else 9, 10, or the record
pub record TabletMeets (b : List ℕ) (t : ℕ) (out : List ℕ) (r : ℕ) (out' : List ℕ) : Type 0 where
  pub answer : r ≡ pick (leb 4 (length out)) (tablet_number (live_tablet b t)) 20
  pub output : out' ≡ pick (leb 4 (length out)) (tablet_output (live_tablet b t) out) out

pub record DriverMeets (b : List ℕ) (t : ℕ) (out : List ℕ) (r : ℕ) (out' : List ℕ) : Type 0 where
  pub answer : r ≡ pick (leb 21 (length out)) (driver_number (live_driver b t)) 20
  pub output : out' ≡ pick (leb 21 (length out)) (driver_output (live_driver b t) out) out

-- Rest: 9, or 256 where the rig is at rest and 65,536 times the letters in the mail
unfoldable pub rest_answer : List ℕ → ℕ
rest_answer b = unless (passes b) 9 (256 * bit (quiescent (rig_of (held b))) + 65536 * (rig_of (held b)).network.used)
