-- One step, a list of steps, and the report of rest.
use Rattle.std.specs.Prelude.{Bool, not, ◌&&◌, List, [], ◌∷◌, ◌++◌, ℕ, eqb, None, Some, Ok, Err}
use Rattle.base.specs.Choice.{pick, unless}
use Rattle.base.specs.Range.{up_to}
use Rattle.plan.specs.declared.ChannelId.{ChannelId}
use Rattle.plan.specs.declared.Word.{Word as WordOf}
use Rattle.rules.specs.Reports.{Received}
use Rattle.rules.specs.declared.step.Step.{Step}
use Rattle.rules.specs.Answers.{StepAnswer}
use Rattle.rules.specs.declared.step.StepRefusal.TheVariants.{BadSystem, BadStep}
use Rattle.rules.specs.declared.step.Report.{Report}
use Rattle.rules.specs.declared.step.Stepped.{Stepped}
use Rattle.rules.specs.declared.system.System.{System}
use Rattle.rules.specs.Numbers.{task_id, processor_id, same_channel}
use Rattle.rules.specs.Answers.{is_accepted}
use Rattle.rules.specs.Effects.{Effect, completed}
use Rattle.rules.specs.Runs.{ran, run_answer}
use Rattle.rules.specs.Deliver.{delivered, deliver_answer}
use Rattle.rules.specs.Moves.{moved, move_answer}
use Rattle.rules.specs.Sound.{system_ok}

-- "kind (1 run, 2 deliver, 3 move)"
abbrev pub is_run : Step → Bool
is_run s = eqb s.kind 1

abbrev pub is_deliver : Step → Bool
is_deliver s = eqb s.kind 2

abbrev pub is_move : Step → Bool
is_move s = eqb s.kind 3

-- one of three, by the kind of a step
abbrev pub by_kind : {A : Type 0} → Step → A → A → A → A
by_kind s run deliver move = pick (is_run s) run (pick (is_deliver s) deliver move)

-- "19, kind not 1..3 or an unused field not zero": "Run: number 0. Deliver: task 0, number the position. Move: number the desk."
unfoldable pub well_formed : Step → Bool
well_formed s = by_kind s (eqb s.number 0) (eqb s.task 0) (is_move s)

-- the answer of a rig that 9 does not refuse to a step that 19 does not refuse
unfoldable pub kind_answer : System → Step → StepAnswer
kind_answer r s =
    by_kind s
    (run_answer r (task_id s.task))
    (deliver_answer r s.number)
    (move_answer r (task_id s.task) (processor_id s.number))

-- "Step: 9, ..; 19, .. Then run: .. Deliver: .. Move: .."
unfoldable pub ruled_answer : System → Step → StepAnswer
ruled_answer r s = unless (well_formed s) (Err BadStep) (kind_answer r s)

unfoldable pub step_answer : System → Step → StepAnswer
step_answer r s = unless (system_ok r) (Err BadSystem) (ruled_answer r s)

-- what an accepted step does
unfoldable pub performed : System → Step → Effect
performed r s =
    by_kind s
    (ran r (task_id s.task))
    (delivered r s.number)
    (moved r (task_id s.task) (processor_id s.number))

-- a refused step: "The rig stays as it was."
abbrev pub refused : System → StepAnswer → Stepped
refused r a = record { report = record { answer = a; received = None }; system = r }

abbrev pub accepted : Effect → Stepped
accepted e = record { report = record { answer = Ok tt; received = e.received }; system = completed e }

-- a step that is answered a
unfoldable pub answered : System → Step → StepAnswer → Stepped
answered r s a = unless (is_accepted a) (refused r a) (accepted (performed r s))

-- one step; and one step of a rig that 9 does not refuse
unfoldable pub step : System → Step → Stepped
step r s = answered r s (step_answer r s)

unfoldable pub ruled_step : System → Step → Stepped
ruled_step r s = answered r s (ruled_answer r s)

-- a run of task t, a delivery of the letter at position p, a move of task t to desk d
abbrev pub run_step : ℕ → Step
run_step t = record { kind = 1; task = t; number = 0 }

abbrev pub deliver_step : ℕ → Step
deliver_step p = record { kind = 2; task = 0; number = p }

abbrev pub move_step : ℕ → ℕ → Step
move_step t d = record { kind = 3; task = t; number = d }

-- "At rest: the mail is empty and, by the conditions above and not by the core's word, no run step would be accepted."
unfoldable pub quiescent : System → Bool
quiescent r = eqb r.network.used 0 && up_to r.plan.tasks (λ t. not (is_accepted (step_answer r (run_step t))))

-- what a list of steps gives: a report for each, and the rig then. "the first gets the rig .., each next the rig that the last left"
pub record History : Type 0 where
  pub reports : List Report
  pub system : System

unfoldable pub steps_by : (System → Step → Stepped) → System → List Step → History
steps_by one r [] = record { reports = []; system = r }
steps_by one r (s ∷ ss) =
    let o = one r s in
    let h = steps_by one o.system ss in
    record { reports = o.report ∷ h.reports; system = h.system }

abbrev pub steps : System → List Step → History
steps r ss = steps_by step r ss

abbrev pub ruled_steps : System → List Step → History
ruled_steps r ss = steps_by ruled_step r ss

-- "A channel's received words are those passed directly or taken from a word letter on it, in order, just as the steps' trace lines report"
unfoldable pub word_on : ChannelId → Received → List WordOf
word_on c None = []
word_on c (Some (e, w)) = pick (same_channel e c) (w ∷ []) []

unfoldable pub received_on : ChannelId → List Report → List WordOf
received_on c [] = []
received_on c (q ∷ qs) = word_on c q.received ++ received_on c qs
