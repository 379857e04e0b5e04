-- The dispatcher of a desk: one call, and a list of steps and calls.
use Rattle.std.specs.Prelude.{List, [], ◌∷◌, ℕ, zero, suc, ◌-◌, eqb, set, None, Some, Ok, Err}
use Rattle.base.specs.Choice.{pick, unless}
use Rattle.base.specs.Sets.{member}
use Rattle.plan.specs.declared.ProcessorId.{ProcessorId}
use Rattle.rules.specs.declared.message.Message.{Message}
use Rattle.rules.specs.declared.message.Message.TheVariants.{Empty, Offered, Advert, ReadyToReceive, Data, Terminated, Migration}
use Rattle.rules.specs.declared.step.Step.{Step}
use Rattle.rules.specs.Answers.{StepAnswer}
use Rattle.rules.specs.declared.step.StepRefusal.TheVariants.{BadSystem, NoProcessor}
use Rattle.rules.specs.declared.step.Report.{Report}
use Rattle.rules.specs.Reports.{Turn}
use Rattle.rules.specs.declared.dispatch.Dispatched.{Dispatched}
use Rattle.rules.specs.declared.system.System.{System}
use Rattle.rules.specs.Numbers.{no_processor, same_processor, processor_ok}
use Rattle.rules.specs.Networks.{messages}
use Rattle.rules.specs.Systems.{ready_at, chosen_at, with_chosen}
use Rattle.rules.specs.Sound.{system_ok}
use Rattle.rules.specs.Steps.{step, run_step}
pub use Rattle.rules.specs.Steps.{deliver_step}

-- the desk that a letter is addressed to
unfoldable pub addressee : Message → ProcessorId
addressee Empty = no_processor
addressee (Offered c o h) = h.processor
addressee (Advert c d from) = d
addressee (ReadyToReceive c d h) = d
addressee (Data c d w) = d
addressee (Terminated h t) = h.processor
addressee (Migration d t) = d

-- "the earliest letter addressed to the desk, if there is one": its position from 1, or 0
unfoldable pub earliest : ProcessorId → List Message → ℕ
earliest d [] = 0
earliest d (m ∷ ms) =
    let p = earliest d ms in
    pick (same_processor (addressee m) d) 1 (pick (eqb p 0) 0 (suc p))

-- the first of the n numbers from t on that is in the set s, or 0
unfoldable pub first_from : ℕ → ℕ → ℕ → ℕ
first_from zero t s = 0
first_from (suc n) t s = pick (member t s) t (first_from n (suc t) s)

-- "the next ready task after the last one chosen, by number and round again": of tasks 1 .. m, last + 1 .. m and then 1 .. last; or 0
unfoldable pub next_ready : ℕ → ℕ → ℕ → ℕ
next_ready m last s =
    let t = first_from (m - last) (suc last) s in
    pick (eqb t 0) (first_from last 1 s) t

-- a call gives this turn, if it makes one, and the rig then
pub record Turned : Type 0 where
  pub turn : Turn
  pub system : System

-- an ordinary step is made, whatever its answer
abbrev pub made : System → Step → Turned
made r s = record { turn = Some (s, (step r s).report); system = (step r s).system }

abbrev pub skipped : System → Turned
skipped r = record { turn = None; system = r }

-- "first delivers the earliest letter addressed to the desk, if there is one"
unfoldable pub delivery_turn : System → ProcessorId → Turned
delivery_turn r d =
    let p = earliest d (messages r.network) in
    pick (eqb p 0) (skipped r) (made r (deliver_step p))

-- the task that desk d's dispatcher chooses in the rig r, or 0
unfoldable pub choice : System → ProcessorId → ℕ
choice r d = next_ready r.plan.tasks (chosen_at r d) (ready_at r d)

-- desk d's last choice becomes t
abbrev pub choosing : System → ProcessorId → ℕ → System
choosing r d t = with_chosen r (set r.chosen (d.0 - 1) t)

-- "then runs the next ready task after the last one chosen"; "A refused run uses the turn."
unfoldable pub run_turn : System → ProcessorId → Turned
run_turn r d =
    let t = choice r d in
    pick (eqb t 0) (skipped r) (made (choosing r d t) (run_step t))

-- a call at desk d of a rig that has this desk and is not refused
unfoldable pub ruled_dispatch : System → ProcessorId → Dispatched
ruled_dispatch r d =
    let a = delivery_turn r d in
    let b = run_turn a.system d in
    record { answer = Ok tt; delivery = a.turn; run = b.turn; system = b.system }

-- "It refuses a rig by 9, .. then a desk outside the rig by 15, and changes nothing."
abbrev pub undispatched : System → StepAnswer → Dispatched
undispatched r a = record { answer = a; delivery = None; run = None; system = r }

unfoldable pub dispatched : System → ProcessorId → Dispatched
dispatched r d =
    unless (system_ok r) (undispatched r (Err BadSystem))
    (unless (processor_ok r.processors d) (undispatched r (Err NoProcessor))
    (ruled_dispatch r d))

-- "it returns those steps, each with answer and received word"
unfoldable pub step_of : Turn → List Step
step_of None = []
step_of (Some (s, q)) = s ∷ []

unfoldable pub report_of : Turn → List Report
report_of None = []
report_of (Some (s, q)) = q ∷ []
