-- A call of a desk's dispatcher on what is lent: what its two turns leave, of whatever rig was lent.
use Rattle.std.specs.Prelude.{◌≡◌, ◌≢◌, true, List, ℕ, ◌≤◌, None, Ok, Err}
use Rattle.base.specs.Choice.{pick}
use Rattle.plan.specs.declared.ProcessorId.{ProcessorId}
use Rattle.plan.specs.Programs.{programs}
use Rattle.plan.specs.Refusals.{plan_answer}
use Rattle.plan_value.specs.Slots.{plan_in}
use Rattle.rules.specs.declared.dispatch.Dispatched.{Dispatched}
use Rattle.rules.specs.Reports.{Turn}
use Rattle.rules.specs.declared.message.Message.{Message}
use Rattle.rules.specs.declared.message.Network.{Network}
use Rattle.rules.specs.declared.step.Report.{Report}
use Rattle.rules.specs.declared.step.Step.{Step}
use Rattle.rules.specs.Answers.{StepAnswer}
use Rattle.rules.specs.declared.step.StepRefusal.TheVariants.{BadSystem}
use Rattle.rules.specs.declared.system.System.{System}
use Rattle.rules.specs.Networks.{messages, message_at}
use Rattle.rules.specs.Steps.{step}
use Rattle.rules.specs.Dispatch.{Turned, earliest, delivery_turn, run_turn, dispatched, undispatched}
use Rattle.rules.specs.Answers.{is_accepted}
use Rattle.board.specs.declared.act.Size.{Size}
use Rattle.board.specs.Lent.{Lent}
use Rattle.rig_step.specs.Acts.{numbers_of, Delivers}
use Rattle.dispatch.specs.Boards.{On}
use Rattle.image.specs.Image.{rig_of, is_image}
use Rattle.image_laws.specs.Held.{MailFits}
use Rattle.rig_write.specs.Mail.{MailIn}
use Rattle.live_rig.specs.declared.desk_call.Call.{Call}
use Rattle.image.specs.Live.{held, Left}
use Rattle.live_rig.specs.Turns.{Holds}

-- a rig of the plan of these slots is on what is lent, and its mail in bytes; its sends are numbered where a step needs it
pub record RigLive (lengths codes users : List ℕ) (n : Size) (l : Lent) (mail last : List ℕ) (r : System) : Type 0 where
  pub on : On codes (numbers_of n.tasks lengths codes) users n r.network l last r
  pub mail_in_lem : MailIn mail r.network
  pub fits : MailFits r.network
  pub used : n.used ≡ r.network.used

-- so large, with so many letters
abbrev pub sized : Size → ℕ → Size
sized n used = record { tasks = n.tasks; processors = n.processors; used = used }

-- some rig is, of a plan that 2 to 6 do not refuse
pub record SomeLive (lengths codes users : List ℕ) (n : Size) (l : Lent) (mail last : List ℕ) : Type 0 where
  pub accepted : plan_answer (programs (plan_in n.tasks lengths codes)) ≡ Ok tt
  pub system : System
  pub on : RigLive lengths codes users n l mail last system

-- a step can be made, with this letter
pub record Makes (lengths codes users : List ℕ) (n : Size) (l : Lent) (mail : List ℕ) (m : Message) (s : Step) : Type 0 where
  pub last : List ℕ
  pub some : SomeLive lengths codes users n l mail last
  pub letter : Delivers n some.system.network m s

-- what it says, and the rig then, of whatever rig it was made
pub record StepLeft (lengths codes users : List ℕ) (n : Size) (r : System) (s : Step) (q : Report) (used : ℕ) (l : Lent) (mail last : List ℕ) : Type 0 where
  pub report : q ≡ (step r s).report
  pub on : RigLive lengths codes users (sized n used) l mail last (step r s).system

abbrev pub MadeOn : List ℕ → List ℕ → List ℕ → Size → Message → Step → Lent → List ℕ → Report → ℕ → Lent → List ℕ → Type 0
MadeOn lengths codes users n m s l mail q used l' mail' =
    (last : List ℕ) (r : System) → RigLive lengths codes users n l mail last r → Delivers n r.network m s → StepLeft lengths codes users n r s q used l' mail' last

-- the turn, and the rig then
pub record TurnLeft (lengths codes users : List ℕ) (n : Size) (o : Turned) (t : Turn) (used : ℕ) (l : Lent) (mail last : List ℕ) : Type 0 where
  pub turn : t ≡ o.turn
  pub on : RigLive lengths codes users (sized n used) l mail last o.system

-- m is the letter at position p, if p is not 0
abbrev pub LetterAt : Network → ℕ → Message → Type 0
LetterAt k p m = p ≢ 0 → m ≡ message_at k p

-- the letter at position p can be delivered
pub record Takes (lengths codes users : List ℕ) (n : Size) (l : Lent) (mail : List ℕ) (m : Message) (p : ℕ) : Type 0 where
  pub last : List ℕ
  pub some : SomeLive lengths codes users n l mail last
  pub letter : LetterAt some.system.network p m

abbrev pub DeliveredOn : List ℕ → List ℕ → List ℕ → Size → Message → ℕ → Lent → List ℕ → Turn → ℕ → Lent → List ℕ → Type 0
DeliveredOn lengths codes users n m p l mail t used l' mail' =
    (last : List ℕ) (r : System) (d : ProcessorId) → RigLive lengths codes users n l mail last r → LetterAt r.network p m → p ≡ earliest d (messages r.network)
    → TurnLeft lengths codes users n (delivery_turn r d) t used l' mail' last

-- desk d can run a task
pub record Runs (lengths codes users : List ℕ) (n : Size) (l : Lent) (mail last : List ℕ) (d : ProcessorId) : Type 0 where
  pub some : SomeLive lengths codes users n l mail last
  pub first : 1 ≤ d.0
  pub most : d.0 ≤ 6

abbrev pub RanOn : List ℕ → List ℕ → List ℕ → Size → ProcessorId → Lent → List ℕ → List ℕ → Turn → ℕ → Lent → List ℕ → List ℕ → Type 0
RanOn lengths codes users n d l mail last t used l' mail' last' =
    (r : System) → RigLive lengths codes users n l mail last r → TurnLeft lengths codes users n (run_turn r d) t used l' mail' last'

-- both turns can be made
pub record TakesTurns (lengths codes users : List ℕ) (n : Size) (l : Lent) (mail : List ℕ) (m : Message) (p : ℕ) (last : List ℕ) (d : ProcessorId) : Type 0 where
  pub runs : Runs lengths codes users n l mail last d
  pub letter : LetterAt runs.some.system.network p m
  pub position : p ≡ earliest d (messages runs.some.system.network)

-- what both leave
pub record TurnsLeft (lengths codes users : List ℕ) (n : Size) (r : System) (d : ProcessorId) (t t' : Turn) (used : ℕ) (l : Lent) (mail last : List ℕ) : Type 0 where
  pub delivery : t ≡ (delivery_turn r d).turn
  pub run : TurnLeft lengths codes users n (run_turn (delivery_turn r d).system d) t' used l mail last

abbrev pub TurnsOn : List ℕ → List ℕ → List ℕ → Size → Message → ℕ → ProcessorId → Lent → List ℕ → List ℕ → Turn → Turn → ℕ → Lent → List ℕ → List ℕ → Type 0
TurnsOn lengths codes users n m p d l mail last t t' used l' mail' last' =
    (r : System) → RigLive lengths codes users n l mail last r → LetterAt r.network p m → p ≡ earliest d (messages r.network)
    → TurnsLeft lengths codes users n r d t t' used l' mail' last'

-- a refused call makes no step
abbrev pub no_call : StepAnswer → Call
no_call a = record { answer = a; delivery = None; run = None }

-- a call at desk d of the rig that the bytes hold
abbrev pub call_in : List ℕ → ProcessorId → Dispatched
call_in b d = pick (is_image b) (dispatched (rig_of b) d) (undispatched (rig_of b) (Err BadSystem))

-- what it says, and the bytes then
pub record CalledIn (b : List ℕ) (d : ProcessorId) (q : Call) (b' : List ℕ) : Type 0 where
  pub answer : q.answer ≡ (call_in b d).answer
  pub delivery : q.delivery ≡ (call_in b d).delivery
  pub run : q.run ≡ (call_in b d).run
  pub refused : is_accepted q.answer ≢ true → b' ≡ b
  pub accepted : is_accepted q.answer ≡ true → Holds (call_in b d).system b'

-- the same of a rig that other bytes may follow
pub record CalledHeld (b : List ℕ) (d : ProcessorId) (q : Call) (b' : List ℕ) : Type 0 where
  pub answer : q.answer ≡ (call_in (held b) d).answer
  pub delivery : q.delivery ≡ (call_in (held b) d).delivery
  pub run : q.run ≡ (call_in (held b) d).run
  pub refused : is_accepted q.answer ≢ true → b' ≡ b
  pub accepted : is_accepted q.answer ≡ true → Left b (call_in (held b) d).system b'
