-- "Demand 3 of live use": "for every sequence of calls of step and dispatch on one image that `mortarsedge_start` wrote and nobody else touched,
-- demand 3 holds of the steps made". Said of what the contracts of the three calls promise, and of the definitions of `claim` alone.
use Rattle.std.specs.Prelude.{◌≡◌, Bool, true, List, [], ◌∷◌, ◌++◌, ℕ, leb, length}
use Rattle.base.specs.Choice.{pick}
use Rattle.plan.specs.declared.Plan.{Plan}
use Rattle.plan.specs.Outcomes.{plan_read}
use Rattle.rules.specs.declared.step.Report.{Report}
use Rattle.rules.specs.Numbers.{processor_id}
use Rattle.claim.specs.Events.{Event, ordinary, call, mixed}
use Rattle.claim.specs.Dispatch.{MixedDemand3}
use Rattle.image.specs.Image.{rig_of, is_image}
use Rattle.image.specs.Live.{held, StartMeets, step_given, live_step, StepMeets, byte_given, live_dispatch, made_reports, dispatch_room, DispatchMeets}

-- a call of step, by its three numbers, or of dispatch, by its desk
pub data LiveCall : Type 0 where
  press : ℕ → ℕ → ℕ → LiveCall
  ask : ℕ → LiveCall

-- such a call was made: whether there was room for its words, which it answers by 20 where there was none, and the bytes of the rig then
pub record Made : Type 0 where
  pub made : LiveCall
  pub room : Bool
  pub after : List ℕ

-- on the bytes before, it met what is promised of it, whatever was lent for its words
pub record PressMeets (before : List ℕ) (kind task number : ℕ) (room : Bool) (after : List ℕ) : Type 0 where
  pub word : List ℕ
  pub answer : ℕ
  pub word' : List ℕ
  pub enough : room ≡ leb 10 (length word)
  pub meets : StepMeets before (step_given kind task number) word answer after word'

pub record AskMeets (before : List ℕ) (d : ℕ) (room : Bool) (after : List ℕ) : Type 0 where
  pub steps : List ℕ
  pub records : List ℕ
  pub answer : ℕ
  pub steps' : List ℕ
  pub records' : List ℕ
  pub enough : room ≡ dispatch_room steps records
  pub meets : DispatchMeets before d steps records answer after steps' records'

unfoldable pub MeetsBy : List ℕ → LiveCall → Bool → List ℕ → Type 0
MeetsBy before (press kind task number) room after = PressMeets before kind task number room after
MeetsBy before (ask d) room after = AskMeets before d room after

-- "a sequence of calls .. on one image that .. nobody else touched": each finds the bytes that the one before it left
unfoldable pub Played : List ℕ → List Made → Type 0
Played b [] = b ≡ b
Played b (x ∷ xs) = MeetsBy b x.made x.room x.after × Played x.after xs

-- the bytes after all of them
unfoldable pub last_of : List ℕ → List Made → List ℕ
last_of b [] = b
last_of b (x ∷ xs) = last_of x.after xs

-- the steps and calls of desks that they are
unfoldable pub event_of : LiveCall → Event
event_of (press kind task number) = ordinary (step_given kind task number)
event_of (ask d) = call (processor_id (byte_given d))

unfoldable pub events_of : List Made → List Event
events_of [] = []
events_of (x ∷ xs) = pick x.room (event_of x.made ∷ []) [] ++ events_of xs

-- the reports that the contracts give the callers
unfoldable pub reports_by : List ℕ → LiveCall → List Report
reports_by b (press kind task number) = (live_step b (step_given kind task number)).report ∷ []
reports_by b (ask d) = made_reports (live_dispatch b d)

unfoldable pub reports_of : List ℕ → List Made → List Report
reports_of b [] = []
reports_of b (x ∷ xs) = pick x.room (reports_by b x.made) [] ++ reports_of x.after xs

-- of a plan on n desks and calls on the bytes b: the callers are given the reports of these events, the bytes are an image of the rig that the events
-- leave, and demand 3 holds of them
pub record LiveDemand3 (n : ℕ) (p : Plan) (b : List ℕ) (xs : List Made) : Type 0 where
  pub reports : reports_of b xs ≡ (mixed n p (events_of xs)).reports
  pub image : is_image (held (last_of b xs)) ≡ true
  pub rig : rig_of (held (last_of b xs)) ≡ (mixed n p (events_of xs)).system
  pub demand : MixedDemand3 n p (events_of xs)

-- `live_demand_3`: for every plan file that start accepts, every number of desks that it accepts, and every sequence of calls
abbrev pub LiveClaim : Type 0
LiveClaim =
    (n : ℕ) (plan before b : List ℕ) (xs : List Made) → StartMeets n plan before 0 b → Played b xs → LiveDemand3 n (plan_read plan).plan b xs
