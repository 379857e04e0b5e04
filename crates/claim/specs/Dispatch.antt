-- "What it does is a run of ordinary steps, so demand 3 still holds". Said of the definitions of `rules`, of the statement and of lists of events
-- alone.
use Rattle.std.specs.Prelude.{◌≡◌, true, false, not, ◌||◌, List, ◌≢◌, ℕ, ◌+◌, ◌*◌, ◌≤◌, Ok, Err}
use Rattle.base.specs.Choice.{within}
use Rattle.base.specs.Lists.{every}
use Rattle.base.specs.Beginnings.{Beginning}
use Rattle.plan.specs.declared.Plan.{Plan}
use Rattle.plan.specs.declared.TaskId.{TaskId}
use Rattle.plan.specs.declared.ProcessorId.{ProcessorId}
use Rattle.plan.specs.declared.ChannelId.{ChannelId}
use Rattle.plan.specs.Programs.{programs}
use Rattle.plan.specs.Refusals.{plan_answer}
use Rattle.rules.specs.declared.step.Step.{Step}
use Rattle.rules.specs.declared.step.StepRefusal.TheVariants.{BadSystem}
use Rattle.rules.specs.declared.system.System.{System}
use Rattle.rules.specs.Answers.{is_accepted}
use Rattle.rules.specs.Systems.{with_chosen}
use Rattle.rules.specs.Starts.{started}
use Rattle.rules.specs.Steps.{is_run, is_deliver, is_move, step_answer, steps, quiescent, received_on}
use Rattle.rules.specs.Dispatch.{choosing, dispatched}
use Rattle.claim.specs.Statement.{none_wasted, accepted_of, any_step, from, answered_nine, not_executed, Rests, SameTask}
use Rattle.claim.specs.Events.{Event, returned, happened, mixed}

-- a call leaves what the steps that it returns leave, but for desk d's last choice, and they are reported as there
pub record CallRuns (r : System) (d : ProcessorId) : Type 0 where
  pub last : ℕ
  pub system : (dispatched r d).system ≡ choosing (steps r (returned (dispatched r d)).steps).system d last
  pub reports : (returned (dispatched r d)).reports ≡ (steps r (returned (dispatched r d)).steps).reports

-- `call_is_a_run`: of every rig, whether 9 refuses it or not, and every desk, in the rig or not
abbrev pub CallIsARun : Type 0
CallIsARun = (r : System) (d : ProcessorId) → CallRuns r d

-- a list of events leaves what the steps made in it leave, but for the last choices
pub record EventsRun (r : System) (es : List Event) : Type 0 where
  pub system : (happened r es).system ≡ with_chosen (steps r (happened r es).steps).system (happened r es).system.chosen
  pub reports : (happened r es).reports ≡ (steps r (happened r es).steps).reports

-- `events_are_a_run`: of every rig
abbrev pub EventsAreARun : Type 0
EventsAreARun = (r : System) (es : List Event) → EventsRun r es

-- demand 3 of a list of events; its clauses are those of `Demand3`, where each is set beside its sentence
pub record MixedDemand3 (n : ℕ) (p : Plan) (es : List Event) : Type 0 where
  -- (a) of every step, and of every further call
  pub no_nine : every (λ q. not (answered_nine q)) (mixed n p es).reports ≡ true
  pub no_call_nine : (d : ProcessorId) → (dispatched (mixed n p es).system d).answer ≢ Err BadSystem
  pub none_wasted_lem : none_wasted (started n p) (mixed n p es).steps ≡ true
  -- (b)
  pub beginning : (ts : List Step) → Rests p ts → (c : ChannelId)
      → Beginning (received_on c (mixed n p es).reports) (received_on c (from 1 p ts).reports)
  -- (c)
  pub same_words : quiescent (mixed n p es).system ≡ true → (ts : List Step) → Rests p ts → (c : ChannelId)
      → received_on c (mixed n p es).reports ≡ received_on c (from 1 p ts).reports
  pub same_tasks : quiescent (mixed n p es).system ≡ true → (ts : List Step) → Rests p ts → (t : TaskId) → within 1 p.tasks t.0 ≡ true
      → SameTask (mixed n p es).system (from 1 p ts).system t
  -- (d) for every list us of further events, of the steps made in it
  pub few_steps : (us : List Event)
      → let r = (mixed n p es).system in
      accepted_of is_move r (happened r us).steps ≡ 0
      → accepted_of any_step r (happened r us).steps ≤ 10 * (not_executed n p (mixed n p es).steps + r.network.used)
  -- (e)
  pub rest_refuses : quiescent (mixed n p es).system ≡ true → (s : Step) → (is_run s || is_deliver s) ≡ true
      → is_accepted (step_answer (mixed n p es).system s) ≡ false
  pub refuses_rest : ((s : Step) → (is_run s || is_deliver s) ≡ true → is_accepted (step_answer (mixed n p es).system s) ≡ false)
      → quiescent (mixed n p es).system ≡ true

-- `mixed_demand_3`: for every accepted plan, 1 to 6 desks and every list of steps and calls
abbrev pub MixedClaim : Type 0
MixedClaim = (n : ℕ) (p : Plan) (es : List Event) → 1 ≤ n → n ≤ 6 → plan_answer (programs p) ≡ Ok tt → MixedDemand3 n p es
