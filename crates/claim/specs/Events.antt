-- Lists that mix ordinary steps and calls of dispatchers, and what they leave.
use Rattle.std.specs.Prelude.{Bool, false, List, [], ◌∷◌, ◌++◌, ℕ}
use Rattle.plan.specs.declared.Plan.{Plan}
use Rattle.plan.specs.declared.ProcessorId.{ProcessorId}
use Rattle.rules.specs.declared.step.Step.{Step}
use Rattle.rules.specs.declared.step.Report.{Report}
use Rattle.rules.specs.declared.dispatch.Dispatched.{Dispatched}
use Rattle.rules.specs.declared.system.System.{System}
use Rattle.rules.specs.Numbers.{same_processor}
use Rattle.rules.specs.Starts.{started}
use Rattle.rules.specs.Steps.{step}
use Rattle.rules.specs.Dispatch.{dispatched, step_of, report_of}

-- an ordinary step, or a call at a desk
pub data Event : Type 0 where
  ordinary : Step → Event
  call : ProcessorId → Event

-- a call at desk d
unfoldable pub is_call_at : ProcessorId → Event → Bool
is_call_at d (ordinary s) = false
is_call_at d (call e) = same_processor e d

-- what events leave: the ordinary steps made, "each with answer and received word", and the rig then
pub record Happened : Type 0 where
  pub steps : List Step
  pub reports : List Report
  pub system : System

-- "it returns those steps"
abbrev pub returned : Dispatched → Happened
returned o = record { steps = step_of o.delivery ++ step_of o.run; reports = report_of o.delivery ++ report_of o.run; system = o.system }

unfoldable pub happens : System → Event → Happened
happens r (ordinary s) = record { steps = s ∷ []; reports = (step r s).report ∷ []; system = (step r s).system }
happens r (call d) = returned (dispatched r d)

-- events one after the other
unfoldable pub happened : System → List Event → Happened
happened r [] = record { steps = []; reports = []; system = r }
happened r (e ∷ es) =
    let a = happens r e in
    let b = happened a.system es in
    record { steps = a.steps ++ b.steps; reports = a.reports ++ b.reports; system = b.system }

-- the list from the start of plan p on n desks
abbrev pub mixed : ℕ → Plan → List Event → Happened
mixed n p es = happened (started n p) es
