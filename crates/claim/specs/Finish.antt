-- What the finish check says holds everywhere: "A yes must hold for each run of the plan that comes to rest, on one desk or six and with any
-- moves." Said of the definitions of `rules` and of the statement alone.
use Rattle.std.specs.Prelude.{◌≡◌, true, not, List, ℕ, ◌≤◌, eqb, Ok}
use Rattle.base.specs.Lists.{every}
use Rattle.plan.specs.declared.Plan.{Plan}
use Rattle.plan.specs.Programs.{programs}
use Rattle.plan.specs.Refusals.{plan_answer}
use Rattle.rules.specs.declared.step.Step.{Step}
use Rattle.rules.specs.declared.system.System.{System}
use Rattle.rules.specs.Steps.{quiescent}
use Rattle.rules.specs.Finish.{verdict, stuck_list}
use Rattle.claim.specs.Statement.{from}

-- the rig of plan p on n desks is at rest after the list ss
abbrev pub RestsOn : ℕ → Plan → List Step → Type 0
RestsOn n p ss = quiescent (from n p ss).system ≡ true

-- two rigs have the same verdict and the same list of stuck tasks
pub record SameFinish (r q : System) : Type 0 where
  pub finishes : verdict r ≡ verdict q
  pub list : stuck_list r ≡ stuck_list q

-- `finish_everywhere`: for every accepted plan, any two numbers of desks and any two lists of steps after which the rigs are at rest
abbrev pub FinishEverywhere : Type 0
FinishEverywhere =
    (n k : ℕ) (p : Plan) (ss ts : List Step) → 1 ≤ n → n ≤ 6 → 1 ≤ k → k ≤ 6 → plan_answer (programs p) ≡ Ok tt
    → RestsOn n p ss → RestsOn k p ts → SameFinish (from n p ss).system (from k p ts).system

-- `never_zero`: "The 0 of the finish check no longer occurs.": each task of the list depends on a task
abbrev pub NeverZero : Type 0
NeverZero =
    (n : ℕ) (p : Plan) (ss : List Step) → 1 ≤ n → n ≤ 6 → plan_answer (programs p) ≡ Ok tt → RestsOn n p ss
    → every (λ x. not (eqb x.on.0 0)) (stuck_list (from n p ss).system) ≡ true
