-- The run of a plan on one desk to rest.
use Rattle.std.specs.Prelude.{◌≡◌, List, [], ℕ, Ok}
use Rattle.plan.specs.declared.Plan.{Plan}
use Rattle.plan.specs.Programs.{programs}
use Rattle.plan.specs.Refusals.{plan_answer}
use Rattle.rules.specs.declared.step.Step.{Step}
use Rattle.plan_index.specs.user_table.Users.{Indexed}
use Rattle.rig_parts.specs.Facts.{facts_of, kept_in}
use Rattle.board.specs.Lent.{Lent, Whole, tasks_of, kept_of}
use Rattle.board.specs.Rigs.{facts_in}
use Rattle.claim.specs.Statement.{from}
use Rattle.claim.specs.Finish.{RestsOn}
use Rattle.claim.specs.Work.{work_of}

-- what is lent is the one-desk rig of plan p after the list ss, which has so many accepted runs
pub record After (codes numbers users : List ℕ) (count : ℕ) (l : Lent) (p : Plan) (ss : List Step) (work : ℕ) : Type 0 where
  pub accepted : plan_answer (programs p) ≡ Ok tt
  pub derived : facts_in count codes numbers users ≡ facts_of p
  pub indexed : Indexed users
  pub whole : Whole l.board
  pub tasks : tasks_of l ≡ (from 1 p ss).system.tasks
  pub kept : kept_of l ≡ kept_in (from 1 p ss).system
  pub number : work ≡ work_of 1 p ss

-- what is lent is that of some plan at its start
pub record Begun (codes numbers users : List ℕ) (count : ℕ) (l : Lent) : Type 0 where
  pub plan : Plan
  pub start : After codes numbers users count l plan [] 0

-- after some list
pub record Gone (codes numbers users : List ℕ) (count : ℕ) (l : Lent) (p : Plan) (work : ℕ) : Type 0 where
  pub list : List Step
  pub after : After codes numbers users count l p list work

-- and at rest
pub record Rested (codes numbers users : List ℕ) (count : ℕ) (l : Lent) (p : Plan) (work : ℕ) : Type 0 where
  pub gone : Gone codes numbers users count l p work
  pub rests : RestsOn 1 p gone.list

-- from the start of whatever plan what was lent is of, to rest
abbrev pub Ended : List ℕ → List ℕ → List ℕ → ℕ → Lent → ℕ → Lent → Type 0
Ended codes numbers users count l work l' = (p : Plan) → After codes numbers users count l p [] 0 → Rested codes numbers users count l' p work
