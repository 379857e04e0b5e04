-- What a run begins with.
use Rattle.std.specs.Prelude.{◌≡◌, ℕ, ◌≤◌, Ok}
use Rattle.plan.specs.declared.Plan.{Plan}
use Rattle.plan.specs.Programs.{programs}
use Rattle.plan.specs.Refusals.{plan_answer}
use Rattle.rig_parts.specs.Facts.{Facts, facts_of}

-- one to six desks, an accepted plan, and what is derived of it
pub record Begins (n : ℕ) (p : Plan) (f : Facts) : Type 0 where
  pub some : 1 ≤ n
  pub most : n ≤ 6
  pub accepted : plan_answer (programs p) ≡ Ok tt
  pub derived : f ≡ facts_of p

-- the same of some plan
pub record Begun (n : ℕ) (f : Facts) : Type 0 where
  pub plan : Plan
  pub begins : Begins n plan f
