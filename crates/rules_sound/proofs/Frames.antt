-- What is known of a task number and of a task of a rig with an accepted plan.
use Prim.Native.Nat.{ℕ, ◌-◌, ◌≤◌, ◌<◌}
use native.Mathlib.Omega.{arith}
use lib.ListN.{length}
use Rattle.plan.specs.declared.Plan.{Plan}
use Rattle.plan.specs.declared.TaskId.{TaskId}
use Rattle.plan.specs.Programs.{programs}
use Rattle.plan.specs.Users.{users, first_of}
use Rattle.plan.proofs.Parts.{tasks_of_lem}
use Rattle.plan_laws.proofs.Answers.{InRange, sized, plan_passed}
use Rattle.plan_laws.proofs.Programs.{program_size, user_few}
use Rattle.rules_sound.specs.Sound.{program_in, Startable}

-- the first task that has such an instruction is none or one of the plan
pub user_in_lem : (p : Plan) (k a : ℕ) → first_of (users (programs p) k a) ≤ p.tasks
user_in_lem p k a = omega (arith, user_few (programs p) k a, tasks_of_lem p)

module _ (n : ℕ) (p : Plan) (s : Startable n p) where
  pub tasks_few : p.tasks ≤ 64
  tasks_few = omega (arith, (sized (programs p) (plan_passed (programs p) s.plan).sizes).tasks.few, tasks_of_lem p)

  pub tasks_some : 1 ≤ p.tasks
  tasks_some = omega (arith, (sized (programs p) (plan_passed (programs p) s.plan).sizes).tasks.some, tasks_of_lem p)

  module _ (t : TaskId) (l : 1 ≤ t.0) (h : t.0 ≤ p.tasks) where
    pub in_plan : t.0 - 1 < length (programs p)
    in_plan = omega (arith, tasks_of_lem p)

    pub program_in_lem : InRange (length (program_in p t))
    program_in_lem = program_size (programs p) s.plan (t.0 - 1) in_plan
