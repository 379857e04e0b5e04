-- Desks that don't wait for each other: "Two crews press go on different desks, and it shouldn't matter who is first. For two run steps of tasks at
-- different desks, in a rig reached from a plan's start, with mail space enough for both and neither refused where it comes first, either order must
-- be accepted and give the same rig and the same letters, save for their order in the mail." Said of the definitions of `rules` and of the statement
-- alone.
use Rattle.std.specs.Prelude.{◌≡◌, List, ◌++◌, ◌≢◌, ℕ, ◌+◌, ◌≤◌, length, Ok}
use Rattle.plan.specs.declared.Plan.{Plan}
use Rattle.plan.specs.Programs.{programs}
use Rattle.plan.specs.Refusals.{plan_answer}
use Rattle.rules.specs.declared.message.Message.{Message}
use Rattle.rules.specs.declared.step.Step.{Step}
use Rattle.rules.specs.declared.system.System.{System}
use Rattle.rules.specs.Numbers.{task_id, network_size}
use Rattle.rules.specs.Networks.{messages, messages_of}
use Rattle.rules.specs.Systems.{with_network, task_at}
use Rattle.rules.specs.Runs.{ran}
use Rattle.rules.specs.Steps.{step_answer, step, run_step}
use Rattle.claim.specs.Statement.{from}

-- the rig r after a run step of task t, and the letters that a run of task t posts in r
abbrev pub after_run : System → ℕ → System
after_run r t = (step r (run_step t)).system

abbrev pub posted_by : System → ℕ → List Message
posted_by r t = messages_of r.processors (ran r (task_id t)).posting

-- where "neither" is "refused where it comes first": tasks t and u are at different desks of r, the run of each is accepted in r, and there is "mail
-- space enough for both"
pub record BothRun (r : System) (t u : ℕ) : Type 0 where
  pub processors : (task_at r (task_id t)).processor.0 ≢ (task_at r (task_id u)).processor.0
  pub first : step_answer r (run_step t) ≡ Ok tt
  pub second : step_answer r (run_step u) ≡ Ok tt
  pub room : r.network.used + length (posted_by r t) + length (posted_by r u) ≤ network_size

-- task u runs after task t: the run is accepted, it reports what it would report if it were first (the answer, and the word received, if one is), and
-- the mail has the old letters, then those of t's run, then those of u's
pub record RunsAfter (r : System) (t u : ℕ) : Type 0 where
  pub accepted : step_answer (after_run r t) (run_step u) ≡ Ok tt
  pub report : (step (after_run r t) (run_step u)).report ≡ (step r (run_step u)).report
  pub mail : messages (after_run (after_run r t) u).network ≡ messages r.network ++ (posted_by r t ++ posted_by r u)

-- "either order", and "the same rig": the rig after t and u, with the mail of the rig after u and t, is the rig after u and t. So the two are equal in
-- every part but the mail
pub record EitherOrder (r : System) (t u : ℕ) : Type 0 where
  pub then_u : RunsAfter r t u
  pub then_t : RunsAfter r u t
  pub same_rig : with_network (after_run (after_run r t) u) (after_run (after_run r u) t).network ≡ after_run (after_run r u) t

-- `runs_commute`: for every accepted plan, 1 to 6 desks and every list of steps, in the rig then, of any two tasks
abbrev pub RunsCommute : Type 0
RunsCommute =
    (n : ℕ) (p : Plan) (ss : List Step) (t u : ℕ) → 1 ≤ n → n ≤ 6 → plan_answer (programs p) ≡ Ok tt
    → BothRun (from n p ss).system t u → EitherOrder (from n p ss).system t u
