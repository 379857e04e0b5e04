-- Two runs of one rig, and one after the other.
use Rattle.std.specs.Prelude.{◌≡◌, true, false, List, ◌++◌, Ok}
use Rattle.plan.specs.declared.TaskId.{TaskId}
use Rattle.plan.specs.declared.ProcessorId.{ProcessorId}
use Rattle.plan.specs.declared.ChannelId.{ChannelId}
use Rattle.rules.specs.declared.message.Message.{Message}
use Rattle.rules.specs.declared.system.System.{System}
use Rattle.rules.specs.Networks.{messages, messages_of}
use Rattle.rules.specs.Systems.{with_network, task_at}
use Rattle.rules.specs.Effects.{completed}
use Rattle.rules.specs.Runs.{ran}
use Rattle.rules.specs.Steps.{run_step, step_answer}
use Rattle.commute.specs.Footprints.{Footprint, footprint, outside, creates, Alike}
use Rattle.commute.specs.Frames.{SameEffect}

-- nothing is in both footprints
pub record Apart (f g : Footprint) : Type 0 where
  pub task : (v : TaskId) → f.task v ≡ true → g.task v ≡ false
  pub processor : (d : ProcessorId) → f.processor d ≡ true → g.processor d ≡ false
  pub channel : (c : ChannelId) → f.channel c ≡ true → g.channel c ≡ false

-- a run of task t is accepted, and whom it creates is at no desk
pub record Runs (r : System) (t : TaskId) : Type 0 where
  pub accepted : step_answer r (run_step t.0) ≡ Ok tt
  pub nowhere : (v : TaskId) → creates r t v ≡ true → (task_at r v).processor.0 ≡ 0

-- the rig after it, and the letters that it posts
abbrev pub after_run : System → TaskId → System
after_run r t = completed (ran r t)

abbrev pub posted_by : System → TaskId → List Message
posted_by r t = messages_of r.processors (ran r t).posting

-- task u runs after task t, as if it were first: it finds its footprint as it was, leaves it as it would, and leaves the rest as task t left it
pub record Second (r : System) (t u : TaskId) : Type 0 where
  pub accepted : step_answer (after_run r t) (run_step u.0) ≡ Ok tt
  pub effect : SameEffect (footprint r u) (ran r u) (ran (after_run r t) u)
  pub own : Alike (footprint r u) (after_run r u) (after_run (after_run r t) u)
  pub rest : Alike (outside (footprint r u)) (after_run r t) (after_run (after_run r t) u)

-- what two runs at different desks of one rig leave, in either order: the same rig but for the mail, whose letters stand in the order of the runs
pub record Commuting (r : System) (t u : TaskId) : Type 0 where
  pub one : Second r t u
  pub other : Second r u t
  pub mail : messages (after_run (after_run r t) u).network ≡ messages r.network ++ (posted_by r t ++ posted_by r u)
  pub other_mail : messages (after_run (after_run r u) t).network ≡ messages r.network ++ (posted_by r u ++ posted_by r t)
  pub same : with_network (after_run (after_run r t) u) (after_run (after_run r u) t).network ≡ after_run (after_run r u) t
