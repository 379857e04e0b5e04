-- A rig that 9 does not refuse: by fields, what the test says of each task, of each desk and channel, and of the mail.
use Rattle.std.specs.Prelude.{◌≡◌, true, ℕ, ◌-◌, ◌≤◌, Ok}
use Rattle.base.specs.Lists.{every}
use Rattle.plan.specs.declared.Plan.{Plan}
use Rattle.plan.specs.declared.TaskId.{TaskId}
use Rattle.plan.specs.declared.ProcessorId.{ProcessorId}
use Rattle.plan.specs.declared.ChannelId.{ChannelId}
use Rattle.plan.specs.Programs.{Program, program_at, programs}
use Rattle.plan.specs.Refusals.{plan_answer}
use Rattle.rules.specs.declared.message.Network.{Network}
use Rattle.rules.specs.declared.system.System.{System}
use Rattle.rules.specs.Networks.{messages}
use Rattle.rules.specs.Systems.{task_at, entry_at, channel_at, parent_at}
use Rattle.rules.specs.Sound.{task_ok, message_ok, origin_ok, ready_ok, chosen_ok}
use Rattle.rules_sound.specs.Fine.{FineEntry, FineChannel, FineParent}

-- the program of task t of a plan value
abbrev pub program_in : Plan → TaskId → Program
program_in p t = program_at (programs p) (t.0 - 1)

-- the tasks, tables, channels, parents, sets and last choices of a rig of n desks with the plan p
pub record Holds (n : ℕ) (p : Plan) (r : System) : Type 0 where
  pub tasks : (t : TaskId) → 1 ≤ t.0 → t.0 ≤ p.tasks → task_ok n p.tasks (program_in p t) (task_at r t) ≡ true
  pub origins : (t : TaskId) → 1 ≤ t.0 → t.0 ≤ p.tasks → origin_ok n t.0 (task_at r t) ≡ true
  pub entries : (d : ProcessorId) (c : ChannelId) → 1 ≤ d.0 → d.0 ≤ 6 → 1 ≤ c.0 → c.0 ≤ 128 → FineEntry n (entry_at r d c)
  pub channels : (c : ChannelId) → 1 ≤ c.0 → c.0 ≤ 128 → FineChannel n (channel_at r c)
  pub parents : (d : ProcessorId) (t : TaskId) → d.0 ≤ 6 → t.0 ≤ 64 → FineParent n p.tasks (parent_at r d t)
  pub ready : ready_ok p.tasks r.tasks ≡ true
  pub chosen : chosen_ok p.tasks r.chosen ≡ true

-- the mail of such a rig
pub record HoldsNetwork (n : ℕ) (p : Plan) (k : Network) : Type 0 where
  pub messages : every (message_ok n p.tasks) (messages k) ≡ true
  pub used : k.used ≤ 256

-- a number of desks and a plan of which there can be a rig
pub record Startable (n : ℕ) (p : Plan) : Type 0 where
  pub some : 1 ≤ n
  pub few : n ≤ 6
  pub plan : plan_answer (programs p) ≡ Ok tt

-- the whole rig
pub record Sound (r : System) : Type 0 where
  pub frame : Startable r.processors r.plan
  pub rig : Holds r.processors r.plan r
  pub network : HoldsNetwork r.processors r.plan r.network
