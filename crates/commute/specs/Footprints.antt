-- The footprint of a run: the tasks, the desks and the channels whose entries it may read and change.
use Rattle.std.specs.Prelude.{◌≡◌, Bool, true, not, ◌&&◌, ◌||◌, ◌≤◌}
use Rattle.plan.specs.declared.TaskId.{TaskId}
use Rattle.plan.specs.declared.ProcessorId.{ProcessorId}
use Rattle.plan.specs.declared.ChannelId.{ChannelId}
use Rattle.plan.specs.Kinds.{op_create, is_use}
use Rattle.plan.specs.Users.{receiver_of}
use Rattle.rules.specs.declared.system.System.{System}
use Rattle.rules.specs.Numbers.{same_processor}
use Rattle.rules.specs.Tasks.{is_at}
use Rattle.rules.specs.Systems.{task_at, entry_at, channel_at, parent_at, meaning}
use Rattle.rules.specs.Effects.{receives_on, sends_on}
use Rattle.rules.specs.Runs.{next_of}

pub record Footprint : Type 0 where
  -- records of tasks
  pub task : TaskId → Bool
  -- a desk's rows: what it keeps for channels and for parents
  pub processor : ProcessorId → Bool
  -- channels' own entries
  pub channel : ChannelId → Bool

-- task t creates task v by its next instruction
abbrev pub creates : System → TaskId → TaskId → Bool
creates r t v = is_use op_create v.0 (next_of r t)

-- a run of task t at desk d: the tasks at d, t among them, and t's new child; the rows of d; the channels that t receives on, and those that it sends
-- on to a task at d. Of a task elsewhere it asks no more than whether it is at d
unfoldable pub footprint : System → TaskId → Footprint
footprint r t =
    let d = (task_at r t).processor in
    record {
      task = λ v. is_at d (task_at r v) || creates r t v;
      processor = λ e. same_processor e d;
      channel = λ c. receives_on (meaning r) t c || (sends_on (meaning r) t c && is_at d (task_at r (receiver_of (meaning r) c)));
    }

-- all else, and all there is
abbrev pub outside : Footprint → Footprint
outside f = record { task = λ v. not (f.task v); processor = λ d. not (f.processor d); channel = λ c. not (f.channel c) }

abbrev pub everything : Footprint
everything = record { task = λ v. true; processor = λ d. true; channel = λ c. true }

-- two rigs are alike in a footprint
pub record Alike (f : Footprint) (r q : System) : Type 0 where
  pub tasks : (v : TaskId) → f.task v ≡ true → task_at q v ≡ task_at r v
  pub entries : (d : ProcessorId) (c : ChannelId) → 1 ≤ d.0 → d.0 ≤ 6 → 1 ≤ c.0 → c.0 ≤ 128 → f.processor d ≡ true → entry_at q d c ≡ entry_at r d c
  pub channels : (c : ChannelId) → 1 ≤ c.0 → c.0 ≤ 128 → f.channel c ≡ true → channel_at q c ≡ channel_at r c
  pub parents : (d : ProcessorId) (v : TaskId) → 1 ≤ d.0 → d.0 ≤ 6 → v.0 ≤ 64 → f.processor d ≡ true → parent_at q d v ≡ parent_at r d v
