-- The verdict on a receive of task t on channel c.
use Rattle.std.specs.Prelude.{List, ℕ, ◌-◌, ◌≤◌, ◌<◌}
use Rattle.plan.specs.declared.TaskId.{TaskId}
use Rattle.plan.specs.declared.ChannelId.{ChannelId}
use Rattle.rules.specs.declared.rule.Outcome.{Outcome}
use Rattle.rules.specs.declared.system.TaskTable.{TaskTable}
use Rattle.rules.specs.declared.system.Channels.{Channels}
use Rattle.rules.specs.declared.system.Store.{Store}
use Rattle.rules.specs.Systems.{read_channel, task_in}
use Rattle.rules.specs.Receive.{receive_rule}
use Rattle.rig_parts.specs.declared.sweep.Sweep.TheVariants.{Nothing}
use Rattle.rig_parts.specs.declared.change.Scope.{Scope}
use Rattle.rig_parts.specs.Answers.{Verdict}
use Rattle.rig_parts.specs.Fetches.{last_of, site_in}
use Rattle.rig_parts.specs.Scopes.{scope, named_in}
use Rattle.rig_parts.specs.RunVerdicts.{change, fitting_in}
use Rattle.board.specs.Lent.{AtCell}

abbrev pub receive_scope : List ℕ → TaskTable → TaskId → ChannelId → Scope
receive_scope senders ts t c = scope (named_in senders c.0) t c (task_in ts t).processor

-- what its rule leaves
abbrev pub receive_outcome : List ℕ → List ℕ → List ℕ → TaskTable → Store → TaskId → ChannelId → Outcome
receive_outcome codes numbers senders ts s t c =
    let k = receive_scope senders ts t c in
    receive_rule (site_in codes ts s k) c (last_of numbers k.sender (task_in ts k.sender).pc)

abbrev pub receive_verdict : List ℕ → List ℕ → List ℕ → ℕ → ℕ → TaskTable → Store → TaskId → ChannelId → Verdict
receive_verdict codes numbers senders n used ts s t c =
    fitting_in n used (change (receive_scope senders ts t c) (receive_outcome codes numbers senders ts s t c) Nothing)

-- what it supposes to be decided: a task, its desk, its place, the sender, and the number called
pub record Receivable (senders : List ℕ) (ts : TaskTable) (k : Channels) (t : TaskId) (c : ChannelId) : Type 0 where
  pub task_low : 1 ≤ t.0
  pub task : t.0 ≤ 64
  pub sender : (named_in senders c.0).0 ≤ 64
  pub at : AtCell (task_in ts t).processor c
  pub place : (task_in ts t).pc ≤ 64
  pub sender_place : (task_in ts (named_in senders c.0)).pc ≤ 65
  pub called : (read_channel k (c.0 - 1)).granted < 255

-- what it supposes
pub record CanReceive (senders : List ℕ) (used : ℕ) (ts : TaskTable) (k : Channels) (t : TaskId) (c : ChannelId) : Type 0 where
  pub messages : used ≤ 256
  pub receivable : Receivable senders ts k t c
