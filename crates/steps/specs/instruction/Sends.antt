-- The verdict on a send of task t on channel c.
use Rattle.std.specs.Prelude.{List, ℕ, ◌-◌, ◌≤◌, get_or}
use Rattle.plan.specs.declared.TaskId.{TaskId}
use Rattle.plan.specs.declared.ChannelId.{ChannelId}
use Rattle.rules.specs.declared.rule.Outcome.{Outcome}
use Rattle.rules.specs.declared.system.TaskTable.{TaskTable}
use Rattle.rules.specs.declared.system.Store.{Store}
use Rattle.rules.specs.Send.{send_rule}
use Rattle.rules.specs.Systems.{task_in}
use Rattle.rig_parts.specs.declared.sweep.Sweep.TheVariants.{Nothing}
use Rattle.rig_parts.specs.declared.change.Scope.{Scope}
use Rattle.rig_parts.specs.Answers.{Verdict}
use Rattle.rig_parts.specs.Fetches.{slot_at, site_in}
use Rattle.rig_parts.specs.Scopes.{scope, named_in}
use Rattle.rig_parts.specs.RunVerdicts.{change, fitting_in}
use Rattle.board.specs.Lent.{AtCell}

abbrev pub send_scope : List ℕ → TaskTable → TaskId → ChannelId → Scope
send_scope receivers ts t c = scope t (named_in receivers c.0) c (task_in ts t).processor

-- what its rule leaves
abbrev pub send_outcome : List ℕ → List ℕ → List ℕ → TaskTable → Store → TaskId → ChannelId → Outcome
send_outcome codes numbers receivers ts s t c =
    send_rule (site_in codes ts s (send_scope receivers ts t c)) c (get_or numbers (slot_at t ((task_in ts t).pc - 1)) 0)

abbrev pub send_verdict : List ℕ → List ℕ → List ℕ → ℕ → ℕ → TaskTable → Store → TaskId → ChannelId → Verdict
send_verdict codes numbers receivers n used ts s t c =
    fitting_in n used (change (send_scope receivers ts t c) (send_outcome codes numbers receivers ts s t c) Nothing)

-- what it supposes to be decided: a task, its desk, its place, and the receiver
pub record Sendable (receivers : List ℕ) (ts : TaskTable) (t : TaskId) (c : ChannelId) : Type 0 where
  pub task_low : 1 ≤ t.0
  pub task : t.0 ≤ 64
  pub receiver : (named_in receivers c.0).0 ≤ 64
  pub at : AtCell (task_in ts t).processor c
  pub place_low : 1 ≤ (task_in ts t).pc
  pub place : (task_in ts t).pc ≤ 64
  pub receiver_place : (task_in ts (named_in receivers c.0)).pc ≤ 65

-- what it supposes
pub record CanSend (receivers : List ℕ) (used : ℕ) (ts : TaskTable) (t : TaskId) (c : ChannelId) : Type 0 where
  pub messages : used ≤ 256
  pub sendable : Sendable receivers ts t c
