-- What a change makes of a rig, as the rules write it: tasks written one after the other, a cell, a sweep.
use mathlib.Core.Path.{◌≡◌, refl}
use Prim.Native.Nat.{◌≤◌}
use native.Mathlib.Omega.{arith}
use borrow.Author.Tests.{ne_eqb}
use Rattle.plan.specs.declared.TaskId.{TaskId}
use Rattle.plan.specs.declared.ProcessorId.{ProcessorId}
use Rattle.plan.specs.declared.ChannelId.{ChannelId}
use Rattle.rules.specs.declared.task.Task.{Task}
use Rattle.rules.specs.declared.rule.Site.{Site}
use Rattle.rules.specs.declared.rule.Outcome.{Outcome}
use Rattle.rules.specs.declared.system.System.{System}
use Rattle.rules.specs.Numbers.{task_id, channel_id}
use Rattle.rules.specs.Systems.{with_task, with_tasks, with_cell, task_stored, store_in}
use Rattle.rules.specs.Effects.{Effect, with_outcome, applied}
use Rattle.rules_sound.specs.Sound.{Holds}
use Rattle.rig_parts.specs.declared.sweep.Sweep.{Sweep}
use Rattle.rig_parts.specs.declared.sweep.Sweep.TheVariants.{Nothing}
use Rattle.rig_parts.specs.declared.change.Change.{Change}
use Rattle.rig_parts.specs.Fetches.{cell_put, site_in}
use Rattle.rig_parts.specs.Scopes.{scope, alone}
use Rattle.rig_parts.specs.RunVerdicts.{change}
use Rattle.rig_parts.specs.Effects.{effect_of}
use Rattle.rig_parts.proofs.Fetching.{site_read_lem}
use Rattle.rig_parts.proofs.Sweeps.{swept_in}

-- a rig, with what an outcome posts and receives
abbrev pub with_outcome_lem : System → Outcome → Effect
with_outcome_lem r o = record { system = r; posting = o.posting; received = o.received }

module _ (r : System) where
  pub effect_posting : (k : Change) → (effect_of r k).posting ≡ k.outcome.posting
  unfolding effect_of
  effect_posting k = refl

  -- two tasks
  both_written : (a b : TaskId) (x y : Task) → with_task (with_task r a x) b y ≡ with_tasks r (task_stored (task_stored r.tasks a x) b y)
  unfolding with_task
  both_written a b x y = refl

  module _ (d : ProcessorId) (o : Outcome) where
    -- where there is no channel
    pub tasks_effect : (a b : TaskId) (w : Sweep)
        → effect_of r (change (scope a b (channel_id 0) d) o w) ≡ with_outcome_lem (swept_in (with_task (with_task r a o.sender) b o.receiver) w) o
    unfolding effect_of cell_put
    tasks_effect a b w = rw (both_written a b o.sender o.receiver) refl

    -- a task alone
    pub alone_effect : (t : TaskId) (w : Sweep) → effect_of r (change (alone t d) o w) ≡ with_outcome_lem (swept_in (with_task r t o.sender) w) o
    unfolding with_task task_stored
    alone_effect t w = tasks_effect t (task_id 0) w

    -- a channel
    pub outcome_effect : (a b : TaskId) (c : ChannelId) → 1 ≤ c.0 → effect_of r (change (scope a b c d) o Nothing) ≡ with_outcome r a b c d o
    unfolding effect_of cell_put with_outcome with_cell
    outcome_effect a b c l = rw (ne_eqb c.0 0 (λ e. omega arith), both_written a b o.sender o.receiver) refl

  -- a rule about a channel, between tasks of the rig
  pub applied_effect : Holds r.processors r.plan r → (a b : TaskId) (c : ChannelId) (d : ProcessorId) → a.0 ≤ r.plan.tasks → b.0 ≤ r.plan.tasks
      → 1 ≤ c.0 → (rule : Site → Outcome)
      → effect_of r (change (scope a b c d) (rule (site_in r.plan.codes r.tasks (store_in r) (scope a b c d))) Nothing) ≡ applied r a b c d rule
  applied_effect h a b c d ah bh l rule = rw (site_read_lem r h a b c d ah bh l) (outcome_effect d _ a b c l)
