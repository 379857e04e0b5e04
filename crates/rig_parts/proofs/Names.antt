-- The tables name the ends of a channel and the parent of a task.
use mathlib.Core.Path.{◌≡◌, ap}
use Prim.Native.Nat.{◌≤◌}
use Rattle.plan.specs.declared.Plan.{Plan}
use Rattle.plan.specs.declared.TaskId.{TaskId}
use Rattle.plan.specs.declared.ChannelId.{ChannelId}
use Rattle.plan.specs.Numbers.{task_id}
use Rattle.plan.specs.Programs.{programs}
use Rattle.plan.specs.Users.{sender_of, receiver_of, parent_of}
use Rattle.plan_index.specs.ends.Derived.{ends_of}
use Rattle.plan_index.proofs.ends.Entries.{sender_at_lem, receiver_at_lem, parent_at_lem}
use Rattle.rig_parts.specs.Scopes.{named_in}

module _ (p : Plan) where
  pub sender_named : (c : ChannelId) → c.0 ≤ 128 → named_in (ends_of p).senders c.0 ≡ sender_of (programs p) c
  sender_named c h = ap task_id (sender_at_lem p c.0 h)

  pub receiver_named : (c : ChannelId) → c.0 ≤ 128 → named_in (ends_of p).receivers c.0 ≡ receiver_of (programs p) c
  receiver_named c h = ap task_id (receiver_at_lem p c.0 h)

  pub parent_named : (t : TaskId) → t.0 ≤ 128 → named_in (ends_of p).parents t.0 ≡ parent_of (programs p) t
  parent_named t h = ap task_id (parent_at_lem p t.0 h)
