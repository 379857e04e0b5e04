-- A task and the others, a channel and the others; and functions of tasks and of channels with one of their values changed.
use mathlib.Core.Path.{◌≡◌, ap}
use mathlib.Core.Logic.{◌≢◌, by_cases}
use native.Mathlib.Decide.{ℕ_discrete}
use Rattle.base.proofs.Updates.{updated_same, updated_other}
use Rattle.plan.specs.declared.TaskId.{TaskId}
use Rattle.plan.specs.declared.ChannelId.{ChannelId}
use Rattle.plan.specs.Numbers.{task_id, channel_id}
use Rattle.net.specs.States.{at_task, at_channel}

-- to prove something of every task: of one, and of each other
pub task_cases : (P : TaskId → Type 0) (t : TaskId) → P t → ((u : TaskId) → u.0 ≢ t.0 → P u) → (u : TaskId) → P u
task_cases P t one other u = by_cases (ℕ_discrete u.0 t.0) (λ (e : u.0 ≡ t.0). let same : u ≡ t = ap task_id e in rw same one) (other u)

pub channel_cases : (P : ChannelId → Type 0) (c : ChannelId) → P c → ((d : ChannelId) → d.0 ≢ c.0 → P d) → (d : ChannelId) → P d
channel_cases P c one other d =
    by_cases (ℕ_discrete d.0 c.0) (λ (e : d.0 ≡ c.0). let same : d ≡ c = ap channel_id e in rw same one) (other d)

module _ {A : Type 0} (f : TaskId → A) (t : TaskId) where
  pub at_task_lem : (a : A) → at_task f t a t ≡ a
  at_task_lem a = updated_same (λ (v : TaskId). v.0) f t a

  pub at_other : (u : TaskId) (a : A) → u.0 ≢ t.0 → at_task f t a u ≡ f u
  at_other u a ne = updated_other (λ (v : TaskId). v.0) f t u a ne

module _ {A : Type 0} (f : ChannelId → A) (c : ChannelId) where
  pub at_channel_lem : (a : A) → at_channel f c a c ≡ a
  at_channel_lem a = updated_same (λ (d : ChannelId). d.0) f c a

  pub at_other_channel : (d : ChannelId) (a : A) → d.0 ≢ c.0 → at_channel f c a d ≡ f d
  at_other_channel d a ne = updated_other (λ (d : ChannelId). d.0) f c d a ne

-- to prove something of every value: of the new one, and of each old one
pub at_elim : {A : Type 0} (Q : TaskId → A → Type 0) (f : TaskId → A) (t : TaskId) (a : A) → Q t a → ((u : TaskId) → u.0 ≢ t.0 → Q u (f u))
    → (u : TaskId) → Q u (at_task f t a u)
at_elim Q f t a new old =
    task_cases (λ u. Q u (at_task f t a u)) t (rw (at_task_lem f t a) new) (λ u ne. rw (at_other f t u a ne) (old u ne))

pub at_channel_elim : {A : Type 0} (Q : ChannelId → A → Type 0) (f : ChannelId → A) (c : ChannelId) (a : A) → Q c a
    → ((d : ChannelId) → d.0 ≢ c.0 → Q d (f d)) → (d : ChannelId) → Q d (at_channel f c a d)
at_channel_elim Q f c a new old =
    channel_cases (λ d. Q d (at_channel f c a d)) c (rw (at_channel_lem f c a) new) (λ d ne. rw (at_other_channel f c d a ne) (old d ne))
