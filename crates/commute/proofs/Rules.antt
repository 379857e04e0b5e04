-- The rules of send, receive and finish, where the other task is at another desk: it and what it reads stay as they were, and nothing else depends on it.
use mathlib.Core.Path.{◌≡◌, refl}
use mathlib.Core.Bool.{Bool, true, false, not, ◌&&◌}
use Prim.Native.Nat.{ℕ}
use Rattle.base.specs.Choice.{pick}
use Rattle.base.specs.Sets.{removed}
use Rattle.base.proofs.Choices.{pick_either}
use Rattle.base.proofs.Tests.{and_false}
use Rattle.plan.specs.declared.TaskId.{TaskId}
use Rattle.plan.specs.declared.ChannelId.{ChannelId}
use Rattle.rules.specs.declared.task.Task.{Task}
use Rattle.rules.specs.declared.task.TaskState.TheVariants.{Waiting}
use Rattle.rules.specs.declared.channel.Channel.{Channel}
use Rattle.rules.specs.declared.rule.Site.{Site}
use Rattle.rules.specs.declared.rule.Outcome.{Outcome}
use Rattle.rules.specs.declared.rule.Finished.{Finished}
use Rattle.rules.specs.declared.system.ParentEntry.{ParentEntry}
use Rattle.rules.specs.Numbers.{task_id, same_task, same_processor, is_none}
use Rattle.rules.specs.Hints.{newer, is_unknown}
use Rattle.rules.specs.Cells.{counts, none_called}
use Rattle.rules.specs.Tasks.{is_at, is_in, is_childless, with_children, woken, without_child}
use Rattle.rules.specs.Send.{send_passes, send_waits, send_rule}
use Rattle.rules.specs.Receive.{receive_passes, receive_waits, receive_rule}
use Rattle.rules.specs.Local.{finish_rule, sync_rule}

-- a choice by one test, on both sides
both_picked : {A : Type 0} (P : A → A → Type 0) (b : Bool) (x y u v : A) → P x u → P y v → P (pick b x y) (pick b u v)
both_picked P true x y u v p q = p
both_picked P false x y u v p q = q

-- two sends by one task along one row, to a task elsewhere with the record u or v, while the channel has j or k
pub record SentAway (u v : Task) (j k : Channel) (o p : Outcome) : Type 0 where
  pub receiver : o.receiver ≡ u
  pub other_receiver : p.receiver ≡ v
  pub channel : o.cell.channel ≡ j
  pub other_channel : p.cell.channel ≡ k
  pub sender : p.sender ≡ o.sender
  pub entry : p.cell.entry ≡ o.cell.entry
  pub posting : p.posting ≡ o.posting
  pub received : p.received ≡ o.received

pub sent_away : (x y : Site) (c : ChannelId) (w : ℕ) → y.sender ≡ x.sender → y.cell.entry ≡ x.cell.entry
    → is_at x.sender.processor x.receiver ≡ false → is_at x.sender.processor y.receiver ≡ false
    → SentAway x.receiver y.receiver x.cell.channel y.cell.channel (send_rule x c w) (send_rule y c w)
unfolding send_rule send_waits
sent_away x y c w same row ax ay =
    let h = x.cell.entry.hint in
    rw (same, row, ax, ay)
    (both_picked (SentAway x.receiver y.receiver x.cell.channel y.cell.channel) (is_unknown h) _ _ _ _
    (record { receiver = refl; other_receiver = refl; channel = refl; other_channel = refl; sender = refl; entry = refl; posting = refl; received = refl })
    (both_picked (SentAway x.receiver y.receiver x.cell.channel y.cell.channel) (same_processor h.processor x.sender.processor) _ _ _ _
    (record { receiver = refl; other_receiver = refl; channel = refl; other_channel = refl; sender = refl; entry = refl; posting = refl; received = refl })
    (record { receiver = refl; other_receiver = refl; channel = refl; other_channel = refl; sender = refl; entry = refl; posting = refl; received = refl })))

-- two receives by one task at one cell, from a task elsewhere with the record u or v
pub record AwaitedAway (u v : Task) (o p : Outcome) : Type 0 where
  pub sender : o.sender ≡ u
  pub other_sender : p.sender ≡ v
  pub receiver : p.receiver ≡ o.receiver
  pub cell : p.cell ≡ o.cell
  pub posting : p.posting ≡ o.posting
  pub received : p.received ≡ o.received

pub awaited_away : (x y : Site) (c : ChannelId) (w k : ℕ) → y.receiver ≡ x.receiver → y.cell ≡ x.cell
    → is_at x.receiver.processor x.sender ≡ false → is_at x.receiver.processor y.sender ≡ false
    → AwaitedAway x.sender y.sender (receive_rule x c w) (receive_rule y c k)
unfolding receive_rule receive_waits
awaited_away x y c w k same cell ax ay =
    rw (same, cell, ax, ay, and_false x.sending, and_false y.sending)
    (both_picked (AwaitedAway x.sender y.sender) (counts x.cell x.cell.channel.carried) _ _ _ _
    (record { sender = refl; other_sender = refl; receiver = refl; cell = refl; posting = refl; received = refl })
    (both_picked (AwaitedAway x.sender y.sender) (none_called x.cell && not (is_none x.cell.entry.noted)) _ _ _ _
    (record { sender = refl; other_sender = refl; receiver = refl; cell = refl; posting = refl; received = refl })
    (record { sender = refl; other_sender = refl; receiver = refl; cell = refl; posting = refl; received = refl })))

-- two finishes of one task at one row, whose parent is elsewhere with the record y or z
pub record EndedAway (y z : Task) (o p : Finished) : Type 0 where
  pub parent : o.parent ≡ y
  pub other_parent : p.parent ≡ z
  pub task : p.task ≡ o.task
  pub entry : p.entry ≡ o.entry
  pub posting : p.posting ≡ o.posting

pub ended_away : (t : TaskId) (x y z : Task) (e : ParentEntry) → is_at x.processor y ≡ false → is_at x.processor z ≡ false
    → EndedAway y z (finish_rule t x y e) (finish_rule t x z e)
unfolding finish_rule
ended_away t x y z e ay az =
    rw (ay, az)
    (both_picked (EndedAway y z) (same_task t (task_id 1)) _ _ _ _
    (record { parent = refl; other_parent = refl; task = refl; entry = refl; posting = refl })
    (both_picked (EndedAway y z) (same_processor (newer e.hint x.origin).processor x.processor) _ _ _ _
    (record { parent = refl; other_parent = refl; task = refl; entry = refl; posting = refl })
    (record { parent = refl; other_parent = refl; task = refl; entry = refl; posting = refl })))

-- nobody changes its desk
record Stays (x y : Task) : Type 0 where
  pub processor : y.processor ≡ x.processor

pub record StayThere (x : Site) (o : Outcome) : Type 0 where
  pub sender : o.sender.processor ≡ x.sender.processor
  pub receiver : o.receiver.processor ≡ x.receiver.processor

pub send_stays : (x : Site) (c : ChannelId) (w : ℕ) → StayThere x (send_rule x c w)
unfolding send_rule send_passes send_waits
send_stays x c w =
    let d = x.sender.processor in
    let h = x.cell.entry.hint in
    pick_either (StayThere x) (is_at d x.receiver && (x.receiving && not x.cell.channel.awaiting)) _ _ (record { sender = refl; receiver = refl })
    (pick_either (StayThere x) (is_at d x.receiver) _ _ (record { sender = refl; receiver = refl })
    (pick_either (StayThere x) (is_unknown h) _ _ (record { sender = refl; receiver = refl })
    (pick_either (StayThere x) (same_processor h.processor d) _ _ (record { sender = refl; receiver = refl }) (record { sender = refl; receiver = refl }))))

pub receive_stays : (x : Site) (c : ChannelId) (w : ℕ) → StayThere x (receive_rule x c w)
unfolding receive_rule receive_passes receive_waits
receive_stays x c w =
    pick_either (StayThere x) (x.sending && is_at x.receiver.processor x.sender) _ _ (record { sender = refl; receiver = refl })
    (pick_either (StayThere x) (counts x.cell x.cell.channel.carried) _ _ (record { sender = refl; receiver = refl })
    (pick_either (StayThere x) (none_called x.cell && not (is_none x.cell.entry.noted)) _ _ (record { sender = refl; receiver = refl })
    (record { sender = refl; receiver = refl })))

without_stays : (x : Task) (t : TaskId) → Stays x (without_child x t)
unfolding woken
without_stays x t =
    let y = with_children x (removed t.0 x.children) in
    pick_either (Stays x) (is_in Waiting y && is_childless y) _ _ (record { processor = refl }) (record { processor = refl })

pub record StayFinished (x y : Task) (o : Finished) : Type 0 where
  pub task : o.task.processor ≡ x.processor
  pub parent : o.parent.processor ≡ y.processor

pub finish_stays : (t : TaskId) (x y : Task) (e : ParentEntry) → StayFinished x y (finish_rule t x y e)
unfolding finish_rule
finish_stays t x y e =
    pick_either (StayFinished x y) (same_task t (task_id 1)) _ _ (record { task = refl; parent = refl })
    (pick_either (StayFinished x y) (is_at x.processor y) _ _ (record { task = refl; parent = (without_stays y t).processor })
    (pick_either (StayFinished x y) (same_processor (newer e.hint x.origin).processor x.processor) _ _ (record { task = refl; parent = refl })
    (record { task = refl; parent = refl })))

sync_same : (x : Task) → Stays x (sync_rule x)
unfolding sync_rule
sync_same x = pick_either (Stays x) (is_childless x) _ _ (record { processor = refl }) (record { processor = refl })

pub sync_stays : (x : Task) → (sync_rule x).processor ≡ x.processor
sync_stays x = (sync_same x).processor
