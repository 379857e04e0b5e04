-- The rules of a run take the task that runs one place on.
use mathlib.Core.Path.{◌≡◌}
use mathlib.Core.Bool.{◌&&◌, not}
use Prim.Native.Nat.{ℕ, suc}
use native.Mathlib.Omega.{arith}
use lib.Dec.{eqb}
use Rattle.base.proofs.Choices.{pick_either}
use Rattle.plan.specs.declared.TaskId.{TaskId}
use Rattle.plan.specs.declared.ChannelId.{ChannelId}
use Rattle.plan.specs.Numbers.{task_id}
use Rattle.rules.specs.declared.task.Task.{Task}
use Rattle.rules.specs.declared.rule.Outcome.{Outcome}
use Rattle.rules.specs.declared.rule.Finished.{Finished}
use Rattle.rules.specs.declared.rule.Site.{Site}
use Rattle.rules.specs.declared.system.ParentEntry.{ParentEntry}
use Rattle.rules.specs.Numbers.{same_task, same_processor, is_none}
use Rattle.rules.specs.Hints.{is_unknown, newer}
use Rattle.rules.specs.Tasks.{is_at}
use Rattle.rules.specs.Cells.{counts, none_called}
use Rattle.rules.specs.Local.{sync_rule, finish_rule}
use Rattle.rules.specs.Send.{send_passes, send_waits, send_rule}
use Rattle.rules.specs.Receive.{receive_passes, receive_waits, receive_rule}

-- what each rule leaves of the task that runs
pub sync_place : (x : Task) → (sync_rule x).pc ≡ suc x.pc
unfolding sync_rule
sync_place x = pick_either (λ (y : Task). y.pc ≡ suc x.pc) (eqb x.children 0) _ _ (omega arith) (omega arith)

pub finish_place : (t : TaskId) (x parent : Task) (e : ParentEntry) → (finish_rule t x parent e).task.pc ≡ suc x.pc
unfolding finish_rule
finish_place t x parent e =
    let P : Finished → Type 0 = λ o. o.task.pc ≡ suc x.pc in
    pick_either P (same_task t (task_id 1)) _ _ (omega arith)
    (pick_either P (is_at x.processor parent) _ _ (omega arith)
    (pick_either P (same_processor (newer e.hint x.origin).processor x.processor) _ _ (omega arith) (omega arith)))

pub send_place : (x : Site) (c : ChannelId) (w : ℕ) → (send_rule x c w).sender.pc ≡ suc x.sender.pc
unfolding send_rule send_passes send_waits
send_place x c w =
    let P : Outcome → Type 0 = λ o. o.sender.pc ≡ suc x.sender.pc in
    let d = x.sender.processor in
    pick_either P (is_at d x.receiver && (x.receiving && not x.cell.channel.awaiting)) _ _ (omega arith)
    (pick_either P (is_at d x.receiver) _ _ (omega arith)
    (pick_either P (is_unknown x.cell.entry.hint) _ _ (omega arith)
    (pick_either P (same_processor x.cell.entry.hint.processor d) _ _ (omega arith) (omega arith))))

pub receive_place : (x : Site) (c : ChannelId) (w : ℕ) → (receive_rule x c w).receiver.pc ≡ suc x.receiver.pc
unfolding receive_rule receive_passes receive_waits
receive_place x c w =
    let P : Outcome → Type 0 = λ o. o.receiver.pc ≡ suc x.receiver.pc in
    pick_either P (x.sending && is_at x.receiver.processor x.sender) _ _ (omega arith)
    (pick_either P (counts x.cell x.cell.channel.carried) _ _ (omega arith)
    (pick_either P (none_called x.cell && not (is_none x.cell.entry.noted)) _ _ (omega arith) (omega arith)))
