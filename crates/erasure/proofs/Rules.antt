-- The rules about one channel, and those of a task and its parent: they pass words on without a look at them.
use mathlib.Core.Path.{◌≡◌, refl, ap}
use mathlib.Core.Bool.{◌&&◌, not}
use Prim.Native.Nat.{ℕ}
use lib.Dec.{eqb}
use Rattle.base.specs.Sets.{member, removed}
use Rattle.base.proofs.Choices.{pick_either}
use Rattle.plan.specs.declared.TaskId.{TaskId}
use Rattle.plan.specs.declared.ProcessorId.{ProcessorId}
use Rattle.plan.specs.declared.ChannelId.{ChannelId}
use Rattle.plan.specs.declared.Instruction.{Instruction}
use Rattle.plan.specs.declared.Word.{Word as WordOf}
use Rattle.plan.specs.Words.{zero_word, level_of, with_level, set_word, add_word}
use Rattle.rules.specs.declared.task.Task.{Task}
use Rattle.rules.specs.declared.task.TaskState.TheVariants.{Waiting, Done}
use Rattle.rules.specs.declared.channel.Hint.{Hint}
use Rattle.rules.specs.declared.channel.Offer.{Offer}
use Rattle.rules.specs.declared.message.Message.TheVariants.{Offered}
use Rattle.rules.specs.declared.rule.Site.{Site}
use Rattle.rules.specs.declared.rule.Posting.TheVariants.{Nothing, Single, Adverts}
use Rattle.rules.specs.declared.rule.Finished.{Finished}
use Rattle.rules.specs.declared.rule.Ended.{Ended}
use Rattle.rules.specs.declared.system.ParentEntry.{ParentEntry}
use Rattle.rules.specs.Numbers.{task_id, is_none, same_task, same_processor}
use Rattle.rules.specs.Hints.{is_unknown, newer, points_on}
use Rattle.rules.specs.Tasks.{is_in, is_at, with_state, with_children, advanced, is_childless, woken, without_child}
use Rattle.rules.specs.Cells.{offer, counts, none_called, carrying, holding, granting}
use Rattle.rules.specs.Local.{sync_rule, finish_rule, set_rule, add_rule}
use Rattle.rules.specs.Send.{send_passes, send_waits, send_rule}
use Rattle.rules.specs.Receive.{call_to, receive_passes, receive_waits, receive_rule}
use Rattle.rules.specs.Offers.{kept, offer_rule, advert_rule}
use Rattle.rules.specs.Calls.{call_rule, data_rule}
use Rattle.rules.specs.Arrivals.{terminated_rule}
use Rattle.rules.specs.Erasures.{erased_task, erased_message, erased_received, erased_instruction}
use Rattle.erasure.specs.Erased.{erased_posting, erased_site, erased_outcome, erased_finished, erased_ended}
use Rattle.erasure.proofs.Lists.{pick_map, choice_map}

module _ (x : Site) (c : ChannelId) where
  pub send_erased : (w : ℕ) → send_rule (erased_site x) c w ≡ erased_outcome (send_rule x c w)
  unfolding send_rule send_passes send_waits erased_posting erased_message erased_received
  send_erased w =
      let d = x.sender.processor in
      let o = offer d w in
      let h = x.cell.entry.hint in
      choice_map erased_outcome (is_at d x.receiver && (x.receiving && not x.cell.channel.awaiting)) (is_at d x.receiver) (is_unknown h)
      (same_processor h.processor d) (send_passes x c w) (send_waits x (carrying x.cell o) Nothing) (send_waits x x.cell (Adverts c d))
      (send_waits x (holding x.cell o) Nothing) (send_waits x x.cell (Single (Offered c o h)))

  pub receive_erased : (w : ℕ) → receive_rule (erased_site x) c w ≡ erased_outcome (receive_rule x c w)
  unfolding receive_rule receive_passes receive_waits erased_posting erased_message erased_received
  receive_erased w =
      pick_map erased_outcome (x.sending && is_at x.receiver.processor x.sender) (λ e. refl)
      (λ e.
      pick_map erased_outcome (counts x.cell x.cell.channel.carried) (λ e. refl)
      (λ e. pick_map erased_outcome (none_called x.cell && not (is_none x.cell.entry.noted)) (λ e. refl) (λ e. refl)))

  pub offer_erased : (o : Offer) (h : Hint) → offer_rule (erased_site x) c o h ≡ erased_outcome (offer_rule x c o h)
  unfolding offer_rule erased_posting erased_message erased_received
  offer_erased o h =
      let d = h.processor in
      choice_map erased_outcome (not (counts x.cell o) && is_at d x.receiver) (is_at d x.receiver && (x.receiving && not x.cell.channel.awaiting))
      (is_at d x.receiver) (points_on x.cell.entry.hint h d) (kept x x.cell Nothing) (kept x (granting x.cell) (call_to o.processor c x.receiver))
      (kept x (carrying x.cell o) Nothing) (kept x x.cell (Single (Offered c o x.cell.entry.hint))) (kept x (holding x.cell o) Nothing)

  pub advert_erased : (d from : ProcessorId) → advert_rule (erased_site x) c d from ≡ erased_outcome (advert_rule x c d from)
  unfolding advert_rule erased_posting erased_message erased_received
  advert_erased d from = pick_map erased_outcome (is_at d x.receiver && (x.receiving && none_called x.cell)) (λ e. refl) (λ e. refl)

  pub call_erased : (d : ProcessorId) (h : Hint) → call_rule (erased_site x) c d h ≡ erased_outcome (call_rule x c d h)
  unfolding call_rule erased_posting erased_message erased_received
  call_erased d h = pick_map erased_outcome (x.sending && is_at d x.sender) (λ e. refl) (λ e. refl)

  pub data_erased : (d : ProcessorId) (w : WordOf) → data_rule (erased_site x) c d zero_word ≡ erased_outcome (data_rule x c d w)
  unfolding data_rule erased_posting erased_message erased_received
  data_erased d w = pick_map erased_outcome (is_at d x.receiver && (x.receiving && x.cell.channel.awaiting)) (λ e. refl) (λ e. refl)

-- a task that loses a child and may wake, that waits for its children, that ends, and its parent
without_erased : (x : Task) (t : TaskId) → without_child (erased_task x) t ≡ erased_task (without_child x t)
unfolding woken
without_erased x t =
    let y = with_children x (removed t.0 x.children) in
    pick_map erased_task (is_in Waiting y && is_childless y) (λ e. refl) (λ e. refl)

pub sync_erased : (x : Task) → sync_rule (erased_task x) ≡ erased_task (sync_rule x)
unfolding sync_rule
sync_erased x = pick_map erased_task (is_childless x) (λ e. refl) (λ e. refl)

pub finish_rule_erased : (t : TaskId) (x parent : Task) (e : ParentEntry) → finish_rule t (erased_task x) (erased_task parent) e ≡ erased_finished (finish_rule t x parent e)
unfolding finish_rule erased_posting erased_message
finish_rule_erased t x parent e =
    let done = advanced (with_state x Done) in
    let left : Task → Finished = λ y. record { task = erased_task done; parent = y; entry = e; posting = Nothing } in
    pick_map erased_finished (same_task t (task_id 1)) (λ z. refl)
    (λ z.
    pick_map erased_finished (is_at x.processor parent) (λ z. ap left (without_erased parent t))
    (λ z. pick_map erased_finished (same_processor (newer e.hint x.origin).processor x.processor) (λ z. refl) (λ z. refl)))

pub ended_erased : (parent : Task) (e : ParentEntry) (h : Hint) (t : TaskId) → terminated_rule (erased_task parent) e h t ≡ erased_ended (terminated_rule parent e h t)
unfolding terminated_rule erased_posting erased_message
ended_erased parent e h t =
    let left : Task → Ended = λ y. record { parent = y; entry = e; posting = Nothing } in
    pick_map erased_ended (not (member t.0 parent.children)) (λ z. refl)
    (λ z.
    pick_map erased_ended (is_at h.processor parent) (λ z. ap left (without_erased parent t))
    (λ z. pick_map erased_ended (points_on e.hint h h.processor) (λ z. refl) (λ z. refl)))

-- a word of zeros stays one where 0 is set or added, and no sum goes over the top
zero_level : (k : ℕ) → level_of zero_word k ≡ 0
unfolding level_of
zero_level k = pick_either (λ n. n ≡ 0) (eqb k 0) _ _ refl (pick_either (λ n. n ≡ 0) (eqb k 1) _ _ refl (pick_either (λ n. n ≡ 0) (eqb k 2) _ _ refl refl))

zero_kept : (k : ℕ) → with_level zero_word k 0 ≡ zero_word
unfolding with_level
zero_kept k =
    pick_either (λ w. w ≡ zero_word) (eqb k 0) _ _ refl
    (pick_either (λ w. w ≡ zero_word) (eqb k 1) _ _ refl (pick_either (λ w. w ≡ zero_word) (eqb k 2) _ _ refl refl))

module _ (x : Task) (i : Instruction) (none : (erased_instruction i).operand ≡ 0) where
  pub set_rule_erased : set_rule (erased_task x) (erased_instruction i) ≡ erased_task (set_rule x i)
  unfolding set_word
  set_rule_erased = rw (none, zero_kept (erased_instruction i).level) refl

  pub add_rule_erased : add_rule (erased_task x) (erased_instruction i) ≡ erased_task (add_rule x i)
  unfolding add_word
  add_rule_erased = rw (none, zero_level (erased_instruction i).level, zero_kept (erased_instruction i).level) refl
