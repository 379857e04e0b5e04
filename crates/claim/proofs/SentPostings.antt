-- What the rules post and receive, as far as words go.
use mathlib.Core.Path.{◌≡◌, refl}
use mathlib.Core.Bool.{not, ◌&&◌}
use Prim.Native.Nat.{ℕ, ◌≤◌}
use native.Mathlib.Omega.{arith}
use lib.Dec.{eqb}
use lib.ListN.{length}
use Rattle.std.specs.Prelude.{None}
use Rattle.base.specs.Sets.{member}
use Rattle.base.proofs.Choices.{pick_either}
use Rattle.plan.specs.declared.ChannelId.{ChannelId}
use Rattle.plan.specs.declared.ProcessorId.{ProcessorId}
use Rattle.plan.specs.declared.TaskId.{TaskId}
use Rattle.plan.specs.declared.Word.{Word as WordOf}
use Rattle.plan.specs.Kinds.{op_create, op_sync, op_finish, op_send, op_receive, op_set}
use Rattle.plan.specs.Numbers.{task_id, same_task, same_processor}
use Rattle.rules.specs.declared.channel.Hint.{Hint}
use Rattle.rules.specs.declared.channel.Offer.{Offer}
use Rattle.rules.specs.declared.message.Message.{Message}
use Rattle.rules.specs.declared.message.Message.TheVariants.{Empty, Offered, Advert, ReadyToReceive, Data, Terminated, Migration}
use Rattle.rules.specs.declared.rule.Outcome.{Outcome}
use Rattle.rules.specs.declared.rule.Site.{Site}
use Rattle.rules.specs.declared.rule.Posting.{Posting}
use Rattle.rules.specs.declared.rule.Posting.TheVariants.{Nothing, Single}
use Rattle.rules.specs.declared.rule.Finished.{Finished}
use Rattle.rules.specs.declared.rule.Ended.{Ended}
use Rattle.rules.specs.declared.system.ParentEntry.{ParentEntry}
use Rattle.rules.specs.declared.system.System.{System}
use Rattle.rules.specs.declared.task.Task.{Task}
use Rattle.rules.specs.Numbers.{is_none}
use Rattle.rules.specs.Hints.{is_unknown, newer, points_on}
use Rattle.rules.specs.Tasks.{is_at}
use Rattle.rules.specs.Cells.{counts, none_called}
use Rattle.rules.specs.Networks.{messages_of}
use Rattle.rules.specs.Effects.{Effect, with_outcome}
use Rattle.rules.specs.Local.{finish_rule}
use Rattle.rules.specs.Send.{send_passes, send_waits, send_rule}
use Rattle.rules.specs.Receive.{receive_passes, receive_waits, receive_rule}
use Rattle.rules.specs.Offers.{offer_rule, advert_rule}
use Rattle.rules.specs.Calls.{call_rule, data_rule}
use Rattle.rules.specs.Arrivals.{terminated_rule}
use Rattle.rules.specs.Runs.{ran_create, ran_finish, ran_send, ran_receive, executed, ran, next_of}
use Rattle.rules.specs.Deliver.{got_terminated, opened}
use Rattle.rules.specs.Logs.{letter_word, posted_word}

-- no run posts a word letter: those of a send are offers and adverts, that of a receive is a call, that of a finish is an ended letter
abbrev Silent : Posting → Type 0
Silent p = posted_word p ≡ None

module _ (x : Site) (c : ChannelId) where
  send_silent : (w : ℕ) → Silent (send_rule x c w).posting
  unfolding send_rule send_passes send_waits posted_word letter_word
  send_silent w =
      let Q : Outcome → Type 0 = λ o. Silent o.posting in
      let d = x.sender.processor in
      let h = x.cell.entry.hint in
      pick_either Q (is_at d x.receiver && (x.receiving && not x.cell.channel.awaiting)) _ _ refl
      (pick_either Q (is_at d x.receiver) _ _ refl
      (pick_either Q (is_unknown h) _ _ refl (pick_either Q (same_processor h.processor d) _ _ refl refl)))

  receive_silent : (w : ℕ) → Silent (receive_rule x c w).posting
  unfolding receive_rule receive_passes receive_waits posted_word letter_word
  receive_silent w =
      let Q : Outcome → Type 0 = λ o. Silent o.posting in
      pick_either Q (x.sending && is_at x.receiver.processor x.sender) _ _ refl
      (pick_either Q (counts x.cell x.cell.channel.carried) _ _ refl
      (pick_either Q (none_called x.cell && not (is_none x.cell.entry.noted)) _ _ refl refl))

finish_silent : (t : TaskId) (x parent : Task) (e : ParentEntry) → Silent (finish_rule t x parent e).posting
unfolding finish_rule posted_word letter_word
finish_silent t x parent e =
    let Q : Finished → Type 0 = λ o. Silent o.posting in
    pick_either Q (same_task t (task_id 1)) _ _ refl
    (pick_either Q (is_at x.processor parent) _ _ refl
    (pick_either Q (same_processor (newer e.hint x.origin).processor x.processor) _ _ refl refl))

pub ran_silent : (r : System) (t : TaskId) → posted_word (ran r t).posting ≡ None
unfolding ran executed ran_create ran_finish ran_send ran_receive with_outcome posted_word
ran_silent r t =
    let i = next_of r t in
    let Q : Effect → Type 0 = λ e. Silent e.posting in
    pick_either Q (eqb i.opcode op_create) _ _ refl
    (pick_either Q (eqb i.opcode op_sync) _ _ refl
    (pick_either Q (eqb i.opcode op_finish) _ _ (finish_silent t _ _ _)
    (pick_either Q (eqb i.opcode op_send) _ _ (send_silent _ _ _)
    (pick_either Q (eqb i.opcode op_receive) _ _ (receive_silent _ _ _)
    (pick_either Q (eqb i.opcode op_set) _ _ refl refl)))))

-- what a letter does where it goes to, as far as words go: at most one letter is posted; but for a word letter nothing is received, and a word letter
-- posts nothing
data Small : Posting → Type 0 where
  nothing : Small Nothing
  single : (m : Message) → Small (Single m)

small_few : (n : ℕ) {p : Posting} → Small p → length (messages_of n p) ≤ 1
unfolding messages_of
small_few n nothing = omega arith
small_few n (single m) = omega arith

pub record Handled (m : Message) (e : Effect) : Type 0 where
  pub few : (n : ℕ) → length (messages_of n e.posting) ≤ 1
  pub received : letter_word m ≡ None → e.received ≡ None

abbrev Passes : Outcome → Type 0
Passes o = Small o.posting × (o.received ≡ None)

module _ (x : Site) (c : ChannelId) where
  offer_passes : (o : Offer) (h : Hint) → Passes (offer_rule x c o h)
  unfolding offer_rule
  offer_passes o h =
      let d = h.processor in
      pick_either Passes (not (counts x.cell o) && is_at d x.receiver) _ _ (nothing, refl)
      (pick_either Passes (is_at d x.receiver && (x.receiving && not x.cell.channel.awaiting)) _ _ (single _, refl)
      (pick_either Passes (is_at d x.receiver) _ _ (nothing, refl)
      (pick_either Passes (points_on x.cell.entry.hint h d) _ _ (single _, refl) (nothing, refl))))

  advert_passes_lem : (d from : ProcessorId) → Passes (advert_rule x c d from)
  unfolding advert_rule
  advert_passes_lem d from = pick_either Passes (is_at d x.receiver && (x.receiving && none_called x.cell)) _ _ (single _, refl) (nothing, refl)

  call_passes_lem : (d : ProcessorId) (h : Hint) → Passes (call_rule x c d h)
  unfolding call_rule
  call_passes_lem d h = pick_either Passes (x.sending && is_at d x.sender) _ _ (single _, refl) (nothing, refl)

  pub data_posts : (d : ProcessorId) (w : WordOf) → (data_rule x c d w).posting ≡ Nothing
  unfolding data_rule
  data_posts d w =
      pick_either (λ (o : Outcome). o.posting ≡ Nothing) (is_at d x.receiver && (x.receiving && x.cell.channel.awaiting)) _ _ refl refl

ended_small : (parent : Task) (e : ParentEntry) (h : Hint) (t : TaskId) → Small (terminated_rule parent e h t).posting
unfolding terminated_rule
ended_small parent e h t =
    let Q : Ended → Type 0 = λ o. Small o.posting in
    let d = h.processor in
    pick_either Q (not (member t.0 parent.children)) _ _ nothing
    (pick_either Q (is_at d parent) _ _ nothing (pick_either Q (points_on e.hint h d) _ _ (single _) nothing))

by_outcome : (m : Message) (e : Effect) → Small e.posting × (e.received ≡ None) → Handled m e
by_outcome m e (small, none) = record { few = λ n. small_few n small; received = λ z. none }

pub handled : (r : System) (m : Message) → Handled m (opened r m)
unfolding opened with_outcome got_terminated letter_word
handled r Empty = by_outcome Empty _ (nothing, refl)
handled r (Offered c o h) = by_outcome (Offered c o h) _ (offer_passes _ c o h)
handled r (Advert c d from) = by_outcome (Advert c d from) _ (advert_passes_lem _ c d from)
handled r (ReadyToReceive c d h) = by_outcome (ReadyToReceive c d h) _ (call_passes_lem _ c d h)
handled r (Data c d w) =
    let none : (opened r (Data c d w)).posting ≡ Nothing = data_posts _ c d w in
    record { few = λ n. rw none (small_few n nothing); received = λ z. let q : ◌≡◌ {A = ℕ} 0 1 = cc in absurd (omega arith) }
handled r (Terminated h t) = by_outcome (Terminated h t) _ (ended_small _ _ h t, refl)
handled r (Migration d t) = by_outcome (Migration d t) _ (nothing, refl)
