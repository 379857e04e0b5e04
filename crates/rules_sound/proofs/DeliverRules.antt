-- Letters delivered at a fine site leave fine tasks, a fine cell and fine letters, at most one.
use mathlib.Core.Path.{◌≡◌, refl}
use mathlib.Core.Bool.{true, not, ◌&&◌}
use Prim.Native.Nat.{ℕ, ◌≤◌, ◌<◌}
use native.Mathlib.Omega.{arith}
use borrow.Author.Tests.{eqb-true, ltb-true, not-false}
use Rattle.base.proofs.Choices.{pick_cases}
use Rattle.base.proofs.Tests.{and_left, and_right, within_low, within_high, first_fails}
use Rattle.plan.specs.declared.ProcessorId.{ProcessorId}
use Rattle.plan.specs.declared.ChannelId.{ChannelId}
use Rattle.plan.specs.declared.Word.{Word}
use Rattle.plan.specs.Programs.{Program}
use Rattle.rules.specs.declared.task.TaskState.TheVariants.{Sending, Receiving}
use Rattle.rules.specs.declared.channel.Hint.{Hint}
use Rattle.rules.specs.declared.channel.Offer.{Offer}
use Rattle.rules.specs.declared.channel.Cell.{Cell}
use Rattle.rules.specs.declared.rule.Site.{Site}
use Rattle.rules.specs.declared.message.Message.TheVariants.{Offered, ReadyToReceive, Data}
use Rattle.rules.specs.declared.rule.Posting.{Posting}
use Rattle.rules.specs.declared.rule.Outcome.{Outcome}
use Rattle.rules.specs.Numbers.{same_processor, processor_ok, channel_number_ok}
use Rattle.rules.specs.Tasks.{is_at, readied, taking}
use Rattle.rules.specs.Cells.{hint, newer, counts, none_called, granting}
use Rattle.rules.specs.Receive.{call_to}
use Rattle.rules.specs.Offers.{kept, points_on, offer_rule, advert_rule}
use Rattle.rules.specs.Calls.{call_rule, data_rule}
use Rattle.rules.specs.Sound.{known_ok, made_ok}
use Rattle.rules_sound.specs.Fine.{FineCell, FineReply}
use Rattle.rules_sound.specs.Sites.{FineSite, FineOutcome}
use Rattle.rules_sound.proofs.Born.{here_known}
use Rattle.rules_sound.proofs.Settled.{settled}
use Rattle.rules_sound.proofs.TaskRules.{readied_ok, taking_ok}
use Rattle.rules_sound.proofs.Cells.{known_fine, counted_known, made_fine, newer_fine, with_hint_fine, carrying_fine, holding_fine, noting_fine, granting_fine, cleared_fine, counts_more, none_more}
use Rattle.rules_sound.proofs.Postings.{nothing_reply, message_reply, offered_posted, call_posted, data_posted}
use Rattle.rules_sound.proofs.Origins.{same_origin, born_origin}

module _ (n m : ℕ) (gs gr : Program) (x : Site) (f : FineSite n m gr x) where
  abbrev Left : Outcome → Type 0
  Left = FineOutcome n m gs gr (FineReply n m) x

  kept_fine : (cell : Cell) (posting : Posting) → FineCell n cell → FineReply n m posting → Left (kept x cell posting)
  kept_fine cell posting p q =
      record {
        sender = λ h. h;
        receiver = λ h. h;
        sender_origin = same_origin x.sender;
        receiver_origin = same_origin x.receiver;
        cell = p;
        posting = q;
      }

  -- the receiver is at a desk of the rig, so that a call can name it
  here : (d : ProcessorId) → processor_ok n d ≡ true → is_at d x.receiver ≡ true → known_ok n (hint x.receiver.processor x.receiver.moves) ≡ true
  here d p e =
      let l : 1 ≤ x.receiver.processor.0 = omega (arith, eqb-true x.receiver.processor.0 d.0 e, within_low 1 n d.0 p) in
      here_known n m gr x.receiver (f.here l) l

  module _ (c : ChannelId) (k : channel_number_ok c ≡ true) where
    -- an offer or an advert from a desk is answered
    answered_fine : (from : ProcessorId) → processor_ok n from ≡ true → (d : ProcessorId) → processor_ok n d ≡ true → is_at d x.receiver ≡ true
        → x.cell.channel.granted < 64 → Left (kept x (granting x.cell) (call_to from c x.receiver))
    answered_fine from p d q e l =
        kept_fine _ _ (granting_fine n x.cell f.cell l)
        (message_reply n m (ReadyToReceive c from (hint x.receiver.processor x.receiver.moves)) (call_posted n m c k from x.receiver p (here d q e)))

    pub offer_fine : (o : Offer) (h : Hint) → made_ok n o ≡ true → known_ok n h ≡ true → Left (offer_rule x c o h)
    unfolding offer_rule
    offer_fine o h made known =
        let d = h.processor in
        let own = x.cell.entry.hint in
        let held = made_fine n o made in
        let from = and_left (processor_ok n o.processor) _ made in
        let processor = and_left (processor_ok n d) _ known in
        pick_cases Left (not (counts x.cell o) && is_at d x.receiver) _ _
        (λ e. kept_fine _ _ f.cell (nothing_reply n m))
        (λ late.
        pick_cases Left (is_at d x.receiver && (x.receiving && not x.cell.channel.awaiting)) _ _
        (λ e.
        let at = and_left (is_at d x.receiver) _ e in
        let new = not-false _ (first_fails (not (counts x.cell o)) (is_at d x.receiver) late at) in
        answered_fine o.processor from d processor at (counts_more n x.cell f.cell o held new))
        (λ e.
        pick_cases Left (is_at d x.receiver) _ _
        (λ e. kept_fine _ _ (carrying_fine n x.cell f.cell o held) (nothing_reply n m))
        (λ e.
        pick_cases Left (points_on own h d) _ _
        (λ e.
        let l = ltb-true h.moves own.moves (and_right (not (same_processor own.processor d)) _ e) in
        let on = counted_known n own f.cell.entry.hint (omega arith) in
        kept_fine _ _ f.cell (message_reply n m (Offered c o own) (offered_posted n m c k o own made on)))
        (λ e. kept_fine _ _ (holding_fine n x.cell f.cell o held) (nothing_reply n m)))))

    pub advert_fine : (d from : ProcessorId) → processor_ok n d ≡ true → processor_ok n from ≡ true → Left (advert_rule x c d from)
    unfolding advert_rule
    advert_fine d from p q =
        pick_cases Left (is_at d x.receiver && (x.receiving && none_called x.cell)) _ _
        (λ e.
        let none = and_right x.receiving _ (and_right (is_at d x.receiver) _ e) in
        answered_fine from q d p (and_left (is_at d x.receiver) _ e) (none_more n x.cell f.cell none))
        (λ e. kept_fine _ _ (noting_fine n x.cell f.cell from (within_high 1 n from.0 q)) (nothing_reply n m))

    pub call_fine : (d : ProcessorId) (h : Hint) → known_ok n h ≡ true → Left (call_rule x c d h)
    unfolding call_rule
    call_fine d h known =
        let own = x.cell.entry.hint in
        let word = data_posted n m c k h.processor x.sender.word (and_left (processor_ok n h.processor) _ known) in
        pick_cases Left (x.sending && is_at d x.sender) _ _
        (λ e.
        record {
          sender = λ s. readied_ok n m gs x.sender (settled n m gs x.sender Sending refl (f.sending (and_left x.sending _ e)) s);
          receiver = λ s. s;
          sender_origin = born_origin Sending x.sender (readied x.sender) (f.sending (and_left x.sending _ e)) refl refl refl;
          receiver_origin = same_origin x.receiver;
          cell = with_hint_fine n x.cell f.cell (newer own h) (newer_fine n own h f.cell.entry.hint (known_fine n h known));
          posting = message_reply n m (Data c h.processor x.sender.word) word;
        })
        (λ e. kept_fine _ _ f.cell (nothing_reply n m))

  pub data_fine : (c : ChannelId) (d : ProcessorId) (w : Word) → Left (data_rule x c d w)
  unfolding data_rule
  data_fine c d w =
      pick_cases Left (is_at d x.receiver && (x.receiving && x.cell.channel.awaiting)) _ _
      (λ e.
      let on = f.receiving (and_left x.receiving _ (and_right (is_at d x.receiver) _ e)) in
      record {
        sender = λ s. s;
        receiver = λ s. taking_ok n m gr x.receiver (settled n m gr x.receiver Receiving refl on s) w;
        sender_origin = same_origin x.sender;
        receiver_origin = born_origin Receiving x.receiver (taking x.receiver w) on refl refl refl;
        cell = cleared_fine n x.cell f.cell;
        posting = nothing_reply n m;
      })
      (λ e. kept_fine _ _ f.cell (nothing_reply n m))
