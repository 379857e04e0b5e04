-- A send at a fine site leaves fine tasks, a fine cell and fine letters.
use mathlib.Core.Path.{◌≡◌, refl}
use mathlib.Core.Bool.{true, not, ◌&&◌}
use Prim.Native.Nat.{ℕ, ◌≤◌}
use Rattle.base.specs.Choice.{within}
use Rattle.base.proofs.Choices.{pick_cases}
use Rattle.base.proofs.Tests.{and_left, and_right, and_both, within_both}
use Rattle.plan.specs.declared.ChannelId.{ChannelId}
use Rattle.plan.specs.Kinds.{op_send}
use Rattle.plan.specs.Programs.{Program}
use Rattle.rules.specs.declared.task.TaskState.TheVariants.{Receiving, Ready, Sending}
use Rattle.rules.specs.declared.channel.Cell.{Cell}
use Rattle.rules.specs.declared.rule.Site.{Site}
use Rattle.rules.specs.declared.rule.Posting.{Posting}
use Rattle.rules.specs.Numbers.{same_processor, processor_ok, channel_number_ok}
use Rattle.rules.specs.Tasks.{is_at, state_number, advanced, taking, with_state}
use Rattle.rules.specs.Cells.{is_unknown, offer}
use Rattle.rules.specs.Send.{send_passes, send_waits, send_rule}
use Rattle.rules.specs.Sound.{made_ok}
use Rattle.rules_sound.specs.Fine.{FineCell, FinePosting}
use Rattle.rules_sound.specs.Sites.{FineSite, FineOutcome, Acting}
use Rattle.rules_sound.proofs.Settled.{settled, acting_settled}
use Rattle.rules_sound.proofs.TaskRules.{taking_ok, advanced_ok, sending_ok}
use Rattle.rules_sound.proofs.Cells.{fine_known, made_fine, carrying_fine, holding_fine, passing_fine}
use Rattle.rules_sound.proofs.Postings.{nothing_posted, offered_posted, adverts_posted}
use Rattle.rules_sound.proofs.Origins.{same_origin, born_origin}
use borrow.Author.Tests.{eqb-true}

module _ (n m : ℕ) (gs gr : Program) (x : Site) (f : FineSite n m gr x) (a : Acting n m gs op_send x.sender) where
  passes_fine : x.receiving ≡ true → (c : ChannelId) (w : ℕ) → w ≤ 64 → FineOutcome n m gs gr (FinePosting n m) x (send_passes x c w)
  unfolding send_passes
  passes_fine e c w l =
      record {
        sender = λ h. advanced_ok n m gs x.sender op_send a;
        receiver = λ h. taking_ok n m gr x.receiver (settled n m gr x.receiver Receiving refl (f.receiving e) h) x.sender.word;
        sender_origin = born_origin Ready x.sender (advanced x.sender) a.ready refl refl (rw (eqb-true (state_number x.sender.state) 1 a.ready) refl);
        receiver_origin = born_origin Receiving x.receiver (taking x.receiver x.sender.word) (f.receiving e) refl refl refl;
        cell = passing_fine n x.cell f.cell w l;
        posting = nothing_posted n m;
      }

  waits_fine : (cell : Cell) (posting : Posting) → FineCell n cell → FinePosting n m posting → FineOutcome n m gs gr (FinePosting n m) x (send_waits x cell posting)
  unfolding send_waits
  waits_fine cell posting p q =
      record {
        sender = λ h. sending_ok n m gs x.sender a;
        receiver = λ h. h;
        sender_origin = born_origin Ready x.sender (advanced (with_state x.sender Sending)) a.ready refl refl refl;
        receiver_origin = same_origin x.receiver;
        cell = p;
        posting = q;
      }

  pub send_fine : (c : ChannelId) (w : ℕ) → channel_number_ok c ≡ true → 1 ≤ w → w ≤ 64 → FineOutcome n m gs gr (FinePosting n m) x (send_rule x c w)
  unfolding send_rule
  send_fine c w k l u =
      let d = x.sender.processor in
      let o = offer d w in
      let h = x.cell.entry.hint in
      let P = FineOutcome n m gs gr (FinePosting n m) x in
      let s = acting_settled n m gs x.sender op_send a in
      let here : processor_ok n d ≡ true = within_both 1 n d.0 s.processor s.processor_few in
      let made : made_ok n o ≡ true = and_both (processor_ok n d) (within 1 64 w) here (within_both 1 64 w l u) in
      pick_cases P (is_at d x.receiver && (x.receiving && not x.cell.channel.awaiting)) _ _
      (λ e. passes_fine (and_left x.receiving _ (and_right (is_at d x.receiver) _ e)) c w u)
      (λ e.
      pick_cases P (is_at d x.receiver) _ _
      (λ e. waits_fine _ _ (carrying_fine n x.cell f.cell o (made_fine n o made)) (nothing_posted n m))
      (λ e.
      pick_cases P (is_unknown h) _ _
      (λ e. waits_fine _ _ f.cell (adverts_posted n m c k d here))
      (λ u.
      pick_cases P (same_processor h.processor d) _ _
      (λ e. waits_fine _ _ (holding_fine n x.cell f.cell o (made_fine n o made)) (nothing_posted n m))
      (λ e. waits_fine _ _ f.cell (offered_posted n m c k o h made (fine_known n h f.cell.entry.hint u))))))
