-- A receive at a fine site leaves fine tasks, a fine cell and fine letters.
use mathlib.Core.Path.{◌≡◌, refl}
use mathlib.Core.Bool.{true, not, ◌&&◌}
use Prim.Native.Nat.{ℕ, ◌≤◌}
use native.Mathlib.Omega.{arith}
use borrow.Author.Tests.{eqb-false, not-true}
use Rattle.base.proofs.Choices.{pick_cases}
use Rattle.base.proofs.Tests.{and_left, and_right, within_both}
use Rattle.plan.specs.declared.ChannelId.{ChannelId}
use Rattle.plan.specs.Kinds.{op_receive}
use Rattle.plan.specs.Programs.{Program}
use Rattle.rules.specs.declared.task.TaskState.TheVariants.{Sending, Ready, Receiving}
use Rattle.rules.specs.declared.channel.Cell.{Cell}
use Rattle.rules.specs.declared.rule.Site.{Site}
use Rattle.rules.specs.declared.rule.Posting.{Posting}
use Rattle.rules.specs.Numbers.{no_processor, is_none, processor_ok, channel_number_ok}
use Rattle.rules.specs.Tasks.{is_at, advanced, readied, taking, with_state}
use Rattle.rules.specs.Cells.{hint, no_offer, counts, none_called, with_noted, with_carried, passing}
use Rattle.rules.specs.Receive.{receive_passes, receive_waits, receive_rule}
use Rattle.rules.specs.Sound.{known_ok}
use Rattle.rules_sound.specs.Fine.{FineCell, FinePosting}
use Rattle.rules_sound.specs.Sites.{FineSite, FineOutcome, Acting}
use Rattle.rules_sound.proofs.Born.{here_known}
use Rattle.rules_sound.proofs.Settled.{settled, acting_settled}
use Rattle.rules_sound.proofs.TaskRules.{readied_ok, passing_ok, receiving_ok}
use Rattle.rules_sound.proofs.Cells.{with_noted_fine, with_carried_fine, granting_fine, passing_fine, counts_made, counts_more, none_more}
use Rattle.rules_sound.proofs.Postings.{nothing_posted, call_posted}
use Rattle.rules_sound.proofs.Origins.{same_origin, born_origin}

module _ (n m : ℕ) (gs gr : Program) (x : Site) (f : FineSite n m gr x) (a : Acting n m gr op_receive x.receiver) where
  passes_fine : x.sending ≡ true → (c : ChannelId) (w : ℕ) → w ≤ 64 → FineOutcome n m gs gr (FinePosting n m) x (receive_passes x c w)
  unfolding receive_passes
  passes_fine e c w l =
      record {
        sender = λ h. readied_ok n m gs x.sender (settled n m gs x.sender Sending refl (f.sending e) h);
        receiver = λ h. passing_ok n m gr x.receiver op_receive a x.sender.word;
        sender_origin = born_origin Sending x.sender (readied x.sender) (f.sending e) refl refl refl;
        receiver_origin = born_origin Ready x.receiver (advanced (taking x.receiver x.sender.word)) a.ready refl refl refl;
        cell = with_carried_fine n (passing x.cell w) (passing_fine n x.cell f.cell w l) no_offer refl;
        posting = nothing_posted n m;
      }

  waits_fine : (cell : Cell) (posting : Posting) → FineCell n cell → FinePosting n m posting → FineOutcome n m gs gr (FinePosting n m) x (receive_waits x cell posting)
  unfolding receive_waits
  waits_fine cell posting p q =
      record {
        sender = λ h. h;
        receiver = λ h. receiving_ok n m gr x.receiver a;
        sender_origin = same_origin x.sender;
        receiver_origin = born_origin Ready x.receiver (advanced (with_state x.receiver Receiving)) a.ready refl refl refl;
        cell = p;
        posting = q;
      }

  pub receive_fine : (c : ChannelId) (w : ℕ) → channel_number_ok c ≡ true → w ≤ 64 → FineOutcome n m gs gr (FinePosting n m) x (receive_rule x c w)
  unfolding receive_rule
  receive_fine c w k l =
      let d = x.receiver.processor in
      let o = x.cell.channel.carried in
      let from = x.cell.entry.noted in
      let P = FineOutcome n m gs gr (FinePosting n m) x in
      let here : known_ok n (hint d x.receiver.moves) ≡ true = here_known n m gr x.receiver a.fine (acting_settled n m gr x.receiver op_receive a).processor in
      pick_cases P (x.sending && is_at d x.sender) _ _
      (λ e. passes_fine (and_left x.sending _ e) c w l)
      (λ e.
      pick_cases P (counts x.cell o) _ _
      (λ e.
      let made = counts_made n x.cell f.cell o f.cell.channel.carried e in
      waits_fine _ _
      (granting_fine n (with_carried x.cell no_offer) (with_carried_fine n x.cell f.cell no_offer refl)
      (counts_more n x.cell f.cell o f.cell.channel.carried e))
      (call_posted n m c k o.processor x.receiver (and_left (processor_ok n o.processor) _ made) here))
      (λ e.
      pick_cases P (none_called x.cell && not (is_none from)) _ _
      (λ e.
      let some = eqb-false from.0 0 (not-true _ (and_right (none_called x.cell) _ e)) in
      waits_fine _ _
      (granting_fine n (with_noted x.cell no_processor) (with_noted_fine n x.cell f.cell no_processor (omega arith))
      (none_more n x.cell f.cell (and_left (none_called x.cell) _ e)))
      (call_posted n m c k from x.receiver (within_both 1 n from.0 (omega arith) f.cell.entry.noted) here))
      (λ e. waits_fine _ _ f.cell (nothing_posted n m))))
