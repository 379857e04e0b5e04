-- The rules about one channel leave good words of good ones.
use mathlib.Core.Path.{◌≡◌, refl}
use mathlib.Core.Bool.{Bool, true, not, ◌&&◌}
use Prim.Native.Nat.{ℕ, ◌≤◌}
use borrow.Author.Tests.{le-leb}
use Rattle.std.specs.Prelude.{Some}
use Rattle.base.proofs.Choices.{pick_either}
use Rattle.plan.specs.declared.ProcessorId.{ProcessorId}
use Rattle.plan.specs.declared.ChannelId.{ChannelId}
use Rattle.plan.specs.declared.Word.{Word as WordOf}
use Rattle.rules.specs.declared.channel.Hint.{Hint}
use Rattle.rules.specs.declared.channel.Offer.{Offer}
use Rattle.rules.specs.declared.channel.Cell.{Cell}
use Rattle.rules.specs.declared.message.Message.TheVariants.{Offered, ReadyToReceive, Data}
use Rattle.rules.specs.declared.rule.Site.{Site}
use Rattle.rules.specs.declared.rule.Posting.{Posting}
use Rattle.rules.specs.Numbers.{same_processor, is_none}
use Rattle.rules.specs.Tasks.{is_at}
use Rattle.rules.specs.Cells.{hint, is_unknown, offer, counts, none_called}
use Rattle.rules.specs.Send.{send_passes, send_waits, send_rule}
use Rattle.rules.specs.Receive.{call_to, receive_passes, receive_waits, receive_rule}
use Rattle.rules.specs.Offers.{kept, points_on, offer_rule, advert_rule}
use Rattle.rules.specs.Calls.{call_rule, data_rule}
use Rattle.rules_sound.specs.Words.{task_good, message_good, received_good, GoodPosting, GoodOutcome}
use Rattle.rules_sound.proofs.Words.Postings.{none_good, message_good_lem, adverts_good}

received_good_lem : (good : WordOf → Bool) (c : ChannelId) (w : WordOf) → c.0 ≤ 128 → good w ≡ true → received_good good (Some (c, w)) ≡ true
unfolding received_good
received_good_lem good c w h k = rw (le-leb c.0 128 h) k

-- a site whose tasks' words are good
module _ {good : WordOf → Bool} (c : ChannelId) (x : Site) (s : task_good good x.sender ≡ true) (u : task_good good x.receiver ≡ true) where
  kept_good : (y : Cell) (p : Posting) → GoodPosting good p → GoodOutcome good (kept x y p)
  unfolding received_good
  kept_good y p h = record { sender = s; receiver = u; posting = h; received = refl }

  send_waits_lem : (y : Cell) (p : Posting) → GoodPosting good p → GoodOutcome good (send_waits x y p)
  unfolding send_waits received_good
  send_waits_lem y p h = record { sender = s; receiver = u; posting = h; received = refl }

  receive_waits_lem : (y : Cell) (p : Posting) → GoodPosting good p → GoodOutcome good (receive_waits x y p)
  unfolding receive_waits received_good
  receive_waits_lem y p h = record { sender = s; receiver = u; posting = h; received = refl }

  passes_good : (w : ℕ) → c.0 ≤ 128 → (GoodOutcome good (send_passes x c w)) × (GoodOutcome good (receive_passes x c w))
  unfolding send_passes receive_passes
  passes_good w h =
      let word = received_good_lem good c x.sender.word h s in (
        record { sender = s; receiver = s; posting = none_good; received = word },
        record { sender = s; receiver = s; posting = none_good; received = word },
      )

  pub send_good : (w : ℕ) → c.0 ≤ 128 → GoodOutcome good (send_rule x c w)
  unfolding send_rule message_good
  send_good w l =
      let d = x.sender.processor in
      let h = x.cell.entry.hint in
      pick_either (GoodOutcome good) (is_at d x.receiver && (x.receiving && not x.cell.channel.awaiting)) _ _ (passes_good w l).0
      (pick_either (GoodOutcome good) (is_at d x.receiver) _ _ (send_waits_lem _ _ none_good)
      (pick_either (GoodOutcome good) (is_unknown h) _ _ (send_waits_lem _ _ (adverts_good c d))
      (pick_either (GoodOutcome good) (same_processor h.processor d) _ _ (send_waits_lem _ _ none_good)
      (send_waits_lem _ _ (message_good_lem (Offered c (offer d w) h) refl)))))

  called_good : (from : ProcessorId) → GoodPosting good (call_to from c x.receiver)
  unfolding message_good
  called_good from = message_good_lem (ReadyToReceive c from (hint x.receiver.processor x.receiver.moves)) refl

  pub receive_good : (w : ℕ) → c.0 ≤ 128 → GoodOutcome good (receive_rule x c w)
  unfolding receive_rule
  receive_good w l =
      let o = x.cell.channel.carried in
      let from = x.cell.entry.noted in
      pick_either (GoodOutcome good) (x.sending && is_at x.receiver.processor x.sender) _ _ (passes_good w l).1
      (pick_either (GoodOutcome good) (counts x.cell o) _ _ (receive_waits_lem _ _ (called_good o.processor))
      (pick_either (GoodOutcome good) (none_called x.cell && not (is_none from)) _ _ (receive_waits_lem _ _ (called_good from))
      (receive_waits_lem _ _ none_good)))

  pub offer_good : (o : Offer) (h : Hint) → GoodOutcome good (offer_rule x c o h)
  unfolding offer_rule message_good
  offer_good o h =
      let d = h.processor in
      let own = x.cell.entry.hint in
      pick_either (GoodOutcome good) (not (counts x.cell o) && is_at d x.receiver) _ _ (kept_good _ _ none_good)
      (pick_either (GoodOutcome good) (is_at d x.receiver && (x.receiving && not x.cell.channel.awaiting)) _ _ (kept_good _ _ (called_good o.processor))
      (pick_either (GoodOutcome good) (is_at d x.receiver) _ _ (kept_good _ _ none_good)
      (pick_either (GoodOutcome good) (points_on own h d) _ _ (kept_good _ _ (message_good_lem (Offered c o own) refl))
      (kept_good _ _ none_good))))

  pub advert_good : (d from : ProcessorId) → GoodOutcome good (advert_rule x c d from)
  unfolding advert_rule
  advert_good d from =
      pick_either (GoodOutcome good) (is_at d x.receiver && (x.receiving && none_called x.cell)) _ _ (kept_good _ _ (called_good from)) (kept_good _ _ none_good)

  pub call_good : (d : ProcessorId) (h : Hint) → GoodOutcome good (call_rule x c d h)
  unfolding call_rule message_good received_good
  call_good d h =
      pick_either (GoodOutcome good) (x.sending && is_at d x.sender) _ _
      (record { sender = s; receiver = u; posting = message_good_lem (Data c h.processor x.sender.word) s; received = refl })
      (kept_good _ _ none_good)

  pub data_good : (d : ProcessorId) (w : WordOf) → c.0 ≤ 128 → good w ≡ true → GoodOutcome good (data_rule x c d w)
  unfolding data_rule
  data_good d w h k =
      pick_either (GoodOutcome good) (is_at d x.receiver && (x.receiving && x.cell.channel.awaiting)) _ _
      (record { sender = s; receiver = k; posting = none_good; received = received_good_lem good c w h k })
      (kept_good _ _ none_good)
