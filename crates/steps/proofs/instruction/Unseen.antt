-- What a rule does not see of a cell it leaves as it was.
use mathlib.Core.Path.{◌≡◌, refl}
use mathlib.Core.Bool.{Bool, true, false, not, ◌&&◌}
use Prim.Native.Nat.{ℕ}
use Rattle.base.specs.Choice.{pick}
use Rattle.plan.specs.declared.ChannelId.{ChannelId}
use Rattle.plan.specs.declared.ProcessorId.{ProcessorId}
use Rattle.rules.specs.declared.channel.Hint.{Hint}
use Rattle.rules.specs.declared.channel.Offer.{Offer}
use Rattle.rules.specs.declared.channel.Cell.{Cell}
use Rattle.rules.specs.declared.rule.Site.{Site}
use Rattle.rules.specs.declared.rule.Outcome.{Outcome}
use Rattle.rules.specs.Numbers.{same_processor, is_none, no_processor}
use Rattle.rules.specs.Tasks.{is_at}
use Rattle.rules.specs.declared.rule.Posting.TheVariants.{Nothing, Single, Adverts}
use Rattle.rules.specs.declared.message.Message.TheVariants.{Offered}
use Rattle.rules.specs.Cells.{is_unknown, offer, no_offer, counts, none_called, with_hint, with_held, with_noted, with_carried, carrying, holding, granting}
use Rattle.rules.specs.Send.{send_rule, send_passes, send_waits}
use Rattle.rules.specs.Receive.{call_to, receive_rule, receive_passes, receive_waits}

-- a site, and what a rule leaves, with another cell
abbrev pub at_cell : (Cell → Cell) → Site → Site
at_cell f x = record { sender = x.sender; receiver = x.receiver; sending = x.sending; receiving = x.receiving; cell = f x.cell }

abbrev pub left_cell : (Cell → Cell) → Outcome → Outcome
left_cell f o = record { sender = o.sender; receiver = o.receiver; cell = f o.cell; posting = o.posting; received = o.received }

-- under choices
three : (f : Outcome → Outcome) (a b c : Bool) (p q r s : Outcome) → pick a (f p) (pick b (f q) (pick c (f r) (f s))) ≡ f (pick a p (pick b q (pick c r s)))
three f true b c p q r s = refl
three f false true c p q r s = refl
three f false false true p q r s = refl
three f false false false p q r s = refl

four : (f : Outcome → Outcome) (a b c d : Bool) (p q r s t : Outcome)
    → pick a (f p) (pick b (f q) (pick c (f r) (pick d (f s) (f t)))) ≡ f (pick a p (pick b q (pick c r (pick d s t))))
four f true b c d p q r s t = refl
four f false b c d p q r s t = three f b c d q r s t

-- a send: the note
pub send_unseen : (n : ProcessorId) (x : Site) (c : ChannelId) (w : ℕ) → send_rule (at_cell (λ k. with_noted k n) x) c w ≡ left_cell (λ k. with_noted k n) (send_rule x c w)
unfolding send_rule send_passes send_waits
send_unseen n x c w =
    let d = x.sender.processor in
    let o = offer d w in
    let h = x.cell.entry.hint in
    four (left_cell (λ k. with_noted k n))
    (is_at d x.receiver && (x.receiving && not x.cell.channel.awaiting)) (is_at d x.receiver) (is_unknown h) (same_processor h.processor d)
    (send_passes x c w) (send_waits x (carrying x.cell o) Nothing) (send_waits x x.cell (Adverts c d)) (send_waits x (holding x.cell o) Nothing) (send_waits x x.cell (Single (Offered c o h)))

-- a receive: pointer and held offer
pub receive_unseen : (h : Hint) (o : Offer) (x : Site) (c : ChannelId) (w : ℕ) → receive_rule (at_cell (λ k. with_hint (with_held k o) h) x) c w ≡ left_cell (λ k. with_hint (with_held k o) h) (receive_rule x c w)
unfolding receive_rule receive_passes receive_waits
receive_unseen h o x c w =
    let d = x.receiver.processor in
    let q = x.cell.channel.carried in
    let a = x.cell.entry.noted in
    three (left_cell (λ k. with_hint (with_held k o) h))
    (x.sending && is_at d x.sender) (counts x.cell q) (none_called x.cell && not (is_none a))
    (receive_passes x c w) (receive_waits x (granting (with_carried x.cell no_offer)) (call_to q.processor c x.receiver))
    (receive_waits x (granting (with_noted x.cell no_processor)) (call_to a c x.receiver)) (receive_waits x x.cell Nothing)
