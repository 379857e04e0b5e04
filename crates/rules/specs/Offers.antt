-- Deliver: an offer letter and an advert. "Here \"receiving\" is on the letter's channel."
use Rattle.std.specs.Prelude.{not, ◌&&◌, None}
use Rattle.base.specs.Choice.{pick}
use Rattle.plan.specs.declared.ProcessorId.{ProcessorId}
use Rattle.plan.specs.declared.ChannelId.{ChannelId}
use Rattle.rules.specs.declared.channel.Hint.{Hint}
use Rattle.rules.specs.declared.channel.Offer.{Offer}
use Rattle.rules.specs.declared.channel.Cell.{Cell}
use Rattle.rules.specs.declared.message.Message.TheVariants.{Offered}
use Rattle.rules.specs.declared.rule.Site.{Site}
use Rattle.rules.specs.declared.rule.Posting.{Posting}
use Rattle.rules.specs.declared.rule.Posting.TheVariants.{Nothing, Single}
use Rattle.rules.specs.declared.rule.Outcome.{Outcome}
use Rattle.rules.specs.Tasks.{is_at}
pub use Rattle.rules.specs.Hints.{points_on}
use Rattle.rules.specs.Cells.{counts, none_called, carrying, holding, noting, granting}
use Rattle.rules.specs.Receive.{call_to}

-- both tasks stay as they are
abbrev pub kept : Site → Cell → Posting → Outcome
kept x cell posting = record { sender = x.sender; receiver = x.receiver; cell = cell; posting = posting; received = None }

-- "Offer at d: if it no longer counts and the receiver is here, dropped. Receiver here, receiving and not called: answered. Receiver here
-- otherwise: carried. Not here: if d's pointer names another desk with a larger count than the letter's, forwarded there with that count;
-- else held at d."; h is the letter's pointer, which names d
unfoldable pub offer_rule : Site → ChannelId → Offer → Hint → Outcome
offer_rule x c o h =
    let d = h.processor in
    let own = x.cell.entry.hint in
    pick (not (counts x.cell o) && is_at d x.receiver) (kept x x.cell Nothing)
    (pick (is_at d x.receiver && (x.receiving && not x.cell.channel.awaiting)) (kept x (granting x.cell) (call_to o.processor c x.receiver))
    (pick (is_at d x.receiver) (kept x (carrying x.cell o) Nothing)
    (pick (points_on own h d) (kept x x.cell (Single (Offered c o own)))
    (kept x (holding x.cell o) Nothing))))

-- "Advert: receiver here, receiving, called 0: answered. Else noted."; it is at d, from the desk `from`
unfoldable pub advert_rule : Site → ChannelId → ProcessorId → ProcessorId → Outcome
advert_rule x c d from =
    pick (is_at d x.receiver && (x.receiving && none_called x.cell)) (kept x (granting x.cell) (call_to from c x.receiver))
    (kept x (noting x.cell from) Nothing)
