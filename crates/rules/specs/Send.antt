-- Run: "Send on c, the sender's w-th on that channel by its instructions, from 1."
use Rattle.std.specs.Prelude.{not, ◌&&◌, ℕ, None, Some}
use Rattle.base.specs.Choice.{pick}
use Rattle.plan.specs.declared.ChannelId.{ChannelId}
use Rattle.rules.specs.declared.task.TaskState.TheVariants.{Sending}
use Rattle.rules.specs.declared.channel.Cell.{Cell}
use Rattle.rules.specs.declared.message.Message.TheVariants.{Offered}
use Rattle.rules.specs.declared.rule.Site.{Site}
use Rattle.rules.specs.declared.rule.Posting.{Posting}
use Rattle.rules.specs.declared.rule.Posting.TheVariants.{Nothing, Single, Adverts}
use Rattle.rules.specs.declared.rule.Outcome.{Outcome}
use Rattle.rules.specs.Numbers.{same_processor}
use Rattle.rules.specs.Tasks.{is_at, with_state, advanced, taking}
use Rattle.rules.specs.Cells.{is_unknown, offer, carrying, holding, passing}

-- "the word passes directly, called becomes w, the receiver is ready"
unfoldable pub send_passes : Site → ChannelId → ℕ → Outcome
send_passes x c w =
    record {
      sender = advanced x.sender;
      receiver = taking x.receiver x.sender.word;
      cell = passing x.cell w;
      posting = Nothing;
      received = Some (c, x.sender.word);
    }

-- "Else the sender is sending": what then becomes of the offer
unfoldable pub send_waits : Site → Cell → Posting → Outcome
send_waits x cell posting =
    record { sender = advanced (with_state x.sender Sending); receiver = x.receiver; cell = cell; posting = posting; received = None }

-- "If the receiver is at d, receiving on c and has not called: the word passes directly .. Else the sender is sending, and: receiver at d, it
-- carries offer (d, w); else pointer unknown, an advert to every other desk ..; else pointer names d, the offer is held at d; else an offer
-- letter (c, d, w, the pointer's count) goes to the pointer's desk."
unfoldable pub send_rule : Site → ChannelId → ℕ → Outcome
send_rule x c w =
    let d = x.sender.processor in
    let o = offer d w in
    let h = x.cell.entry.hint in
    pick (is_at d x.receiver && (x.receiving && not x.cell.channel.awaiting)) (send_passes x c w)
    (pick (is_at d x.receiver) (send_waits x (carrying x.cell o) Nothing)
    (pick (is_unknown h) (send_waits x x.cell (Adverts c d))
    (pick (same_processor h.processor d) (send_waits x (holding x.cell o) Nothing)
    (send_waits x x.cell (Single (Offered c o h))))))
