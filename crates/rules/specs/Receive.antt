-- Run: "Receive on c."
use Rattle.std.specs.Prelude.{not, ◌&&◌, ℕ, None, Some}
use Rattle.base.specs.Choice.{pick}
use Rattle.plan.specs.declared.ProcessorId.{ProcessorId}
use Rattle.plan.specs.declared.ChannelId.{ChannelId}
use Rattle.rules.specs.declared.task.Task.{Task}
use Rattle.rules.specs.declared.task.TaskState.TheVariants.{Receiving}
use Rattle.rules.specs.declared.channel.Cell.{Cell}
use Rattle.rules.specs.declared.message.Message.TheVariants.{ReadyToReceive}
use Rattle.rules.specs.declared.rule.Site.{Site}
use Rattle.rules.specs.declared.rule.Posting.{Posting}
use Rattle.rules.specs.declared.rule.Posting.TheVariants.{Nothing, Single}
use Rattle.rules.specs.declared.rule.Outcome.{Outcome}
use Rattle.rules.specs.Numbers.{no_processor, is_none}
use Rattle.rules.specs.Tasks.{is_at, with_state, advanced, readied, taking}
use Rattle.rules.specs.Cells.{hint, no_offer, counts, none_called, with_noted, with_carried, granting, passing}

-- "a call letter with (d, move count) goes to the offering desk": from the receiver x
abbrev pub call_to : ProcessorId → ChannelId → Task → Posting
call_to from c x = Single (ReadyToReceive c from (hint x.processor x.moves))

-- "the word passes directly, called becomes that send's number, a carried offer for c is dropped, the sender is ready"
unfoldable pub receive_passes : Site → ChannelId → ℕ → Outcome
receive_passes x c w =
    record {
      sender = readied x.sender;
      receiver = advanced (taking x.receiver x.sender.word);
      cell = with_carried (passing x.cell w) no_offer;
      posting = Nothing;
      received = Some (c, x.sender.word);
    }

-- "Else it is receiving": the cell then, and what is posted
unfoldable pub receive_waits : Site → Cell → Posting → Outcome
receive_waits x cell posting =
    record { sender = x.sender; receiver = advanced (with_state x.receiver Receiving); cell = cell; posting = posting; received = None }

-- "If its sender is sending on c at d: the word passes directly .. Else it is receiving; a carried offer that counts, else if called is 0 an
-- advert noted at d, is answered: it is removed, called goes up by one and a call letter .. goes to the offering desk."; w is the number
-- of the sender's last executed send on c
unfoldable pub receive_rule : Site → ChannelId → ℕ → Outcome
receive_rule x c w =
    let d = x.receiver.processor in
    let o = x.cell.channel.carried in
    let a = x.cell.entry.noted in
    pick (x.sending && is_at d x.sender) (receive_passes x c w)
    (pick (counts x.cell o) (receive_waits x (granting (with_carried x.cell no_offer)) (call_to o.processor c x.receiver))
    (pick (none_called x.cell && not (is_none a)) (receive_waits x (granting (with_noted x.cell no_processor)) (call_to a c x.receiver))
    (receive_waits x x.cell Nothing)))
