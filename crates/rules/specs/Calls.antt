-- Deliver: a call and a word letter. "Where that isn't so, the letter is removed without effect".
use Rattle.std.specs.Prelude.{◌&&◌, None, Some}
use Rattle.base.specs.Choice.{pick}
use Rattle.plan.specs.declared.ProcessorId.{ProcessorId}
use Rattle.plan.specs.declared.ChannelId.{ChannelId}
use Rattle.plan.specs.declared.Word.{Word as WordOf}
use Rattle.rules.specs.declared.channel.Hint.{Hint}
use Rattle.rules.specs.declared.message.Message.TheVariants.{Data}
use Rattle.rules.specs.declared.rule.Site.{Site}
use Rattle.rules.specs.declared.rule.Posting.TheVariants.{Nothing, Single}
use Rattle.rules.specs.declared.rule.Outcome.{Outcome}
use Rattle.rules.specs.Tasks.{is_at, readied, taking}
use Rattle.rules.specs.Cells.{newer, with_hint, cleared}
use Rattle.rules.specs.Offers.{kept}

-- "Call: the sender is ready, its desk's pointer becomes the newer of the two, a word letter leaves."; "A call supposes its sender sending on
-- that channel at the letter's desk"; h is the call's pointer, where the receiver is
unfoldable pub call_rule : Site → ChannelId → ProcessorId → Hint → Outcome
call_rule x c d h =
    pick (x.sending && is_at d x.sender)
    (record {
      sender = readied x.sender;
      receiver = x.receiver;
      cell = with_hint x.cell (newer x.cell.entry.hint h);
      posting = Single (Data c h.processor x.sender.word);
      received = None;
    })
    (kept x x.cell Nothing)

-- "Word: the receiver takes it and is ready."; "a word, its receiver there, receiving and having called"
unfoldable pub data_rule : Site → ChannelId → ProcessorId → WordOf → Outcome
data_rule x c d w =
    pick (is_at d x.receiver && (x.receiving && x.cell.channel.awaiting))
    (record {
      sender = x.sender;
      receiver = taking x.receiver w;
      cell = cleared x.cell;
      posting = Nothing;
      received = Some (c, w);
    })
    (kept x x.cell Nothing)
